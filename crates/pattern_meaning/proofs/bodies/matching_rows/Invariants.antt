use Rattle.std.proofs.Common.{◌≡◌, ◌++◌, drop}
use Rattle.std.specs.List.{flat_map}
use Rattle.pattern_meaning.specs.Found.{matched_rows}
use Rattle.pattern_meaning.proofs.bodies.matching_rows.Given as goal

-- the rows so far and those that are left are all
abbrev pub invariant-loop-detection : goal.invariant-loop-detection
invariant-loop-detection l = l.rows.items ++ flat_map (matched_rows l.pat) (drop l.detection-index l.found) ≡ flat_map (matched_rows l.pat) l.found
