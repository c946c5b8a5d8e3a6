use Rattle.std.proofs.Common.{◌≡◌, ◌++◌, drop}
use Rattle.pattern_meaning.specs.Found.{of_name}
use Rattle.pattern_meaning.proofs.evaluating.push_named.Given as goal

-- the detections so far and those that are left are all
abbrev pub invariant-loop-detection : goal.invariant-loop-detection
invariant-loop-detection l = l.shown.items ++ of_name l.name (drop l.detection-index l.found) ≡ l.initial.shown.items ++ of_name l.name l.found
