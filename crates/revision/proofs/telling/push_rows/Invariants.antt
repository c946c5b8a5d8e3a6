use Rattle.std.proofs.Common.{◌≡◌, ◌++◌, drop, map}
use Rattle.pattern_meaning.specs.Standing.{detection_of}
use Rattle.change_meaning.specs.Shown.{signed_rows}
use Rattle.step_changes.specs.Deltas.{plain_deltas}
use Rattle.revision.proofs.telling.push_rows.Given as goal

-- the detections so far and those of the rows that are left are all
abbrev pub invariant-loop-delta : goal.invariant-loop-delta
invariant-loop-delta l =
    l.out.items ++ map (detection_of l.name) (signed_rows l.sign (plain_deltas (drop l.delta-index l.rows)))
    ≡ l.initial.out.items ++ map (detection_of l.name) (signed_rows l.sign (plain_deltas l.rows))
