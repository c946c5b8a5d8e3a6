use Rattle.std.proofs.Common.{◌≡◌, ◌-◌, length, None}
use Rattle.row_changes.specs.Visits.{Made}
use Rattle.match_step.specs.Rows.{tasks, join_at}
use Rattle.match_step.proofs.joining.JoinStep.begin_rows.Given as goal

abbrev pub invariant-loop-side : goal.invariant-loop-side
invariant-loop-side l = record {
  made : Made (join_at l.self l.initial.place l.initial.pending) (join_at l.self l.place l.pending) l.initial.units l.units;
  none : l.place.under ≡ None;
}

abbrev pub decreases-loop-side : goal.decreases-loop-side
decreases-loop-side l = length (tasks l.self) - l.place.begun
