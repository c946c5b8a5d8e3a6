use Rattle.std.proofs.Common.{◌-◌, length}
use Rattle.row_changes.specs.Visits.{Made}
use Rattle.negation_witness.specs.Working.{place_at, tasks_of, IsOver}
use Rattle.negation_witness.proofs.subtracting.MinusStep.next_rows.Given as goal

abbrev pub invariant-changed : goal.invariant-changed
invariant-changed l = record {
  made : Made (place_at l.self l.initial.place l.initial.pending) (place_at l.self l.place l.pending) l.initial.units l.units;
  over : IsOver l.place;
}

abbrev pub decreases-changed : goal.decreases-changed
decreases-changed l = length (tasks_of l.self) - l.place.at
