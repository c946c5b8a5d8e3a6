use Rattle.row_changes.specs.Visits.{Made}
use Rattle.step_changes.specs.Notes.{noted}
use Rattle.step_changes.specs.Tasks.{at_left}
use Rattle.negation_witness.specs.Looking.{rows_or_none}
use Rattle.negation_witness.specs.Working.{tests_of, Walks}
use Rattle.negation_witness.proofs.subtracting.MinusStep.test_rows.Given as goal

abbrev pub invariant-loop-units : goal.invariant-loop-units
invariant-loop-units l = record {
  made : Made (at_left (tests_of l.self l.end (rows_or_none l.initial.rows)) (noted l.initial.pending))
      (at_left (tests_of l.self l.end (rows_or_none l.rows)) (noted l.pending)) l.initial.units l.units;
  store : Walks l.self l.rows;
}

abbrev pub decreases-loop-units : goal.decreases-loop-units
decreases-loop-units l = l.units
