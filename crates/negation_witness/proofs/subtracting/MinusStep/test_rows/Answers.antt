use Rattle.std.proofs.Common.{◌≡◌, subst, arith}
use Rattle.row_changes.specs.Visits.{Made}
use Rattle.goal_store.specs.Walks.{rows_left}
use Rattle.step_changes.specs.Notes.{noted}
use Rattle.step_changes.specs.Tasks.{at_left}
use Rattle.negation_witness.specs.Looking.{rows_or_none}
use Rattle.negation_witness.specs.Working.{tests_of}
use Rattle.negation_witness.proofs.WorkLaws.{row_tested, rows_over, under_made, under_stops}
use Rattle.negation_witness.proofs.subtracting.MinusStep.test_rows.Goals as goal

pub loop-units-preserved : goal.loop-units-preserved
loop-units-preserved c = record {
  made = row_tested c.args.self.now c.args.end _ (rows_or_none c.loop-units.rows) (rows_left c.in-Some.behind) c.in-Some.row.now
      (noted c.loop-units.pending) (noted c.note_test.new.pending) _ c.loop-units.units c.loop-units.invariant.made c.loop-units-test.true
      c.in-Some.ensures.rows c.in_ok-note_test.ensures;
  store = c.in-Some.ensures.store;
}

pub returns-in_default-clause-made : goal.returns-in_default-clause-made
returns-in_default-clause-made c = rows_over c.args.self.now c.args.end _ (rows_or_none c.loop-units.rows) (noted c.loop-units.pending) _
    c.loop-units.units c.loop-units.invariant.made c.in_default.ensures.rows

pub returns-clause-made : goal.returns-clause-made
returns-clause-made c = let m = c.args.self.now in let k = c.loop-units in let z : k.units ≡ 0 = omega (arith, c.loop-units-test.false) in
    let from = at_left (tests_of m c.args.end (rows_or_none c.args.rows.now)) (noted c.args.pending.now) in
    under_made m c.args.end c.left_under.result (rows_or_none k.rows) c.left_under.ensures from (noted k.pending) c.args.units 0
    (subst (λ u. Made from (at_left (tests_of m c.args.end (rows_or_none k.rows)) (noted k.pending)) c.args.units u) z k.invariant.made)

pub returns-clause-stops : goal.returns-clause-stops
returns-clause-stops c =
    under_stops c.args.self.now c.args.end c.left_under.result (rows_or_none c.loop-units.rows) c.left_under.ensures
