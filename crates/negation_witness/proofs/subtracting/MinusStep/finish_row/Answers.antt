use Rattle.std.proofs.Common.{ap, sym, ◌∙◌, subst, List}
use Rattle.std.specs.Prelude.{IfOk}
use Rattle.row_changes.specs.Visits.{Visit}
use Rattle.goal_store.specs.Goals.{rest}
use Rattle.negation_witness.specs.Working.{tests_of, under_of, RowWork}
use Rattle.negation_witness.proofs.WorkLaws.{no_row, walk_is}
use Rattle.negation_witness.proofs.subtracting.MinusStep.finish_row.Goals as goal

pub returns-in_default : goal.returns-in_default
returns-in_default c = no_row c.args.self.now c.args.place.now c.args.pending.now c.args.units c.in_default.is

pub returns : goal.returns
returns c = let m = c.args.self.now in let place = c.args.place.now in let test = c.in-Some.test in
    subst (λ (xs : List Visit). IfOk c.walk_row.result (λ r. RowWork m place.at xs c.walk_row.new.place
    c.args.pending.now c.walk_row.new.pending
    c.args.units r))
    (ap (tests_of m test.end) (walk_is c.rows_from-rows.result (rest m.goals.now test.cursor) c.rows_from-rows.ensures.rows)
    ∙ sym (ap (under_of m) c.in-Some.is)) c.walk_row.ensures
