use Rattle.match_step.specs.Rows.{join_at}
use Rattle.match_step.proofs.RowLaws.{works_on}
use Rattle.match_step.proofs.joining.JoinStep.work.Goals as goal

pub returns : goal.returns
returns c = let j = c.args.self.now in let h = rw c.in-Some.is at c.in_ok-rest.ensures in
    works_on (join_at j c.args.place.now c.args.pending.now) (join_at j c.finish_row.new.place c.finish_row.new.pending)
    (join_at j c.begin_rows.new.place c.begin_rows.new.pending) c.args.units c.in-Some.rest c.begin_rows.result h.0 c.begin_rows.ensures
