use Rattle.support_table.proofs.Counting.{counts_before, counts_none}
use Rattle.goal_purge.proofs.purging.forget.Goals as goal

pub returns-in-Some : goal.returns-in-Some
returns-in-Some c = counts_before c.args.supports.now c.forget_at.new.self c.release.new.self c.args.step c.args.row.now 0
    (c.forget_at.ensures.counts c.args.row.now c.in-Some.ensures) c.release.ensures.counts

pub returns-in-None : goal.returns-in-None
returns-in-None c = counts_none c.args.supports.now c.args.step c.args.row.now c.in-None.ensures
