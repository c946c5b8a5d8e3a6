use Rattle.support_table.proofs.Counting.{counts_before, counts_none}
use Rattle.support_table.proofs.kept.Supports.forget.Goals as goal

pub returns-in-Some : goal.returns-in-Some
returns-in-Some c = counts_before c.args.self.now _ c.release.new.self c.args.step c.args.row.now 0
    (c.forget_at.ensures.counts c.args.row.now c.in-Some.ensures) c.release.ensures.counts

pub returns-in-None : goal.returns-in-None
returns-in-None c = counts_none c.args.self.now c.args.step c.args.row.now c.in-None.ensures
