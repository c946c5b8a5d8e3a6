use Rattle.std.proofs.Common.{None}
use Rattle.support_table.specs.Supports.{counts_only}
use Rattle.support_table.proofs.kept.Supports.forget_at.Goals as goal

pub returns-clause-counts : goal.returns-clause-counts
returns-clause-counts c = λ row held.
    counts_only c.args.self.now _ c.args.number c.args.step row None held c.remove.ensures.gone c.remove.ensures.steps
    c.remove.ensures.others c.remove.ensures.keys
