use Rattle.std.proofs.Common.{arith, ◌∙◌}
use Rattle.rule_check.proofs.NameGraph.{empty_rows}
use Rattle.rule_check.proofs.dependencies.empty_rows.Goals as goal

pub returns : goal.returns
returns c = c.loop-node.invariant ∙ empty_rows c.args.heads.now c.loop-node._node (omega arith)
