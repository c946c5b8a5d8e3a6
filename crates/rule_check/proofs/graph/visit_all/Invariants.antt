use Rattle.rule_check.specs.Graphs.{RankedBelow}
use Rattle.rule_check.proofs.graph.visit_all.Given as goal

abbrev pub invariant-loop-node : goal.invariant-loop-node
invariant-loop-node l = RankedBelow l.graph l.marks l.node
