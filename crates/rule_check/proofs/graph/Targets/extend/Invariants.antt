use Rattle.std.proofs.Common.{◌≡◌, ◌++◌, take}
use Rattle.rule_check.proofs.graph.Targets.extend.Given as goal

abbrev pub invariant-loop-node : goal.invariant-loop-node
invariant-loop-node l = l.self-inside.nodes.items ≡ l.initial.self-inside.nodes.items ++ take l.node-index l.more
