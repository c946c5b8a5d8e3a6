use Rattle.std.proofs.Common.{◌≡◌, take}
use Rattle.rule_check.specs.Cycles.{graph_of}
use Rattle.rule_check.specs.Gathered.{rules_at}
use Rattle.rule_check.proofs.dependencies.graph_of.Given as goal

abbrev pub invariant-loop-rule : goal.invariant-loop-rule
invariant-loop-rule l = l.rows.items ≡ graph_of l.heads (rules_at (take l.rule-index l.rules))
