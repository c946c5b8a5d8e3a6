use Rattle.std.proofs.Common.{take}
use Rattle.rule_check.specs.Gathered.{rules_at}
use Rattle.rule_check.proofs.Cycling.{NoCycleYet}
use Rattle.rule_check.proofs.dependencies.first_cycle.Given as goal

abbrev pub invariant-loop-rule : goal.invariant-loop-rule
invariant-loop-rule l = NoCycleYet (rules_at l.rules) (rules_at (take l.rule-index l.rules)) l.number
