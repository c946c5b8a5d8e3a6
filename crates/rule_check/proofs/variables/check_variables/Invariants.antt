use Rattle.std.proofs.Common.{take}
use Rattle.rule_check.specs.Gathered.{rules_at}
use Rattle.rule_check.proofs.CleanRules.{Clean}
use Rattle.rule_check.proofs.variables.check_variables.Given as goal

abbrev pub invariant-loop-rule : goal.invariant-loop-rule
invariant-loop-rule l = Clean (rules_at (take l.rule-index l.rules)) l.number
