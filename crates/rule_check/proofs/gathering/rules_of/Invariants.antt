use Rattle.std.proofs.Common.{◌≡◌, take, map}
use Rattle.rule_ast.specs.Plain.{plain_statement}
use Rattle.rule_check.specs.Gathered.{rules_at}
use Rattle.rule_check.specs.Sound.{rules_of}
use Rattle.rule_check.proofs.gathering.rules_of.Given as goal

abbrev pub invariant-loop-statement : goal.invariant-loop-statement
invariant-loop-statement l = rules_at l.rules.items ≡ rules_of (map plain_statement (take l.statement-index l.statements))
