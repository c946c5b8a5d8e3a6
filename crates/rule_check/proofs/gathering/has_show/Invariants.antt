use Rattle.std.proofs.Common.{◌≡◌, false, take, map}
use Rattle.rule_ast.specs.Plain.{plain_statement}
use Rattle.rule_check.specs.Names.{has_show}
use Rattle.rule_check.proofs.gathering.has_show.Given as goal

abbrev pub invariant-loop-statement : goal.invariant-loop-statement
invariant-loop-statement l = has_show (map plain_statement (take l.statement-index l.statements)) ≡ false
