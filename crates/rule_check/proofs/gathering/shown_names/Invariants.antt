use Rattle.std.proofs.Common.{◌≡◌, take, map}
use Rattle.rule_ast.specs.Plain.{plain_statement}
use Rattle.rule_ast.specs.Shown.{shown_names}
use Rattle.rule_check.proofs.gathering.shown_names.Given as goal

abbrev pub invariant-loop-statement : goal.invariant-loop-statement
invariant-loop-statement l = l.names.items ≡ shown_names (map plain_statement (take l.statement-index l.statements))
