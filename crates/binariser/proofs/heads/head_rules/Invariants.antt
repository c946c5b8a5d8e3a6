use Rattle.std.proofs.Common.{◌≡◌, map, take}
use Rattle.event_model.specs.declared.atoms.NameArity.{NameArity}
use Rattle.rule_ast.specs.Plain.{plain_statement}
use Rattle.binariser.specs.Heads.{rules_in, rules_for}
use Rattle.binariser.proofs.heads.head_rules.Given as goal

abbrev pub invariant-loop-statement : goal.invariant-loop-statement
invariant-loop-statement l =
    (n : NameArity) → rules_in l.heads n ≡ rules_for (map plain_statement (take l.statement-index l.statements)) n
