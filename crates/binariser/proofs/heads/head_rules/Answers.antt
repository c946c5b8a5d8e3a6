use Rattle.std.proofs.Common.{ap, sym, ◌∙◌, ◌++◌, ◌∷◌, []}
use Rattle.rule_ast.specs.Plain.{plain_statement}
use Rattle.binariser.specs.Heads.{rules_for}
use Rattle.binariser.proofs.HeadLaws.{shaped_at, one_statement}
use Rattle.binariser.proofs.heads.head_rules.Goals as goal

pub add_statement-requires : goal.add_statement-requires
add_statement-requires c =
    shaped_at c.args.statements.now c.loop-statement.statement-index c.statement-item.result c.loop-statement-test.true
    c.statement-item.is c.requires

pub loop-statement-preserved : goal.loop-statement-preserved
loop-statement-preserved c = λ n.
    c.in_ok-add_statement.ensures n
    ∙ ap (λ l. l ++ rules_for (plain_statement c.statement-item.result ∷ []) n) (c.loop-statement.invariant n)
    ∙ sym (one_statement c.args.statements.now c.loop-statement.statement-index c.statement-item.result n c.loop-statement-test.true
    c.statement-item.is)
