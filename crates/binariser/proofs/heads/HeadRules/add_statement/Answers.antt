use Rattle.std.proofs.Common.{ap, sym, ◌∙◌}
use Rattle.rule_ast.specs.Plain.{plain_rule, plain_statement}
use Rattle.rule_ast.specs.Shaped.{is_shaped_statement}
use Rattle.binariser.proofs.HeadLaws.{short_head}
use Rattle.binariser.proofs.heads.HeadRules.add_statement.Goals as goal

pub add-requires : goal.add-requires
add-requires c = short_head (plain_rule c.in-Rule.rule) (ap (λ s. is_shaped_statement (plain_statement s)) (sym c.in-Rule.is) ∙ c.requires)
