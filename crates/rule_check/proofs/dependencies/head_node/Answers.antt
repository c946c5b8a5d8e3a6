use Rattle.std.proofs.Common.{◌∙◌, sym, length}
use Rattle.rule_ast.specs.Plain.{plain_rule}
use Rattle.rule_check.specs.Names.{head_name}
use Rattle.rule_check.specs.Numbers.{place}
use Rattle.rule_check.proofs.Placing.{placed_somewhere}
use Rattle.rule_check.proofs.dependencies.head_node.Goals as goal

pub unreachable-requires : goal.unreachable-requires
unreachable-requires c =
    placed_somewhere c.args.heads.now (head_name (plain_rule c.args.rule.now)) c.requires.known
    (sym c.in-None.is ∙ c.in_ok-number.ensures ∙ (λ i. place c.args.heads.now (record { name = c.args.rule.now.head.name; arity = length (c.as_slice.ensures i) })))
