use Rattle.std.proofs.Common.{[], sym, subst}
use Rattle.rule_ast.specs.Plain.{plain_rules}
use Rattle.step_meaning.specs.NamedSteps.{plan_lower}
use Rattle.step_meaning.specs.Operands.{AreLower}
use Rattle.goal_purge.proofs.caps.lengths.Goals as goal

pub caps_of-requires : goal.caps_of-requires
caps_of-requires c =
    subst (λ p. AreLower p.steps) (sym c.requires) (plan_lower (plain_rules c.args.checked.now) [] c.rules-rules.ensures.ranking)
