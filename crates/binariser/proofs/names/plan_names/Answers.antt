use Rattle.std.proofs.Common.{◌≡◌, ap, ◌∙◌, subst, IfOk}
use Rattle.ordered_lists.specs.Canon.{canon}
use Rattle.rule_ast.specs.Plain.{plain_rules}
use Rattle.rule_check.specs.Sound.{rules_of}
use Rattle.step_meaning.specs.PlanOf.{by_rank}
use Rattle.binariser.proofs.RankLaws.{plan_order}
use Rattle.binariser.proofs.names.plan_names.Goals as goal

pub returns : goal.returns
returns c =
    subst (λ l. IfOk c.in_plan_order.result (λ v. v.items ≡ l))
    (ap (canon (by_rank (rules_of (plain_rules c.args.checked.now)))) c.as_slice.ensures.keys
    ∙ plan_order (plain_rules c.args.checked.now) c.in_ok-needed.needed.keys c.in_ok-needed.ensures)
    c.in_plan_order.ensures
