use Rattle.std.proofs.Common.{◌≡◌, ap, ◌∙◌, map, subst, IfOk}
use Rattle.ordered_lists.specs.Canon.{canon}
use Rattle.rule_ast.specs.Plain.{plain_rules}
use Rattle.rule_check.specs.Sound.{rules_of}
use Rattle.binariser.specs.Ranks.{ranked_cmp, exact_ranked}
use Rattle.binariser.proofs.RankLaws.{in_order}
use Rattle.binariser.proofs.ranks.in_plan_order.Goals as goal

pub sort_unique-requires : goal.sort_unique-requires
sort_unique-requires c = exact_ranked

pub returns : goal.returns
returns c =
    subst (λ l. IfOk c.without_ranks.result (λ v. v.items ≡ l))
    (ap (map (λ p. p.1)) (c.in_ok-sort_unique.ensures.ok ∙ ap (canon ranked_cmp) c.in_ok-all.ensures)
    ∙ in_order (rules_of (plain_rules c.args.checked.now)) c.args.names.now)
    c.without_ranks.ensures
