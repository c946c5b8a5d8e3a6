use Rattle.std.proofs.Common.{ℕ, List, map, rules}
use Rattle.std.specs.List.Sorted.{IsNonDecreasingBy, IsStableByKey}
use Rattle.std.specs.Ordering.{nat_cmp}
use Rattle.std.proofs.lemmas.List.Sorted.{IsNonDecreasingBy-from_sort_by_key, answers_always, length_permutation}
use Rattle.rule_ast.specs.Plain.{plain_rule, plain_rules}
use Rattle.rule_check.specs.Cycles.{rank_of}
use Rattle.rule_check.specs.Graphs.{greatest}
use Rattle.rule_check.specs.Names.{outputs}
use Rattle.rule_check.specs.Sound.{rules_of}
use Rattle.pattern_meaning.specs.declared.rule_order.Ranked.{Ranked}
use Rattle.pattern_meaning.proofs.OrderLaws.{sorted_in_order, same_classes}
use Rattle.pattern_meaning.proofs.rule_order.rules_by_rank.Goals as goal

pub returns-clause-ordered : goal.returns-clause-ordered
returns-clause-ordered c =
    let statements = plain_rules c.args.checked.now in
    let all = rules_of statements in
    let xs : List Ranked = c.in_ok-ranked.ranked.items in
    let ys : List Ranked = c.sort_by_key.new.self.items in
    let key : Ranked → ℕ = λ r. r.rank in
    let sorts = c.in_ok-sort_by_key.ensures in
    let rises : IsNonDecreasingBy key ys = IsNonDecreasingBy-from_sort_by_key key ys sorts.sorted (λ a r q k. search rules) in
    let stable : IsStableByKey key nat_cmp xs ys = sorts.stable key (answers_always _ _ _ (λ f a r q k. search rules)) in
    sorted_in_order all c.ranked_rules.ensures.ranking (greatest (map (rank_of all) (outputs statements))) key (λ r. plain_rule r.rule.now)
    xs ys c.in_ok-ranked.ensures.ranks sorts.permutation rises (same_classes xs ys (length_permutation xs ys sorts.permutation) stable)
