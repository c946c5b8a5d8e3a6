-- Ranks by the graph are those of the definition.
use Rattle.std.proofs.Common.{◌≡◌, ℕ, zero, suc, ◌+◌, ◌<◌, ◌≤◌, max, Bool, true, false, cond, ◌||◌, Option, Some, None, List, [], ◌∷◌, length, map, refl, ap, sym, subst, ◌∙◌, arith}
use Rattle.std.specs.Ordering.{is_eq}
use Rattle.std.proofs.lemmas.Bool.{or_right}
use Rattle.ordered_lists.specs.Canon.{has}
use Rattle.event_model.specs.declared.atoms.NameArity.{NameArity}
use Rattle.event_model.specs.EventOrder.{name_cmp}
use Rattle.rule_ast.specs.Trees.{PlainRule}
use Rattle.rule_check.specs.Names.{head_names}
use Rattle.rule_check.specs.Graphs.{greatest, IsRankList}
use Rattle.rule_check.specs.Numbers.{place, rank_by}
use Rattle.rule_check.specs.Cycles.{below, IsRanking, rank_within, rank_of, graph_of}
use Rattle.rule_check.proofs.Placing.{itself, place_below}
use Rattle.rule_check.proofs.NameGraph.{graph_length}
use Rattle.rule_check.proofs.Cycling.{at_most, by_place, rank_is}

greatest_agree : (f g : NameArity → ℕ) (names : List NameArity) → ((m : NameArity) → has name_cmp m names ≡ true → f m ≡ g m) → greatest (map f names) ≡ greatest (map g names)
greatest_agree f g [] h = refl
greatest_agree f g (n ∷ names) h =
    λ i. max (h n (ap (λ b. b || has name_cmp n names) (itself n)) i) (greatest_agree f g names (λ m e. h m (or_right (is_eq (name_cmp m n)) (has name_cmp m names) e)) i)

module _ (rules : List PlainRule) (rank : NameArity → ℕ) (r : IsRanking rules rank) where
  -- from its rank on a name has one rank
  pub rank_settles : (k : ℕ) (n : NameArity) → rank n ≤ k → rank_within k rules n ≡ rank n
  rank_settles zero n h = omega arith
  rank_settles (suc k) n h = at (has name_cmp n (head_names rules)) (r n)
      (λ b. greatest_agree (rank_within k rules) rank (below rules n) (λ m e. rank_settles k m (let most = at_most rules rank r (below rules n) m e in omega (arith, b, most, h))))
    where
      at : (b : Bool) → rank n ≡ cond b (greatest (map rank (below rules n)) + 1) 0
          → (rank n ≡ greatest (map rank (below rules n)) + 1 → greatest (map (rank_within k rules) (below rules n)) ≡ greatest (map rank (below rules n)))
          → cond b (greatest (map (rank_within k rules) (below rules n)) + 1) 0 ≡ rank n
      at true is same = ap (λ g. g + 1) (same is) ∙ sym is
      at false is same = sym is

  pub rank_is_one : ((n : NameArity) → rank n ≤ length rules) → (n : NameArity) → rank n ≡ rank_of rules n
  unfolding rank_of
  rank_is_one h n = sym (rank_settles (length rules) n (h n))

  pub one_ranking : ((n : NameArity) → rank n ≤ length rules) → IsRanking rules (rank_of rules)
  one_ranking h = subst (IsRanking rules) (λ i n. rank_is_one h n i) r

-- a rank is no more than there are rules
pub few_ranks : (heads : List NameArity) (rules : List PlainRule) (ranks : List ℕ) → length heads ≤ length rules → IsRankList (graph_of heads rules) ranks → (n : NameArity) → rank_by heads ranks n ≤ length rules
few_ranks heads rules ranks all r n = at (place heads n) refl (rank_is heads ranks n)
  where
    at : (o : Option ℕ) → place heads n ≡ o → rank_by heads ranks n ≡ by_place o ranks → rank_by heads ranks n ≤ length rules
    at None p e = let z : rank_by heads ranks n ≡ 0 = e in omega (arith, z)
    at (Some i) p e =
        let sized = graph_length heads rules in
        let inside = place_below heads n i p in
        let here : i < length (graph_of heads rules) = omega (arith, inside, sized) in
        let few = r.few i here in
        omega (arith, e, few, sized, all)
