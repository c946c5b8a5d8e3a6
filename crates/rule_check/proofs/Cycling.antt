-- Cycles of names and of nodes, and ranks of both.
use Rattle.std.proofs.Common.{length-append, ◌≡◌, ℕ, suc, ◌+◌, ◌<◌, ◌≤◌, max, Bool, true, false, cond, ◌||◌, Option, Some, None, List, [], ◌∷◌, ◌++◌, length, get_or, map, refl, ap, sym, subst, ◌∙◌, inl, inr, arith}
use Rattle.std.specs.List.{cons_option}
use Rattle.std.specs.Option.{option_map}
use Rattle.std.specs.Bool.{Decides}
use Rattle.std.specs.Ordering.{is_eq}
use Rattle.std.proofs.Math.Logic.{⊎_elim}
use Rattle.std.proofs.lemmas.Bool.{true≢false, or_left, or_right, or_cases}
use Rattle.std.proofs.lemmas.List.{length-map}
use Rattle.ordered_lists.specs.Canon.{has, has-append}
use Rattle.event_model.specs.declared.atoms.NameArity.{NameArity}
use Rattle.rule_ast.specs.Trees.{PlainRule}
use Rattle.rule_ast.specs.Vars.{is_in}
use Rattle.event_model.specs.EventOrder.{name_cmp, exact_names, same_names}
use Rattle.rule_check.specs.Names.{head_name, head_names, body_names}
use Rattle.rule_check.specs.Graphs.{Reaches, stop, step, HasCycle, greatest, leads, IsRankList}
use Rattle.rule_check.specs.Marking.{AnyReaches}
use Rattle.rule_check.specs.Numbers.{place, places, rank_by}
use Rattle.rule_check.specs.Cycles.{below, stands_on, IsOnCycle, AreAcyclic, IsFirstCycle, IsRanking, graph_of}
use Rattle.rule_check.proofs.Placing.{itself, no_place, place_below, place_name, place_some, in_places, places_in}
use Rattle.rule_check.proofs.NameGraph.{targets_of, lead_from, lead_to}

-- the names below a name, rule by rule
below_cases : (r : PlainRule) (rs : List PlainRule) (n m : NameArity) {P : Type 0} → (is_eq (name_cmp n (head_name r)) ≡ true → has name_cmp m (body_names r.body) ≡ true → P) → (has name_cmp m (below rs n) ≡ true → P)
    → has name_cmp m (below (r ∷ rs) n) ≡ true → P
below_cases r rs n m {P = P} f g e = at (is_eq (name_cmp n (head_name r))) refl (sym (has-append exact_names m (cond (is_eq (name_cmp n (head_name r))) (body_names r.body) []) (below rs n)) ∙ e)
  where
    at : (b : Bool) → is_eq (name_cmp n (head_name r)) ≡ b → (has name_cmp m (cond b (body_names r.body) []) || has name_cmp m (below rs n)) ≡ true → P
    at true is h = ⊎_elim (f is) g (or_cases (has name_cmp m (body_names r.body)) (has name_cmp m (below rs n)) h)
    at false is h = g h

below_here : (r : PlainRule) (rs : List PlainRule) (m : NameArity) → has name_cmp m (body_names r.body) ≡ true → has name_cmp m (below (r ∷ rs) (head_name r)) ≡ true
below_here r rs m e =
    has-append exact_names m (cond (is_eq (name_cmp (head_name r) (head_name r))) (body_names r.body) []) (below rs (head_name r))
    ∙ or_left (has name_cmp m (cond (is_eq (name_cmp (head_name r) (head_name r))) (body_names r.body) [])) (has name_cmp m (below rs (head_name r)))
    (ap (λ b. has name_cmp m (cond b (body_names r.body) [])) (itself (head_name r)) ∙ e)

below_there : (r : PlainRule) (rs : List PlainRule) (n m : NameArity) → has name_cmp m (below rs n) ≡ true → has name_cmp m (below (r ∷ rs) n) ≡ true
below_there r rs n m e =
    has-append exact_names m (cond (is_eq (name_cmp n (head_name r))) (body_names r.body) []) (below rs n)
    ∙ or_right (has name_cmp m (cond (is_eq (name_cmp n (head_name r))) (body_names r.body) [])) (has name_cmp m (below rs n)) e

-- what stands on a name heads a rule
stands_head : (rs : List PlainRule) (n m : NameArity) → has name_cmp m (below rs n) ≡ true → has name_cmp n (head_names rs) ≡ true
stands_head [] n m e = absurd (true≢false (sym e))
stands_head (r ∷ rs) n m e =
    below_cases r rs n m (λ is h. or_left (is_eq (name_cmp n (head_name r))) (has name_cmp n (head_names rs)) is)
    (λ h. or_right (is_eq (name_cmp n (head_name r))) (has name_cmp n (head_names rs)) (stands_head rs n m h)) e

module _ (heads : List NameArity) (rules : List PlainRule) where
  abbrev graph : List (List ℕ)
  graph = graph_of heads rules

  -- a walk over names is one over nodes
  pub node_reaches : ((n : NameArity) → has name_cmp n heads ≡ has name_cmp n (head_names rules)) → (k : ℕ) (b h : NameArity) → place heads h ≡ Some k → Reaches (stands_on rules) b h
      → (i : ℕ) × (place heads b ≡ Some i) × Reaches (leads graph) i k
  node_reaches are k b h p (stop x) = (k, p, stop k)
  node_reaches are k b h p (step x m z l r) =
      let (j, q, s) = node_reaches are k m h p r in
      let (i, o) = place_some heads b (are b ∙ stands_head rules b m l) in
      (i, o, step i j k (lead_to heads rules i j b m o l q) s)

  -- and a walk over nodes is one over names
  pub name_reaches : (d : NameArity) (i k : ℕ) → Reaches (leads graph) i k → Reaches (stands_on rules) (get_or heads i d) (get_or heads k d)
  name_reaches d i k (stop x) = stop (get_or heads i d)
  name_reaches d i k (step x j z l r) =
      let (m, e, p) = lead_from heads rules i j d l in
      step (get_or heads i d) (get_or heads j d) (get_or heads k d) (ap (λ y. has name_cmp y (below rules (get_or heads i d))) (place_name heads m j p d) ∙ e) (name_reaches d j k r)

  no_rule : (rs : List PlainRule) (n m : NameArity) → AreAcyclic rules rs → has name_cmp m (below rs n) ≡ true → Reaches (stands_on rules) m n → ⊥
  no_rule [] n m a e t = true≢false (sym e)
  no_rule (r ∷ rs) n m a e t =
      below_cases r rs n m (λ is h. a.0 (m, h, subst (λ y. Reaches (stands_on rules) m y) (same_names n (head_name r) is) t)) (λ h. no_rule rs n m a.1 h t) e

  -- a node that returns to itself gives a rule on a cycle
  pub some_cycle : HasCycle graph → AreAcyclic rules rules → ⊥
  some_cycle (i, (j, l, r)) a =
      let d : NameArity = record { name = []; arity = 0 } in
      let (m, e, p) = lead_from heads rules i j d l in
      no_rule rules (get_or heads i d) m a e (subst (λ y. Reaches (stands_on rules) y (get_or heads i d)) (place_name heads m j p d) (name_reaches d j i r))

-- ---- ranks

abbrev pub by_place : Option ℕ → List ℕ → ℕ
by_place None ranks = 0
by_place (Some i) ranks = get_or ranks i 0

nowhere : (o : Option ℕ) → 0 ≡ by_place o []
nowhere None = refl
nowhere (Some i) = refl

one_up : (o : Option ℕ) (r : ℕ) (ranks : List ℕ) → by_place (option_map suc o) (r ∷ ranks) ≡ by_place o ranks
one_up None r ranks = refl
one_up (Some i) r ranks = refl

pub rank_is : (heads : List NameArity) (ranks : List ℕ) (n : NameArity) → rank_by heads ranks n ≡ by_place (place heads n) ranks
rank_is [] ranks n = refl
rank_is (h ∷ heads) [] n = nowhere (cond (is_eq (name_cmp n h)) (Some 0) (option_map suc (place heads n)))
rank_is (h ∷ heads) (r ∷ ranks) n = at (is_eq (name_cmp n h)) (rank_is heads ranks n ∙ sym (one_up (place heads n) r ranks))
  where
    at : (b : Bool) → rank_by heads ranks n ≡ by_place (option_map suc (place heads n)) (r ∷ ranks) → cond b r (rank_by heads ranks n) ≡ by_place (cond b (Some 0) (option_map suc (place heads n))) (r ∷ ranks)
    at true e = refl
    at false e = e

module _ (heads : List NameArity) (ranks : List ℕ) where
  greatest_places : (names : List NameArity) → greatest (map (λ j. get_or ranks j 0) (places heads names)) ≡ greatest (map (rank_by heads ranks) names)
  greatest_places [] = refl
  greatest_places (n ∷ names) = at (place heads n) (rank_is heads ranks n) (greatest_places names)
    where
      at : (o : Option ℕ) → rank_by heads ranks n ≡ by_place o ranks → greatest (map (λ j. get_or ranks j 0) (places heads names)) ≡ greatest (map (rank_by heads ranks) names)
          → greatest (map (λ j. get_or ranks j 0) (cons_option o (places heads names))) ≡ max (rank_by heads ranks n) (greatest (map (rank_by heads ranks) names))
      at None e more = let z : rank_by heads ranks n ≡ 0 = e in omega (arith, z, more)
      at (Some k) e more = λ i. max (sym e i) (more i)

  module _ (rules : List PlainRule) (are : (n : NameArity) → has name_cmp n heads ≡ has name_cmp n (head_names rules)) where
    -- ranks of nodes are ranks of names
    pub is_ranking : IsRankList (graph_of heads rules) ranks → IsRanking rules (rank_by heads ranks)
    is_ranking r n = at (has name_cmp n heads) refl (are n)
      where
        at : (b : Bool) → has name_cmp n heads ≡ b → has name_cmp n heads ≡ has name_cmp n (head_names rules)
            → rank_by heads ranks n ≡ cond (has name_cmp n (head_names rules)) (greatest (map (rank_by heads ranks) (below rules n)) + 1) 0
        at true is same =
            let (i, p) = place_some heads n is in
            let inside = place_below heads n i p in
            let here : i < length (graph_of heads rules) = omega (arith, inside, length-map heads (λ h. places heads (below rules h))) in
            rank_is heads ranks n ∙ ap (λ o. by_place o ranks) p ∙ r.rank i here
            ∙ ap (λ ts. greatest (map (λ j. get_or ranks j 0) ts) + 1) (targets_of heads rules i n inside ∙ ap (λ k. places heads (below rules k)) (place_name heads n i p n))
            ∙ ap (λ k. k + 1) (greatest_places (below rules n))
            ∙ ap (λ b. cond b (greatest (map (rank_by heads ranks) (below rules n)) + 1) 0) (sym is ∙ same)
        at false is same =
            rank_is heads ranks n ∙ ap (λ o. by_place o ranks) (no_place heads n is)
            ∙ ap (λ b. cond b (greatest (map (rank_by heads ranks) (below rules n)) + 1) 0) (sym is ∙ same)

-- ---- where names have ranks, no rule is on a cycle

module _ (rules : List PlainRule) (rank : NameArity → ℕ) (r : IsRanking rules rank) where
  pub at_most : (names : List NameArity) (m : NameArity) → has name_cmp m names ≡ true → rank m ≤ greatest (map rank names)
  at_most [] m e = absurd (true≢false (sym e))
  at_most (n ∷ names) m e =
      ⊎_elim
      (λ is. let same = ap rank (same_names m n is) in omega (arith, same))
      (λ h. let more = at_most names m h in omega (arith, more))
      (or_cases (is_eq (name_cmp m n)) (has name_cmp m names) e)

  lower : (n m : NameArity) → stands_on rules n m ≡ true → rank m < rank n
  lower n m l =
      let is : rank n ≡ greatest (map rank (below rules n)) + 1 = r n ∙ ap (λ b. cond b (greatest (map rank (below rules n)) + 1) 0) (stands_head rules n m l) in
      let most = at_most (below rules n) m l in
      omega (arith, is, most)

  down : (b h : NameArity) → Reaches (stands_on rules) b h → rank h ≤ rank b
  down b h (stop x) = omega arith
  down b h (step x m z l t) = let one = lower b m l in let rest = down m h t in omega (arith, one, rest)

  each_off : (rs : List PlainRule) → ((n m : NameArity) → has name_cmp m (below rs n) ≡ true → stands_on rules n m ≡ true) → AreAcyclic rules rs
  each_off [] h = tt
  each_off (q ∷ rs) h = (
    (λ (m, e, t). let one = lower (head_name q) m (h (head_name q) m (below_here q rs m e)) in let rest = down m (head_name q) t in absurd (omega (arith, one, rest))),
    each_off rs (λ n m e. h n m (below_there q rs n m e)),
  )

  pub none_on_cycle : AreAcyclic rules rules
  none_on_cycle = each_off rules (λ n m e. e)

-- ---- the first rule on a cycle

acyclic_more : (rules xs : List PlainRule) (r : PlainRule) → AreAcyclic rules xs → (IsOnCycle rules r → ⊥) → AreAcyclic rules (xs ++ r ∷ [])
acyclic_more rules [] r a h = (h, tt)
acyclic_more rules (x ∷ xs) r a h = (a.0, acyclic_more rules xs r a.1 h)

first_at : (rules : List PlainRule) (number : ℕ) (xs : List PlainRule) (r : PlainRule) (ys : List PlainRule) → AreAcyclic rules xs → IsOnCycle rules r → IsFirstCycle rules number (xs ++ r ∷ ys) (number + length xs)
first_at rules number [] r ys a h = inl (omega arith, h)
first_at rules number (x ∷ xs) r ys a h = inr (a.0, subst (IsFirstCycle rules (number + 1) (xs ++ r ∷ ys)) (omega arith) (first_at rules (number + 1) xs r ys a.1 h))

-- none of the rules so far is on a cycle
pub record NoCycleYet (rules before : List PlainRule) (number : ℕ) : Type 0 where
  pub counted : number ≡ length before
  pub off : AreAcyclic rules before

pub one_off : (rules before : List PlainRule) (number : ℕ) (r : PlainRule) → NoCycleYet rules before number → (IsOnCycle rules r → ⊥) → NoCycleYet rules (before ++ r ∷ []) (number + 1)
one_off rules before number r n h = record {
  counted = ap (λ k. k + 1) n.counted ∙ sym (length-append before (r ∷ []));
  off = acyclic_more rules before r n.off h;
}

pub cycle_at : (rules before rest : List PlainRule) (number : ℕ) (r : PlainRule) → rules ≡ before ++ r ∷ rest → NoCycleYet rules before number → IsOnCycle rules r → IsFirstCycle rules 1 rules (number + 1)
cycle_at rules before rest number r is n h =
    subst (λ l. IsFirstCycle rules 1 l (number + 1)) (sym is) (subst (IsFirstCycle rules 1 (before ++ r ∷ rest)) (let c = n.counted in omega (arith, c)) (first_at rules 1 before r rest n.off h))

-- whether nodes of a body reach the head's is whether the rule is on a cycle
module _ (heads : List NameArity) (rules : List PlainRule) (are : (n : NameArity) → has name_cmp n heads ≡ has name_cmp n (head_names rules)) (r : PlainRule) (node : ℕ) (at : place heads (head_name r) ≡ Some node) where
  cycle_found : (i : ℕ) → is_in i (places heads (body_names r.body)) ≡ true → Reaches (leads (graph_of heads rules)) i node → IsOnCycle rules r
  cycle_found i e t =
      let (m, h, p) = in_places heads (body_names r.body) i e in
      let d = head_name r in
      (m, h, subst (λ y. Reaches (stands_on rules) y (head_name r)) (place_name heads m i p d) (subst (λ y. Reaches (stands_on rules) (get_or heads i d) y) (place_name heads (head_name r) node at d) (name_reaches heads rules d i node t)))

  reach_found : IsOnCycle rules r → AnyReaches (graph_of heads rules) (places heads (body_names r.body)) node
  reach_found (m, h, t) =
      let (i, p, s) = node_reaches heads rules are node m (head_name r) at t in
      (i, places_in heads (body_names r.body) m i h p, s)

  -- a rule is on a cycle where a name of its body reaches the head's
  pub on_cycle : (b : Bool) (nodes : List ℕ) (rows : List (List ℕ)) → nodes ≡ places heads (body_names r.body) → rows ≡ graph_of heads rules → Decides b (AnyReaches rows nodes node) → Decides b (IsOnCycle rules r)
  on_cycle b nodes rows n g d = (
    (λ e. let (i, h, t) = d.0 e in cycle_found i (ap (is_in i) (sym n) ∙ h) (subst (λ k. Reaches (leads k) i node) g t)),
    (λ c. let (i, h, t) = reach_found c in d.1 (i, ap (is_in i) n ∙ h, subst (λ k. Reaches (leads k) i node) (sym g) t)),
  )
