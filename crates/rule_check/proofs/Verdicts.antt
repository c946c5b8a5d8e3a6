-- What the steps of a check tell of the whole.
use Rattle.std.proofs.Common.{◌≡◌, ℕ, ◌+◌, Bool, true, false, cond, ◌||◌, Some, None, List, [], ◌∷◌, ◌++◌, length, map, refl, ap, sym, subst, ◌∙◌, ◌⊎◌, inl, inr, arith, ◌<◌, ◌^◌}
use Rattle.std.specs.Ordering.{is_eq}
use Rattle.std.proofs.lemmas.Bool.{true≢false, or_left, or_right}
use Rattle.ordered_lists.specs.Canon.{canon, has}
use Rattle.event_model.specs.declared.atoms.NameArity.{NameArity}
use Rattle.rule_ast.specs.Trees.{PlainRule, PlainStatement, Clause, Show}
use Rattle.rule_check.specs.Offenders.{first}
use Rattle.rule_check.specs.Sound.{rules_of}
use Rattle.event_model.specs.EventOrder.{name_cmp, same_names}
use Rattle.rule_ast.specs.Shown.{shown_names}
use Rattle.rule_check.specs.Names.{head_names, has_show, outputs, unknown_shows, AreShownKnown}
use Rattle.rule_check.specs.Graphs.{HasCycle, IsGraph, IsRankList}
use Rattle.rule_check.specs.Cycles.{AreAcyclic, IsFirstCycle, graph_of}
use Rattle.rule_check.specs.Numbers.{first_seen, rank_by}
use Rattle.rule_check.specs.Faults.{variable_faults}
use Rattle.rule_check.specs.Verdict.{IsSound, IsRefusal, show_faults, early_faults, AreNameRanks}
use Rattle.rule_check.specs.declared.faults.CheckFault.{CheckFault}
use Rattle.rule_check.specs.declared.faults.CheckFault.TheVariants.{ShowUnknown, Cycle, Memory}
use Rattle.rule_check.proofs.Safety.{append_none, none_append, map_none, safe_rules, safe_rules_back}
use Rattle.rule_check.proofs.CleanRules.{first_front}
use Rattle.rule_check.proofs.Placing.{itself}
use Rattle.rule_check.proofs.NameGraph.{graph_is, graph_length}
use Rattle.rule_check.proofs.Cycling.{some_cycle, is_ranking, none_on_cycle}
use Rattle.rule_check.proofs.Numbering.{few_heads, heads_have, heads_in_order}
use Rattle.rule_check.proofs.Ranking.{few_ranks, rank_is_one, one_ranking}

-- ---- shown names

unknown_same : (heads names shown : List NameArity) (k : ℕ) → ((n : NameArity) → has name_cmp n heads ≡ has name_cmp n names) → unknown_shows k heads shown ≡ unknown_shows k names shown
unknown_same heads names [] k h = refl
unknown_same heads names (n ∷ shown) k h = λ i. cond (h n i) [] (k ∷ []) ++ unknown_same heads names shown (k + 1) h i

none_unknown : (k : ℕ) (heads shown : List NameArity) → unknown_shows k heads shown ≡ [] → (n : NameArity) → has name_cmp n shown ≡ true → has name_cmp n heads ≡ true
none_unknown k heads [] e n h = absurd (true≢false (sym h))
none_unknown k heads (m ∷ shown) e n h =
    let parts = append_none (cond (has name_cmp m heads) [] (k ∷ [])) (unknown_shows (k + 1) heads shown) e in
    at (is_eq (name_cmp n m)) refl (has name_cmp m heads) refl parts.0 (none_unknown (k + 1) heads shown parts.1 n) h
  where
    at : (b : Bool) → is_eq (name_cmp n m) ≡ b → (c : Bool) → has name_cmp m heads ≡ c → cond c [] (k ∷ []) ≡ [] → (has name_cmp n shown ≡ true → has name_cmp n heads ≡ true)
        → (b || has name_cmp n shown) ≡ true → has name_cmp n heads ≡ true
    at true is true known g rest f = ap (λ q. has name_cmp q heads) (same_names n m is) ∙ known
    at true is false known g rest f = cc
    at false is c known g rest f = rest f

unknown_none : (k : ℕ) (heads shown : List NameArity) → ((n : NameArity) → has name_cmp n shown ≡ true → has name_cmp n heads ≡ true) → unknown_shows k heads shown ≡ []
unknown_none k heads [] h = refl
unknown_none k heads (m ∷ shown) h =
    none_append (cond (has name_cmp m heads) [] (k ∷ [])) (unknown_shows (k + 1) heads shown)
    (ap (λ c. cond c [] (k ∷ [])) (h m (or_left (is_eq (name_cmp m m)) (has name_cmp m shown) (itself m))))
    (unknown_none (k + 1) heads shown (λ n e. h n (or_right (is_eq (name_cmp n m)) (has name_cmp n shown) e)))

empty_first : {A : Type 0} (xs : List A) → None ≡ first xs → xs ≡ []
empty_first [] e = refl
empty_first (x ∷ xs) e = cc

first_map : {A B : Type 0} (f : A → B) (xs : List A) (x : A) → Some x ≡ first xs → first (map f xs) ≡ Some (f x)
first_map f [] x e = cc
first_map f (y ∷ xs) x e = cc

module _ (statements : List PlainStatement) (heads : List NameArity) (is : heads ≡ first_seen (head_names (rules_of statements))) where
  same_unknown : unknown_shows 1 heads (shown_names statements) ≡ unknown_shows 1 (head_names (rules_of statements)) (shown_names statements)
  same_unknown = unknown_same heads (head_names (rules_of statements)) (shown_names statements) 1 (heads_have (rules_of statements) heads is)

  pub show_unknown : (k : ℕ) → Some k ≡ first (unknown_shows 1 heads (shown_names statements)) → first (show_faults statements) ≡ Some (ShowUnknown k)
  show_unknown k e = first_map (λ k. ShowUnknown k) (unknown_shows 1 (head_names (rules_of statements)) (shown_names statements)) k (e ∙ ap first same_unknown)

  pub show_known : None ≡ first (unknown_shows 1 heads (shown_names statements)) → show_faults statements ≡ []
  show_known e = ap (map (λ k. ShowUnknown k)) (empty_first (unknown_shows 1 (head_names (rules_of statements)) (shown_names statements)) (e ∙ ap first same_unknown))

known_shown : (statements : List PlainStatement) → show_faults statements ≡ [] → AreShownKnown statements
known_shown statements e = none_unknown 1 (head_names (rules_of statements)) (shown_names statements) (map_none (λ k. ShowUnknown k) (unknown_shows 1 (head_names (rules_of statements)) (shown_names statements)) e)

shown_known : (statements : List PlainStatement) → AreShownKnown statements → show_faults statements ≡ []
shown_known statements h = ap (map (λ k. ShowUnknown k)) (unknown_none 1 (head_names (rules_of statements)) (shown_names statements) h)

-- ---- names that are given out

none_shown : (statements : List PlainStatement) → has_show statements ≡ false → shown_names statements ≡ []
none_shown [] e = refl
none_shown (Clause r ∷ statements) e = none_shown statements e
none_shown (Show names ∷ statements) e = absurd (true≢false e)

pub outputs_shown : (statements : List PlainStatement) (names : List NameArity) → has_show statements ≡ true → names ≡ shown_names statements → canon name_cmp names ≡ outputs statements
outputs_shown statements names e is = λ i. canon name_cmp (cond (sym e i) (is i) (head_names (rules_of statements)))

pub outputs_heads : (statements : List PlainStatement) (names heads : List NameArity) → has_show statements ≡ false → names ≡ shown_names statements → heads ≡ first_seen (head_names (rules_of statements))
    → canon name_cmp (names ++ heads) ≡ outputs statements
outputs_heads statements names heads e is heads_is =
    ap (λ l. canon name_cmp (l ++ heads)) (is ∙ none_shown statements e) ∙ heads_in_order (rules_of statements) heads heads_is
    ∙ ap (λ b. canon name_cmp (cond b (shown_names statements) (head_names (rules_of statements)))) (sym e)

-- ---- cycles

module _ (rules : List PlainRule) (heads : List NameArity) (is : heads ≡ first_seen (head_names rules)) (graph : List (List ℕ)) (built : graph ≡ graph_of heads rules) where
  pub graph_nodes : IsGraph graph
  graph_nodes = subst IsGraph (sym built) (graph_is heads rules)

  pub few_nodes : length rules < 2 ^ 32 → length graph < 2 ^ 32
  few_nodes few = let a = few_heads rules heads is in omega (arith, few, a, ap length built, graph_length heads rules)

  pub cycle_somewhere : HasCycle graph → AreAcyclic rules rules → ⊥
  cycle_somewhere c a = some_cycle heads rules (subst HasCycle built c) a

  pub name_ranks : (ranks : List ℕ) → IsRankList graph ranks → AreNameRanks rules heads ranks
  name_ranks ranks given =
      let r : IsRankList (graph_of heads rules) ranks = subst (λ g. IsRankList g ranks) built given in
      let ranking = is_ranking heads ranks rules (heads_have rules heads is) r in
      let few = few_ranks heads rules ranks (few_heads rules heads is) r in
      record {
        are = rank_is_one rules (rank_by heads ranks) ranking few;
        sized = r.sized ∙ graph_length heads rules;
        ranking = one_ranking rules (rank_by heads ranks) ranking few;
        acyclic = none_on_cycle rules (rank_by heads ranks) ranking;
      }

first_off : (rules : List PlainRule) (number : ℕ) (rs : List PlainRule) (k : ℕ) → IsFirstCycle rules number rs k → AreAcyclic rules rs → ⊥
first_off rules number [] k f a = f
first_off rules number (r ∷ rs) k (inl (e, c)) a = a.0 c
first_off rules number (r ∷ rs) k (inr (n, more)) a = first_off rules (number + 1) rs k more a.1

-- ---- the whole

pub is_sound : (statements : List PlainStatement) → variable_faults 1 (rules_of statements) ≡ [] → show_faults statements ≡ [] → AreAcyclic (rules_of statements) (rules_of statements) → IsSound statements
is_sound statements v s a = record { safe = safe_rules 1 (rules_of statements) v; shown_known = known_shown statements s; acyclic = a }

-- sound rules are refused for want of memory alone
pub refused_sound : (statements : List PlainStatement) (fault : CheckFault) → IsSound statements → IsRefusal fault statements → fault ≡ Memory
refused_sound statements fault s (inl m) = m
refused_sound statements fault s (inr (inl e)) = at (first_none (none_append _ _ (safe_rules_back 1 (rules_of statements) s.safe) (shown_known statements s.shown_known)))
  where
    first_none : early_faults statements ≡ [] → first (early_faults statements) ≡ None
    first_none n = ap first n

    at : first (early_faults statements) ≡ None → fault ≡ Memory
    at n = let clash : Some fault ≡ None = sym e ∙ n in cc
refused_sound statements fault s (inr (inr (n, (k, e, c)))) = absurd (first_off (rules_of statements) 1 (rules_of statements) k c s.acyclic)

pub refused_variables : (statements : List PlainStatement) (fault : CheckFault) → (fault ≡ Memory) ⊎ (first (variable_faults 1 (rules_of statements)) ≡ Some fault) → IsRefusal fault statements
refused_variables statements fault (inl m) = inl m
refused_variables statements fault (inr e) = inr (inl (first_front (variable_faults 1 (rules_of statements)) (show_faults statements) fault e))

pub refused_shown : (statements : List PlainStatement) (fault : CheckFault) → variable_faults 1 (rules_of statements) ≡ [] → (fault ≡ Memory) ⊎ (first (show_faults statements) ≡ Some fault) → IsRefusal fault statements
refused_shown statements fault v (inl m) = inl m
refused_shown statements fault v (inr e) = inr (inl (ap (λ l. first (l ++ show_faults statements)) v ∙ e))

pub refused_cycle : (statements : List PlainStatement) (fault : CheckFault) → variable_faults 1 (rules_of statements) ≡ [] → show_faults statements ≡ []
    → (fault ≡ Memory) ⊎ ((k : ℕ) × (fault ≡ Cycle k) × IsFirstCycle (rules_of statements) 1 (rules_of statements) k) → IsRefusal fault statements
refused_cycle statements fault v s (inl m) = inl m
refused_cycle statements fault v s (inr c) = inr (inr (none_append (variable_faults 1 (rules_of statements)) (show_faults statements) v s, c))
