-- Steps that are made with numbers kept beside names are those of the plan.
use Rattle.std.proofs.Common.{ℕ, zero, suc, ◌≡◌, ◌<◌, ◌⊎◌, inl, inr, refl, Bool, true, false, cond, Some, List, [], ◌∷◌, ◌++◌, length, ap, sym, ◌∙◌, arith, length-append}
use Rattle.std.specs.List.{filter, flat_map}
use Rattle.std.specs.Ordering.{is_eq, is_lt}
use Rattle.std.specs.Cmp.{tied_itself}
use Rattle.std.specs.declared.cmp.Ordering.TheVariants.{Less}
use Rattle.std.proofs.lemmas.Bool.{true≢false}
use Rattle.std.proofs.lemmas.Option.{none-some, same_Some}
use Rattle.ordered_lists.specs.Lists.{Each}
use Rattle.ordered_lists.specs.Canon.{has, Rising, Rising-canon, AllAbove}
use Rattle.ordered_lists.specs.Members.{Each_has}
use Rattle.event_model.specs.EventOrder.{name_cmp, exact_names, same_names}
use Rattle.event_model.specs.declared.operators.Op.TheVariants.{Seq}
use Rattle.event_model.specs.declared.atoms.NameArity.{NameArity}
use Rattle.rule_ast.specs.Trees.{PlainPattern, PlainRule, PlainStatement}
use Rattle.rule_ast.specs.Trees as tree
use Rattle.rule_ast.specs.PlainPlans.{PlainStep, Named, Leaf, Join, Either, Where, Exact, Within, Minus, Head}
use Rattle.rule_check.specs.Cycles.{rank_of, IsRanking}
use Rattle.rule_check.specs.Names.{body_names, name_of_atom, outputs}
use Rattle.rule_check.specs.Sound.{rules_of}
use Rattle.pattern_meaning.specs.RuleRows.{has_head}
use Rattle.pattern_meaning.specs.Depths.{in_left, in_right, or_left, or_right, bodies_below, ties_itself}
use Rattle.step_meaning.specs.StepRows.{step_at}
use Rattle.step_meaning.specs.PlanOf.{needs, by_rank, plan_names, top, is_named, step_of, body_steps, rule_steps, name_steps, names_steps, plan_steps}
use Rattle.step_meaning.specs.Growing.{AtPush, Extends, steady_push}
use Rattle.step_meaning.specs.NamedSteps.{tests_itself, placed_at, exact_by_rank, placed_below, made_extends, next_named, next_covered, AreNamed, Covered}
use Rattle.binariser.specs.Heads.{rules_for}
use Rattle.binariser.specs.Making.{with_place, named_steps, names_steps_by}

-- ---- two ways to find the steps of names

module _ (of to : NameArity → ℕ) where
  abbrev pub FindsAlike : PlainPattern → Type 0
  FindsAlike p = (n : NameArity) → has name_cmp n (body_names p) ≡ true → of n ≡ to n

  pub body_steps_same : (p : PlainPattern) (ss : List PlainStep) → FindsAlike p → body_steps of p ss ≡ body_steps to p ss
  body_steps_same (tree.Atom a) ss h = ap (λ k. ss ++ Leaf k a ∷ []) (h (name_of_atom a) (or_left _ false (ties_itself (name_of_atom a))))
  body_steps_same (tree.Both op l r) ss h =
      let el = body_steps_same l ss (λ n e. h n (in_left n (body_names l) (body_names r) e)) in
      let er = body_steps_same r (body_steps of l ss) (λ n e. h n (in_right n (body_names l) (body_names r) e)) ∙ ap (body_steps to r) el in
      λ k. er k ++ Join op (top (el k)) (top (er k)) ∷ []
  body_steps_same (tree.Either l r) ss h =
      let el = body_steps_same l ss (λ n e. h n (in_left n (body_names l) (body_names r) e)) in
      let er = body_steps_same r (body_steps of l ss) (λ n e. h n (in_right n (body_names l) (body_names r) e)) ∙ ap (body_steps to r) el in
      λ k. er k ++ Either (top (el k)) (top (er k)) ∷ []
  body_steps_same (tree.Where p c) ss h = ap (λ l. l ++ Where (top l) c ∷ []) (body_steps_same p ss h)
  body_steps_same (tree.Exact p q) ss h = ap (λ l. l ++ Exact (top l) q ∷ []) (body_steps_same p ss h)
  body_steps_same (tree.Within p q) ss h = ap (λ l. l ++ Within (top l) q ∷ []) (body_steps_same p ss h)
  body_steps_same (tree.Not i b a) ss h =
      let eb = body_steps_same b ss
      (λ n e. h n (in_right n (body_names i) (body_names b ++ body_names a) (in_left n (body_names b) (body_names a) e))) in
      let ea = body_steps_same a (body_steps of b ss)
      (λ n e. h n (in_right n (body_names i) (body_names b ++ body_names a) (in_right n (body_names b) (body_names a) e)))
      ∙ ap (body_steps to a) eb in
      let joined_of = body_steps of a (body_steps of b ss) ++ Join Seq (top (body_steps of b ss))
      (top (body_steps of a (body_steps of b ss))) ∷ [] in
      let joined_to = body_steps to a (body_steps to b ss) ++ Join Seq (top (body_steps to b ss))
      (top (body_steps to a (body_steps to b ss))) ∷ [] in
      let ej : joined_of ≡ joined_to = λ k. ea k ++ Join Seq (top (eb k)) (top (ea k)) ∷ [] in
      let ei = body_steps_same i joined_of (λ n e. h n (in_left n (body_names i) (body_names b ++ body_names a) e))
      ∙ ap (body_steps to i) ej in
      λ k. ei k ++ Minus (top (ej k)) (top (eb k)) (top (ei k)) (top (ea k)) ∷ []

  pub rule_steps_same : (rs : List PlainRule) (ss : List PlainStep) (hs : List ℕ) → Each (λ r. FindsAlike r.body) rs
      → rule_steps of rs ss hs ≡ rule_steps to rs ss hs
  rule_steps_same [] ss hs h = refl
  rule_steps_same (r ∷ rs) ss hs h =
      let body = body_steps_same r.body ss h.0 in
      let with_head = body_steps to r.body ss ++ Head (top (body_steps to r.body ss)) r.head ∷ [] in
      (λ k. rule_steps of rs (body k ++ Head (top (body k)) r.head ∷ []) (hs ++ top (body k ++ Head (top (body k)) r.head ∷ []) ∷ []))
      ∙ rule_steps_same rs with_head (hs ++ top with_head ∷ []) h.1

-- ---- the steps of names

-- a name whose step stands somewhere has one
found_step : (ss : List PlainStep) (i : ℕ) (n : NameArity) (heads : List ℕ) → step_at ss i ≡ Some (Named n heads) → step_of ss n < length ss
found_step [] i n heads e = absurd (none-some (Named n heads) e)
found_step (s ∷ ss) i n heads e = at (is_named n s) refl i e (λ j d. found_step ss j n heads d)
  where
    at : (b : Bool) → is_named n s ≡ b → (i : ℕ) → step_at (s ∷ ss) i ≡ Some (Named n heads)
        → ((j : ℕ) → step_at ss j ≡ Some (Named n heads) → step_of ss n < length ss) → cond b 0 (suc (step_of ss n)) < length (s ∷ ss)
    at true g i d more = omega arith
    at false g zero d more = absurd (true≢false (sym (tests_itself n heads) ∙ ap (is_named n) (sym (same_Some s (Named n heads) d)) ∙ g))
    at false g (suc j) d more = let lt = more j d in omega (arith, lt)

last_step : (ss : List PlainStep) (s : PlainStep) (n : NameArity) → is_named n s ≡ true → (step_of ss n < length ss → ⊥)
    → step_of (ss ++ s ∷ []) n ≡ length ss
last_step [] s n e h = ap (λ b. cond b 0 1) e
last_step (x ∷ ss) s n e h = at (is_named n x) h (last_step ss s n e)
  where
    at : (b : Bool) → (cond b 0 (suc (step_of ss n)) < length (x ∷ ss) → ⊥)
        → ((step_of ss n < length ss → ⊥) → step_of (ss ++ s ∷ []) n ≡ length ss)
        → cond b 0 (suc (step_of (ss ++ s ∷ []) n)) ≡ length (x ∷ ss)
    at true g more = absurd (g (omega arith))
    at false g more = let same : step_of (ss ++ s ∷ []) n ≡ length ss = more (λ lt. g (omega (arith, lt))) in omega (arith, same)

module _ (statements : List PlainStatement) (ranking : IsRanking (rules_of statements) (rank_of (rules_of statements))) where
  abbrev rules_ : List PlainRule
  rules_ = rules_of statements

  -- `of` finds the steps of the names that have one
  abbrev Agrees : (NameArity → ℕ) → List PlainStep → Type 0
  Agrees of ss = (m : NameArity) → step_of ss m < length ss → of m ≡ step_of ss m

  -- none of these names has a step
  abbrev AreFresh : List NameArity → List PlainStep → Type 0
  AreFresh rest ss = (m : NameArity) → has name_cmp m rest ≡ true → step_of ss m < length ss → ⊥

  module _ (n : NameArity) (rest : List NameArity) (ss : List PlainStep) (needed : has name_cmp n (plan_names statements) ≡ true)
      (above : AllAbove (by_rank rules_) n rest) (named : AreNamed statements [] ranking ss)
      (covered : Covered statements [] ranking (n ∷ rest) ss) (of : NameArity → ℕ) (agrees : Agrees of ss)
      (fresh : AreFresh (n ∷ rest) ss) where
    same_steps : named_steps of (rules_for statements n) ss n ≡ name_steps rules_ ss n
    same_steps =
        ap (λ (p : List PlainStep × List ℕ). p.0 ++ Named n p.1 ∷ [])
        (rule_steps_same of (step_of ss) (filter (has_head n) rules_) ss []
        (bodies_below (λ m. of m ≡ step_of ss m) n rules_
        (λ m e. agrees m (placed_below statements [] ranking n rest ss needed above named covered m e))))

    abbrev steps_ : List PlainStep × List ℕ
    steps_ = rule_steps (step_of ss) (filter (has_head n) rules_) ss []

    abbrev next : List PlainStep
    next = name_steps rules_ ss n

    grown : Extends [] ss steps_.0
    grown = made_extends statements [] ranking n rest ss needed above named covered

    -- no other name gets a step
    was_placed : (m : NameArity) → (m ≡ n → ⊥) → step_of next m < length next → step_of ss m < length ss
    was_placed m differ h =
        let there = placed_at next m h in
        at there.0 (AtPush steps_.0 (Named n steps_.1) (Named m there.0) (step_of next m) there.1)
      where
        at : (heads : List ℕ)
            → ((step_of next m < length steps_.0) × (step_at steps_.0 (step_of next m) ≡ Some (Named m heads)))
            ⊎ ((step_of next m ≡ length steps_.0) × (Named n steps_.1 ≡ Named m heads))
            → step_of ss m < length ss
        at heads (inl g) = found_step ss _ m heads (grown.no_names _ m heads g.1).1
        at heads (inr g) = absurd (differ (let same : n ≡ m = let e = g.1 in cc in sym same))

    not_in_rules : step_of steps_.0 n < length steps_.0 → ⊥
    not_in_rules h =
        let there = placed_at steps_.0 n h in
        fresh n (or_left _ _ (ties_itself n)) (found_step ss _ n there.0 (grown.no_names _ n there.0 there.1).1)

    own_number : top next ≡ length steps_.0
    own_number = omega (arith, length-append steps_.0 (Named n steps_.1 ∷ []))

    next_agrees : Agrees (with_place of n (top next)) next
    next_agrees m h = at (is_eq (name_cmp n m)) refl
      where
        new : n ≡ m → top next ≡ step_of next m
        new same =
            own_number ∙ sym (last_step steps_.0 (Named n steps_.1) n (tests_itself n steps_.1) not_in_rules) ∙ ap (step_of next) same

        at : (b : Bool) → is_eq (name_cmp n m) ≡ b → cond b (top next) (of m) ≡ step_of next m
        at true e = new (same_names n m e)
        at false e =
            let was = was_placed m (λ same. true≢false (sym (ties_itself n) ∙ ap (λ k. is_eq (name_cmp n k)) (sym same) ∙ e)) h in
            agrees m was ∙ sym (steady_push steps_.0 (Named n steps_.1) m (grown.placed m was) ∙ grown.steady m was)

    next_fresh : AreFresh rest next
    next_fresh m e h = fresh m (or_right _ _ e) (was_placed m differ h)
      where
        all_less : (rest : List NameArity) → AllAbove (by_rank rules_) n rest → Each (λ x. by_rank rules_ n x ≡ Less) rest
        all_less [] a = tt
        all_less (x ∷ xs) a = (a.0, all_less xs a.1)

        differ : m ≡ n → ⊥
        differ same =
            let less : by_rank rules_ n m ≡ Less = Each_has exact_names (λ x. by_rank rules_ n x ≡ Less) m rest (all_less rest above) e in
            true≢false (sym (ap is_lt (sym (ap (by_rank rules_ n) same) ∙ less))
            ∙ ap is_lt (tied_itself (exact_by_rank rules_).total n))

  agree_walk : (rest : List NameArity) (of : NameArity → ℕ) (ss : List PlainStep) → Rising (by_rank rules_) rest
      → ((m : NameArity) → has name_cmp m rest ≡ true → has name_cmp m (plan_names statements) ≡ true)
      → AreNamed statements [] ranking ss → Covered statements [] ranking rest ss → Agrees of ss → AreFresh rest ss
      → names_steps_by (rules_for statements) rest of ss ≡ names_steps rules_ rest ss
  agree_walk [] of ss rising within named covered agrees fresh = refl
  agree_walk (n ∷ rest) of ss rising within named covered agrees fresh =
      let needed = within n (or_left _ _ (ties_itself n)) in
      let next_ = name_steps rules_ ss n in
      ap (λ l. names_steps_by (rules_for statements) rest (with_place of n (top l)) l)
      (same_steps n rest ss needed rising.0 named covered of agrees fresh)
      ∙ agree_walk rest (with_place of n (top next_)) next_ rising.1 (λ m e. within m (or_right _ _ e))
      (next_named statements [] ranking n rest ss needed rising.0 named covered)
      (next_covered statements [] ranking n rest ss needed rising.0 named covered)
      (next_agrees n rest ss needed rising.0 named covered of agrees fresh)
      (next_fresh n rest ss needed rising.0 named covered of agrees fresh)

  -- steps that are made with numbers beside names are the plan's
  pub by_places : (of : NameArity → ℕ) → names_steps_by (rules_for statements) (plan_names statements) of [] ≡ plan_steps statements
  by_places of =
      agree_walk (plan_names statements) of []
      (Rising-canon (exact_by_rank rules_) (flat_map (needs (length rules_) rules_) (outputs statements)))
      (λ m e. e) (λ i n heads e. absurd (none-some (Named n heads) e)) (λ m e. inr e)
      (λ m h. absurd (omega (arith, h))) (λ m e h. omega (arith, h))
