-- Rows bind exactly the slots of their step, and rows with a union have the same values at each key that both bind.
use Rattle.std.specs.Prelude.{ℕ, zero, suc, ◌≡◌, ◌<◌, ◌==◌, refl, Bool, true, false, cond, ◌&&◌, ◌||◌, is_some, nat_lt, Option, Some, None, List, [], ◌∷◌, ◌++◌}
use Rattle.std.specs.List.{flat_map, list_any}
use Rattle.std.specs.Ordering.{is_eq}
use Rattle.std.specs.Cmp.{tied_itself}
use Rattle.std.proofs.Common.{inl, inr, ap, sym, ◌∙◌, arith, subst}
use Rattle.std.proofs.lemmas.Bool.{true≢false, and_parts, or_cases, or_left, or_right, eq-eqb, eqb-true}
use Rattle.std.proofs.lemmas.Bool.Decides.{nat_tests}
use Rattle.std.proofs.lemmas.List.Folds.{list_any-append}
use Rattle.std.proofs.lemmas.Option.{none-some, same_Some}
use Rattle.std.proofs.lemmas.Slice.Eq.{bytes_eq-Decides}
use Rattle.ordered_lists.specs.Lists.{some_of, joins, with_each, Each, Each-append, Each-filter, Each-flat_map}
use Rattle.ordered_lists.specs.Canon.{canon, has, Each-canon, Rising-filter, has-filter, canon_one}
use Rattle.ordered_lists.specs.Members.{list_any-canon}
use Rattle.event_model.specs.Spans.{PlainSpan}
use Rattle.event_model.specs.declared.atoms.Atom.{Atom as GroundAtom}
use Rattle.event_model.specs.declared.atoms.NameArity.{NameArity}
use Rattle.event_model.specs.declared.atoms.PatAtom.{PatAtom}
use Rattle.event_model.specs.declared.events.Event.{Event}
use Rattle.event_model.specs.declared.operators.Op.{Op}
use Rattle.event_model.specs.declared.terms.Term.{Term}
use Rattle.event_model.specs.declared.terms.TheConstants.{MOST_SLOTS}
use Rattle.interval_ops.specs.Operators.{pair}
use Rattle.ev_bind.specs.Bindings.{Pair, Pairs, pair_cmp, exact_pairs, single, IsBinding, IsBinding-canon, value_at, Within as Among, same_Bool}
use Rattle.ev_bind.specs.Matching.{match_of, match_of_args}
use Rattle.ev_bind.specs.Projections.{same_pairs_decides, tie}
use Rattle.ev_bind.specs.Rows.{row_cmp}
use Rattle.ev_bind.specs.declared.rows.Row.{Row}
use Rattle.ev_bind.proofs.Fitting.{found as match_found, one_pair}
use Rattle.rule_ast.specs.PlainPlans.{PlainStep, Named, Leaf, Join, Either, Where, Exact, Within, Minus, Head}
use Rattle.rule_ast.specs.Trees as tree
use Rattle.rule_ast.specs.Vars.{atom_vars, is_in}
use Rattle.term_eval.specs.Values.{holds}
use Rattle.pattern_meaning.specs.Bound.{BindsExactly}
use Rattle.pattern_meaning.specs.PatternRows.{rows_of, spanned, matched, args_of}
use Rattle.pattern_meaning.specs.RuleRows.{joined, is_long, is_short}
use Rattle.pattern_meaning.proofs.BoundLaws.{rows_bound}
use Rattle.pattern_meaning.proofs.Eachs.{Each-more}
use Rattle.step_meaning.specs.Operands.{IsLower, AreLower, rows_of_supports}
use Rattle.step_meaning.specs.PlanOf.{slots_that, in_either, step_slots}
use Rattle.step_meaning.specs.StepRows.{step_at, supports, step_rows}
use Rattle.row_changes.specs.Partners.{on_key, agree}
use Rattle.change_meaning.specs.Keys.{slots_at, IsBoundOn, is_body_step, IsBody, AreSameSlots, IsKeyedStep, IsKeyed}
use Rattle.change_meaning.proofs.SlotLaws.{AreSmall, in_that_small, in_either_is, slots_own, small_at}

pub Each-both : {A : Type 0} (P Q : A → Type 0) (xs : List A) → Each P xs → Each Q xs → Each (λ x. P x × Q x) xs
Each-both P Q [] a b = tt
Each-both P Q (x ∷ xs) a b = ((a.0, b.0), Each-both P Q xs a.1 b.1)

-- ---- values and pairs

slot_bound : (b : Pairs) (slot : ℕ) → is_some (value_at b slot) ≡ list_any (λ q. q.0 == slot) b
slot_bound [] slot = refl
slot_bound (p ∷ b) slot = at (p.0 == slot) (slot_bound b slot)
  where
    at : (t : Bool) → is_some (value_at b slot) ≡ list_any (λ q. q.0 == slot) b
        → is_some (cond t (Some p.1) (value_at b slot)) ≡ (t || list_any (λ q. q.0 == slot) b)
    at true e = refl
    at false e = e

union_bound : (a b : Pairs) (slot : ℕ)
    → is_some (value_at (canon pair_cmp (a ++ b)) slot) ≡ (is_some (value_at a slot) || is_some (value_at b slot))
union_bound a b slot =
    slot_bound (canon pair_cmp (a ++ b)) slot
    ∙ list_any-canon exact_pairs (λ q. q.0 == slot) (a ++ b)
    ∙ list_any-append (λ q. q.0 == slot) a b
    ∙ sym (λ i. slot_bound a slot i || slot_bound b slot i)

-- a slot with a value has its pair
value_pair : (b : Pairs) (s : ℕ) (v : Term) → value_at b s ≡ Some v → has pair_cmp (s, v) b ≡ true
value_pair [] s v e = absurd (none-some v e)
value_pair (p ∷ b) s v e = at (p.0 == s) refl e (value_pair b s v)
  where
    at : (t : Bool) → (p.0 == s) ≡ t → cond t (Some p.1) (value_at b s) ≡ Some v → (value_at b s ≡ Some v → has pair_cmp (s, v) b ≡ true)
        → has pair_cmp (s, v) (p ∷ b) ≡ true
    at true h e more =
        let same : ◌≡◌ {A = Pair} (s, v) p = λ i. (sym (eqb-true p.0 s h) i, sym (same_Some p.1 v e) i) in
        or_left (is_eq (pair_cmp (s, v) p)) (has pair_cmp (s, v) b)
        (ap is_eq (ap (pair_cmp (s, v)) (sym same) ∙ tied_itself exact_pairs.total (s, v)))
    at false h e more = or_right (is_eq (pair_cmp (s, v) p)) (has pair_cmp (s, v) b) (more e)

-- and a slot with a pair has a value
pub pair_value : (b : Pairs) (q : Pair) → has pair_cmp q b ≡ true → is_some (value_at b q.0) ≡ true
pair_value b q e = slot_bound b q.0 ∙ has_slot b e
  where
    has_slot : (xs : Pairs) → has pair_cmp q xs ≡ true → list_any (λ r. r.0 == q.0) xs ≡ true
    has_slot [] e = absurd (true≢false (sym e))
    has_slot (x ∷ xs) e = elim (or_cases (is_eq (pair_cmp q x)) (has pair_cmp q xs) e) [
      | inl f ↦ or_left (x.0 == q.0) (list_any (λ r. r.0 == q.0) xs)
          (eq-eqb x.0 q.0 (ap (λ r. r.0) (sym (exact_pairs.same q x (tie (pair_cmp q x) f)))))
      | inr f ↦ or_right (x.0 == q.0) (list_any (λ r. r.0 == q.0) xs) (has_slot xs f)
    ]

-- a pair of bindings that have one value for each slot is in each of them that binds its slot
pub carried : (xs : Pairs) → single xs ≡ true → (q : Pair) → has pair_cmp q xs ≡ true → (b : Pairs) → Among exact_pairs b xs
    → is_some (value_at b q.0) ≡ true → has pair_cmp q b ≡ true
carried xs one q h b w e = at (value_at b q.0) refl e
  where
    at : (o : Option Term) → value_at b q.0 ≡ o → is_some o ≡ true → has pair_cmp q b ≡ true
    at None d k = absurd (true≢false (sym k))
    at (Some v) d k =
        let there = value_pair b q.0 v d in
        let is : ◌≡◌ {A = Pair} (q.0, v) q = one_pair xs one q (q.0, v) h (w (q.0, v) there) refl in
        ap (λ p. has pair_cmp p b) (sym is) ∙ there

-- each slot of the key has a value
abbrev pub Binds : List ℕ → Pairs → Type 0
Binds key b = (s : ℕ) → is_in s key ≡ true → is_some (value_at b s) ≡ true

module _ (key : List ℕ) (xs : Pairs) (one : single xs ≡ true) where
  side : (a b : Pairs) → Among exact_pairs a xs → Among exact_pairs b xs → Binds key b → (q : Pair)
      → has pair_cmp q (on_key key a) ≡ true → has pair_cmp q (on_key key b) ≡ true
  side a b wa wb bound q e =
      let parts = and_parts (is_in q.0 key) (has pair_cmp q a) (sym (has-filter exact_pairs (λ p. is_in p.0 key) q a) ∙ e) in
      let there : has pair_cmp q b ≡ true = carried xs one q (wa q parts.1) b wb (bound q.0 parts.0) in
      has-filter exact_pairs (λ p. is_in p.0 key) q b ∙ (λ i. parts.0 i && there i)

  -- parts of such a list agree on a key that both bind
  pub agree_in : (a b : Pairs) → IsBinding a → IsBinding b → Among exact_pairs a xs → Among exact_pairs b xs → Binds key a → Binds key b
      → agree key a b ≡ true
  agree_in a b ia ib wa wb ka kb =
      (same_pairs_decides (on_key key a) (on_key key b)).1
      (canon_one exact_pairs (on_key key a) (on_key key b) (Rising-filter exact_pairs (λ p. is_in p.0 key) a ia.rising)
      (Rising-filter exact_pairs (λ p. is_in p.0 key) b ib.rising)
      (λ q. same_Bool (has pair_cmp q (on_key key a)) (has pair_cmp q (on_key key b)) (side a b wa wb kb q) (side b a wb wa ka q)))

-- ---- rows bind the slots of their step

matched_binding : (p : PatAtom) (r : Row) → Each (λ x. IsBinding x.binding) (matched p r)
matched_binding p r = at (match_of_args p.args (args_of r)) refl
  where
    a : GroundAtom
    a = record { name = p.name; args = args_of r }

    at : (o : Option Pairs) → match_of_args p.args (args_of r) ≡ o → Each (λ x. IsBinding x.binding) (some_of (spanned (Some r.span) o))
    at None e = tt
    at (Some b) e =
        let is : match_of p a ≡ Some b =
        ap (λ t. cond t (match_of_args p.args (args_of r)) None) ((bytes_eq-Decides p.name p.name).1 refl) ∙ e in
        ((match_found p a b is).binding, tt)

abbrev Is : List ℕ → Row → Type 0
Is slots r = IsBoundOn slots r

same_slots : (s t : List ℕ) → AreSameSlots s t → (xs : List Row) → Each (Is s) xs → Each (Is t) xs
same_slots s t same = Each-more (Is s) (Is t) (λ r h. record { binding = h.binding; exact = λ slot. h.exact slot ∙ same slot })

leaf_bound : (p : PatAtom) → ((s : ℕ) → is_in s (atom_vars p) ≡ true → nat_lt s MOST_SLOTS ≡ true) → (rows : List Row)
    → Each (Is (slots_that (λ s. is_in s (atom_vars p)))) (rows_of (flat_map (matched p) rows))
leaf_bound p small rows =
    let found = flat_map (matched p) rows in
    let exact : Each (BindsExactly (atom_vars p)) (rows_of found) = rows_bound (λ (n : NameArity). rows) (tree.Atom p) tt in
    let unit : Each (λ _. Unit {0}) rows = units rows in
    let bindings : Each (λ x. IsBinding x.binding) (rows_of found) =
    Each-canon row_cmp (λ x. IsBinding x.binding) found
    (Each-flat_map (λ _. Unit {0}) (λ x. IsBinding x.binding) (matched p) (λ r _. matched_binding p r) rows unit) in
    Each-more (λ x. IsBinding x.binding × BindsExactly (atom_vars p) x) (Is (slots_that (λ s. is_in s (atom_vars p))))
    (λ x h. record { binding = h.0; exact = λ s. h.1 s ∙ sym (in_that_small (λ s. is_in s (atom_vars p)) small s) })
    (rows_of found) (Each-both (λ x. IsBinding x.binding) (BindsExactly (atom_vars p)) (rows_of found) bindings exact)
  where
    units : (xs : List Row) → Each (λ _. Unit {0}) xs
    units [] = tt
    units (x ∷ xs) = (tt, units xs)

pair_bound : (op : Op) (s t : List ℕ) → AreSmall s → AreSmall t → (x y : Row) → Is s x → Is t y
    → Each (Is (in_either s t)) (some_of (joined op x y))
pair_bound op s t small_s small_t x y left right = at (pair op x.span y.span) (single (x.binding ++ y.binding)) refl
  where
    at : (o : Option PlainSpan) (c : Bool) → single (x.binding ++ y.binding) ≡ c
        → Each (Is (in_either s t)) (some_of (spanned o (cond c (Some (canon pair_cmp (x.binding ++ y.binding))) None)))
    at None c h = tt
    at (Some span) false h = tt
    at (Some span) true h = (
      record {
        binding = IsBinding-canon (x.binding ++ y.binding) h;
        exact = λ slot. union_bound x.binding y.binding slot ∙ (λ i. left.exact slot i || right.exact slot i)
            ∙ sym (in_either_is s t small_s small_t slot);
      },
      tt,
    )

joins_bound : (op : Op) (s t : List ℕ) → AreSmall s → AreSmall t → (xs ys : List Row) → Each (Is s) xs → Each (Is t) ys
    → Each (Is (in_either s t)) (joins (joined op) xs ys)
joins_bound op s t small_s small_t xs ys left right =
    Each-flat_map (Is s) (Is (in_either s t)) (with_each (joined op) ys)
    (λ x h. Each-flat_map (Is t) (Is (in_either s t)) (λ y. some_of (joined op x y)) (λ y g. pair_bound op s t small_s small_t x y h g) ys right)
    xs left

either_left : (xs ys : List ℕ) → AreSmall xs → AreSmall ys → AreSameSlots xs ys → AreSameSlots xs (in_either xs ys)
either_left xs ys h g same s = at (is_in s xs) (is_in s ys) (same s) ∙ sym (in_either_is xs ys h g s)
  where
    at : (a b : Bool) → a ≡ b → a ≡ (a || b)
    at true b e = refl
    at false b e = e

either_right : (xs ys : List ℕ) → AreSmall xs → AreSmall ys → AreSameSlots xs ys → AreSameSlots ys (in_either xs ys)
either_right xs ys h g same s = at (is_in s xs) (is_in s ys) (same s) ∙ sym (in_either_is xs ys h g s)
  where
    at : (a b : Bool) → a ≡ b → b ≡ (a || b)
    at true b e = sym e
    at false b e = refl

module _ (steps : List PlainStep) (lower : AreLower steps) (keyed : IsKeyed steps) (E : List Event) where
  abbrev slots : ℕ → List ℕ
  slots = slots_at steps

  abbrev rows : ℕ → List Row
  rows j = step_rows steps j E

  abbrev Bound : ℕ → Type 0
  Bound j = IsBody steps j → Each (Is (slots j)) (rows j)

  by_step : (i : ℕ) → ((j : ℕ) → j < i → Bound j) → (s : PlainStep) → IsLower i s → IsKeyedStep steps s → is_body_step (Some s) ≡ true
      → Each (Is (step_slots slots s)) (rows_of (supports E rows s))
  by_step i ih (Named n heads) a k b = absurd (true≢false (sym b))
  by_step i ih (Leaf of p) a k b = leaf_bound p (λ s e. (let lt = k s e in grind (arith, nat_tests, lt))) (rows of)
  by_step i ih (Join op l r) a k b =
      Each-canon row_cmp (Is (in_either (slots l) (slots r))) (joins (joined op) (rows l) (rows r))
      (joins_bound op (slots l) (slots r) (small_at steps l) (small_at steps r) (rows l) (rows r) (ih l a.0 k.0) (ih r a.1 k.1))
  by_step i ih (Either l r) a k b =
      let both = in_either (slots l) (slots r) in
      Each-canon row_cmp (Is both) (rows l ++ rows r)
      (Each-append (Is both) (rows l) (rows r)
      (same_slots (slots l) both (either_left (slots l) (slots r) (small_at steps l) (small_at steps r) k.2) (rows l) (ih l a.0 k.0))
      (same_slots (slots r) both (either_right (slots l) (slots r) (small_at steps l) (small_at steps r) k.2) (rows r) (ih r a.1 k.1)))
  by_step i ih (Where of c) a k b =
      Each-canon row_cmp (Is (slots of)) _ (Each-filter (Is (slots of)) (λ r. holds c r.binding) (rows of) (ih of a k))
  by_step i ih (Exact of q) a k b = Each-canon row_cmp (Is (slots of)) _ (Each-filter (Is (slots of)) (is_long q) (rows of) (ih of a k))
  by_step i ih (Within of q) a k b = Each-canon row_cmp (Is (slots of)) _ (Each-filter (Is (slots of)) (is_short q) (rows of) (ih of a k))
  by_step i ih (Minus j f n l) a k b = Each-canon row_cmp (Is (slots j)) _ (Each-filter (Is (slots j)) _ (rows j) (ih j a.0 k.0))
  by_step i ih (Head of head) a k b = absurd (true≢false (sym b))

  below : (n i : ℕ) → i < n → Bound i
  below zero i h b = absurd (omega (arith, h))
  below (suc n) i h b = at (λ j lt. below n j (omega (arith, lt, h))) (step_at steps i) refl b
    where
      at : ((j : ℕ) → j < i → Bound j) → (o : Option PlainStep) → step_at steps i ≡ o → is_body_step o ≡ true → Each (Is (slots i)) (rows i)
      at ih None e b = absurd (true≢false (sym b))
      at ih (Some s) e b =
          subst (λ l. Each (Is (slots i)) l) (sym (rows_of_supports E steps lower i s e))
          (subst (λ l. Each (Is l) (rows_of (supports E rows s))) (sym (slots_own steps lower i s e))
          (by_step i ih s (lower i s e) (keyed i s e) b))

  -- each row of a step of a body binds exactly the slots of the step
  pub rows_bound_on : (i : ℕ) → IsBody steps i → Each (IsBoundOn (slots_at steps i)) (step_rows steps i E)
  rows_bound_on i b = below (suc i) i (omega arith) b
