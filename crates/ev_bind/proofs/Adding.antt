-- One more pair in a binding.
use Rattle.std.proofs.Common.{ℕ, inl, inr, ◌<◌, ◌≤◌, ◌≡◌, refl, ap, sym, ◌∙◌, arith, Bool, true, false, cond, not, ◌&&◌, ◌||◌, Option, Some, None, List, [], ◌∷◌, ◌++◌}
use Rattle.std.specs.Prelude.{◌==◌, nat_lt, option_map}
use Rattle.std.specs.List.{list_all}
use Rattle.std.specs.Ordering.{is_eq, nat_cmp, ordering_then, MatchOrdering}
use Rattle.std.specs.Cmp.{tied_itself, ranks}
use Rattle.std.specs.declared.cmp.Ordering.{Ordering}
use Rattle.std.specs.declared.cmp.Ordering.TheVariants.{Less, Equal, Greater}
use Rattle.std.proofs.lemmas.Bool.{true≢false, and_parts, and_from, or_cases, or_left, or_right, eq-eqb, eqb-false, ne_eqb, lt-ltb, ltb-true, not-true, not_from_false}
use Rattle.std.proofs.lemmas.List.Folds.{list_all-append}
use Rattle.ordered_lists.specs.Canon.{place, placed, has, AllAbove, Rising, canon_itself}
use Rattle.ordered_lists.specs.Members.{canon-snoc}
use Rattle.event_model.specs.TermOrder.{term_cmp, exact_terms}
use Rattle.event_model.specs.declared.terms.Term.{Term}
use Rattle.ev_bind.specs.Bindings.{Pair, Pairs, pair_cmp, alike, single, join, IsBinding, value_at, exact_pairs, single_within, same_Bool}
use Rattle.ev_bind.specs.Projections.{tie}

-- the pairs with one more at its place; none where its slot has another value
abbrev pub added_at : Ordering → Pair → Pair → Pairs → Option Pairs → Option Pairs
added_at Less q p b rest = Some (q ∷ p ∷ b)
added_at Equal q p b rest = cond (is_eq (term_cmp p.1 q.1)) (Some (p ∷ b)) None
added_at Greater q p b rest = option_map (λ d. p ∷ d) rest

abbrev pub added : Pairs → Pair → Option Pairs
added [] q = Some (q ∷ [])
added (p ∷ b) q = added_at (nat_cmp q.0 p.0) q p b (added b q)

-- rising slots
abbrev pub climbs : Pairs → Bool
climbs [] = true
climbs (p ∷ b) = list_all (λ r. nat_lt p.0 r.0) b && climbs b

module _ {K : Type 0} where
  all_so : (p q : K → Bool) → ((x : K) → p x ≡ true → q x ≡ true) → (xs : List K) → list_all p xs ≡ true → list_all q xs ≡ true
  all_so p q h [] a = refl
  all_so p q h (x ∷ xs) a = and_from (q x) (list_all q xs) (h x (and_parts (p x) (list_all p xs) a).0) (all_so p q h xs (and_parts (p x) (list_all p xs) a).1)

  all_both : (p q r : K → Bool) → ((x : K) → p x ≡ true → q x ≡ true → r x ≡ true) → (xs : List K) → list_all p xs ≡ true → list_all q xs ≡ true → list_all r xs ≡ true
  all_both p q r h [] a b = refl
  all_both p q r h (x ∷ xs) a b = and_from (r x) (list_all r xs)
      (h x (and_parts (p x) (list_all p xs) a).0 (and_parts (q x) (list_all q xs) b).0)
      (all_both p q r h xs (and_parts (p x) (list_all p xs) a).1 (and_parts (q x) (list_all q xs) b).1)

-- ---- the slots of a binding rise

climb : (p r : Pair) → pair_cmp p r ≡ Less → alike p r ≡ true → nat_lt p.0 r.0 ≡ true
climb p r e h = at (nat_cmp p.0 r.0) (ranks p.0 r.0) e
  where
    at : (c : Ordering) → MatchOrdering c (p.0 < r.0) (p.0 ≡ r.0) (r.0 < p.0) → ordering_then c (term_cmp p.1 r.1) ≡ Less → nat_lt p.0 r.0 ≡ true
    at Less m e = lt-ltb p.0 r.0 m
    at Equal m e = absurd (true≢false (sym h ∙ (λ i. not (eq-eqb p.0 r.0 m i) || is_eq (e i))))
    at Greater m e = absurd (true≢false (sym (ap is_greater e)))
      where
        is_greater : Ordering → Bool
        is_greater Less = true
        is_greater Equal = false
        is_greater Greater = false

above : (p : Pair) (b : Pairs) → AllAbove pair_cmp p b → list_all (alike p) b ≡ true → list_all (λ r. nat_lt p.0 r.0) b ≡ true
above p [] a h = refl
above p (r ∷ b) a h = and_from (nat_lt p.0 r.0) (list_all (λ r. nat_lt p.0 r.0) b)
    (climb p r a.0 (and_parts (alike p r) (list_all (alike p) b) h).0) (above p b a.1 (and_parts (alike p r) (list_all (alike p) b) h).1)

pub climbs_of : (b : Pairs) → Rising pair_cmp b → single b ≡ true → climbs b ≡ true
climbs_of [] r s = refl
climbs_of (p ∷ b) r s = and_from (list_all (λ r. nat_lt p.0 r.0) b) (climbs b)
    (above p b r.0 (and_parts (alike p p) (list_all (alike p) b) (and_parts (list_all (alike p) (p ∷ b)) (list_all (λ x. list_all (alike x) (p ∷ b)) b) s).0).1)
    (climbs_of b r.1 (single_within (p ∷ b) b (λ q e. or_right (is_eq (pair_cmp q p)) (has pair_cmp q b) e) s))

-- ---- no slot has two values with one more pair

alike_itself : (p : Pair) → alike p p ≡ true
alike_itself p = or_right (not (p.0 == p.0)) (is_eq (term_cmp p.1 p.1)) (ap is_eq (tied_itself exact_terms.total p.1))

apart : (p q : Pair) → (p.0 ≡ q.0 → ⊥) → alike p q ≡ true
apart p q n = or_left (not (p.0 == q.0)) (is_eq (term_cmp p.1 q.1)) (not_from_false (p.0 == q.0) (ne_eqb p.0 q.0 n))

alike_back : (p q : Pair) → alike p q ≡ true → alike q p ≡ true
alike_back p q h = elim (or_cases (not (p.0 == q.0)) (is_eq (term_cmp p.1 q.1)) h) [
  | inl d ↦ apart q p (λ e. eqb-false p.0 q.0 (not-true (p.0 == q.0) d) (sym e))
  | inr t ↦ or_right (not (q.0 == p.0)) (is_eq (term_cmp q.1 p.1))
      (ap is_eq (ap (term_cmp q.1) (exact_terms.same p.1 q.1 (tie (term_cmp p.1 q.1) t)) ∙ tied_itself exact_terms.total q.1))
]

single_more : (b : Pairs) (q : Pair) → single b ≡ true → single (b ++ q ∷ []) ≡ list_all (λ p. alike p q) b
single_more b q s = list_all-append whole b (q ∷ []) ∙ same_Bool _ _ there back
  where
    whole : Pair → Bool
    whole p = list_all (alike p) (b ++ q ∷ [])

    parts : (p : Pair) → whole p ≡ (list_all (alike p) b && (alike p q && true))
    parts p = list_all-append (alike p) b (q ∷ [])

    there : (list_all whole b && (whole q && true)) ≡ true → list_all (λ p. alike p q) b ≡ true
    there h = all_so whole (λ p. alike p q) (λ p e. (and_parts (alike p q) true (and_parts (list_all (alike p) b) (alike p q && true) (sym (parts p) ∙ e)).1).0) b
        (and_parts (list_all whole b) (whole q && true) h).0

    back : list_all (λ p. alike p q) b ≡ true → (list_all whole b && (whole q && true)) ≡ true
    back h = and_from (list_all whole b) (whole q && true)
        (all_both (λ p. list_all (alike p) b) (λ p. alike p q) whole (λ p e f. parts p ∙ and_from (list_all (alike p) b) (alike p q && true) e (and_from (alike p q) true f refl)) b s h)
        (and_from (whole q) true (parts q ∙ and_from (list_all (alike q) b) (alike q q && true) (all_so (λ p. alike p q) (alike q) (λ p e. alike_back p q e) b h) (and_from (alike q q) true (alike_itself q) refl)) refl)

-- ---- the union is one more pair at its place

lift : (t : Bool) (p : Pair) (d : Pairs) → cond t (Some (p ∷ d)) None ≡ option_map (λ d. p ∷ d) (cond t (Some d) None)
lift true p d = refl
lift false p d = refl

others_apart : (p q : Pair) (b : Pairs) → q.0 ≤ p.0 → list_all (λ r. nat_lt p.0 r.0) b ≡ true → list_all (λ r. alike r q) b ≡ true
others_apart p q b le = all_so (λ r. nat_lt p.0 r.0) (λ r. alike r q) (λ r e. apart r q (λ same. absurd (omega (arith, ltb-true p.0 r.0 e, same)))) b

placed_or_not : (b : Pairs) (q : Pair) → climbs b ≡ true → cond (list_all (λ p. alike p q) b) (Some (place pair_cmp q b)) None ≡ added b q
placed_or_not [] q c = refl
placed_or_not (p ∷ b) q c = at (nat_cmp q.0 p.0) (ranks q.0 p.0) (placed_or_not b q parts.1)
  where
    parts : (list_all (λ r. nat_lt p.0 r.0) b ≡ true) × (climbs b ≡ true)
    parts = and_parts (list_all (λ r. nat_lt p.0 r.0) b) (climbs b) c

    rest : Bool
    rest = list_all (λ r. alike r q) b

    value : (t : Bool) → is_eq (term_cmp p.1 q.1) ≡ t → cond t (Some (placed pair_cmp (term_cmp q.1 p.1) q p b (place pair_cmp q b))) None ≡ cond t (Some (p ∷ b)) None
    value true e = ap (λ o. Some (placed pair_cmp o q p b (place pair_cmp q b)))
        (ap (term_cmp q.1) (exact_terms.same p.1 q.1 (tie (term_cmp p.1 q.1) e)) ∙ tied_itself exact_terms.total q.1)
    value false e = refl

    at : (c : Ordering) → MatchOrdering c (q.0 < p.0) (q.0 ≡ p.0) (p.0 < q.0)
        → cond rest (Some (place pair_cmp q b)) None ≡ added b q
        → cond (alike p q && rest) (Some (placed pair_cmp (ordering_then c (term_cmp q.1 p.1)) q p b (place pair_cmp q b))) None ≡ added_at c q p b (added b q)
    at Less m more = ap (λ t. cond t (Some (q ∷ p ∷ b)) None)
        (and_from (alike p q) rest (apart p q (λ e. absurd (omega (arith, m, e)))) (others_apart p q b (omega (arith, m)) parts.0))
    at Equal m more = (λ i. cond ((not (eq-eqb p.0 q.0 (sym m) i) || is_eq (term_cmp p.1 q.1)) && others_apart p q b (omega (arith, m)) parts.0 i) (Some (placed pair_cmp (term_cmp q.1 p.1) q p b (place pair_cmp q b))) None)
        ∙ ap (λ t. cond t (Some (placed pair_cmp (term_cmp q.1 p.1) q p b (place pair_cmp q b))) None) (and_true (is_eq (term_cmp p.1 q.1)))
        ∙ value (is_eq (term_cmp p.1 q.1)) refl
      where
        and_true : (t : Bool) → (t && true) ≡ t
        and_true true = refl
        and_true false = refl
    at Greater m more = ap (λ t. cond (t && rest) (Some (p ∷ place pair_cmp q b)) None) (apart p q (λ e. absurd (omega (arith, m, e))))
        ∙ lift rest p (place pair_cmp q b) ∙ ap (option_map (λ d. p ∷ d)) more

pub join_one : (b : Pairs) (q : Pair) → IsBinding b → join b (q ∷ []) ≡ added b q
join_one b q h = (λ i. cond (single_more b q h.one_value i) (Some ((canon-snoc exact_pairs b q ∙ ap (place pair_cmp q) (canon_itself exact_pairs b h.rising)) i)) None)
    ∙ placed_or_not b q (climbs_of b h.rising h.one_value)

-- ---- by the value that the slot has

no_value : (b : Pairs) (slot : ℕ) → list_all (λ r. nat_lt slot r.0) b ≡ true → value_at b slot ≡ None
no_value [] slot h = refl
no_value (p ∷ b) slot h = ap (λ t. cond t (Some p.1) (value_at b slot)) (ne_eqb p.0 slot (λ e. absurd (omega (arith, ltb-true slot p.0 first, e))))
    ∙ no_value b slot (and_parts (nat_lt slot p.0) (list_all (λ r. nat_lt slot r.0) b) h).1
  where
    first : nat_lt slot p.0 ≡ true
    first = (and_parts (nat_lt slot p.0) (list_all (λ r. nat_lt slot r.0) b) h).0

none_some : {X : Type 0} {v : X} → None ≡ Some v → ⊥
none_some e = cc

found : (b : Pairs) (q : Pair) (v : Term) → climbs b ≡ true → value_at b q.0 ≡ Some v → added b q ≡ cond (is_eq (term_cmp v q.1)) (Some b) None
found [] q v c h = absurd (none_some h)
found (p ∷ b) q v c h = at (nat_cmp q.0 p.0) (ranks q.0 p.0) (found b q v parts.1)
  where
    parts : (list_all (λ r. nat_lt p.0 r.0) b ≡ true) × (climbs b ≡ true)
    parts = and_parts (list_all (λ r. nat_lt p.0 r.0) b) (climbs b) c

    further : (p.0 ≡ q.0 → ⊥) → value_at b q.0 ≡ Some v
    further n = sym (ap (λ t. cond t (Some p.1) (value_at b q.0)) (ne_eqb p.0 q.0 n)) ∙ h

    here : p.0 ≡ q.0 → Some p.1 ≡ Some v
    here e = sym (ap (λ t. cond t (Some p.1) (value_at b q.0)) (eq-eqb p.0 q.0 e)) ∙ h

    out : Some p.1 ≡ Some v → p.1 ≡ v
    out e = cc

    at : (c : Ordering) → MatchOrdering c (q.0 < p.0) (q.0 ≡ p.0) (p.0 < q.0) → (value_at b q.0 ≡ Some v → added b q ≡ cond (is_eq (term_cmp v q.1)) (Some b) None)
        → added_at c q p b (added b q) ≡ cond (is_eq (term_cmp v q.1)) (Some (p ∷ b)) None
    at Less m more = absurd (none_some (sym (no_value b q.0 (all_so (λ r. nat_lt p.0 r.0) (λ r. nat_lt q.0 r.0) (λ r e. lt-ltb q.0 r.0 (omega (arith, ltb-true p.0 r.0 e, m))) b parts.0)) ∙ further (λ e. absurd (omega (arith, m, e)))))
    at Equal m more = ap (λ t. cond (is_eq (term_cmp t q.1)) (Some (p ∷ b)) None) (out (here (sym m)))
    at Greater m more = ap (option_map (λ d. p ∷ d)) (more (further (λ e. absurd (omega (arith, m, e))))) ∙ sym (lift (is_eq (term_cmp v q.1)) p b)

-- a slot that has a value takes no other
pub join_found : (b : Pairs) (slot : ℕ) (t v : Term) → IsBinding b → value_at b slot ≡ Some v → join b ((slot, t) ∷ []) ≡ cond (is_eq (term_cmp v t)) (Some b) None
join_found b slot t v h e = join_one b (slot, t) h ∙ found b (slot, t) v (climbs_of b h.rising h.one_value) e
