-- The values of a union of two bindings.
use Rattle.std.proofs.Common.{ℕ, inl, inr, ◌⊎◌, ◌↔◌, ◌≡◌, refl, ap, sym, ◌∙◌, subst, Bool, true, false, cond, not, ◌&&◌, ◌||◌, Option, Some, None, [], ◌∷◌, ◌++◌}
use Rattle.std.specs.Prelude.{◌==◌, is_some, IsSome}
use Rattle.std.specs.List.{list_all}
use Rattle.std.specs.Ordering.{is_eq}
use Rattle.std.proofs.lemmas.Bool.{true≢false, or_cases, or_left, or_right, not_from_false, cases_eq, ne_eqb, eq-eqb}
use Rattle.ordered_lists.specs.Canon.{canon, has, has-canon, has-append}
use Rattle.event_model.specs.TermOrder.{term_cmp, exact_terms}
use Rattle.event_model.specs.declared.terms.Term.{Term}
use Rattle.ev_bind.specs.Bindings.{Pair, Pairs, pair_cmp, alike, single, join, IsBinding, value_at, exact_pairs, has_all, IsBinding-canon}
use Rattle.ev_bind.specs.Fits.{is_value}
use Rattle.ev_bind.proofs.Adding.{climbs_of}
use Rattle.ev_bind.specs.Projections.{tie}
use Rattle.ev_bind.proofs.Fitting.{has_value, itself, one_pair, none_some}

-- a value is a pair
is_pair : (b : Pairs) → IsBinding b → (slot : ℕ) (v : Term) → value_at b slot ≡ Some v → has pair_cmp (slot, v) b ≡ true
is_pair b h slot v e = has_value b (climbs_of b h.rising h.one_value) slot v ∙ ap (λ o. is_value o v) e ∙ itself v

-- a pair is a value
has_its_value : (b : Pairs) → IsBinding b → (slot : ℕ) (v : Term) → has pair_cmp (slot, v) b ≡ true → value_at b slot ≡ Some v
has_its_value b h slot v e = at (value_at b slot) (sym (has_value b (climbs_of b h.rising h.one_value) slot v) ∙ e)
  where
    at : (o : Option Term) → is_value o v ≡ true → o ≡ Some v
    at None e = absurd (true≢false (sym e))
    at (Some u) e = ap Some (exact_terms.same u v (tie (term_cmp u v) e))

one : (a b : Pairs) → single (a ++ b) ≡ true → (slot : ℕ) (v w : Term) → has pair_cmp (slot, v) a ≡ true → has pair_cmp (slot, w) b ≡ true → v ≡ w
one a b s slot v w e f = ap (λ p. p.1) (one_pair (a ++ b) s (slot, w) (slot, v)
    (has-append exact_pairs (slot, w) a b ∙ or_right (has pair_cmp (slot, w) a) (has pair_cmp (slot, w) b) f)
    (has-append exact_pairs (slot, v) a b ∙ or_left (has pair_cmp (slot, v) a) (has pair_cmp (slot, v) b) e) refl)

-- two pairs that are one where their slots are
alike_if : (p q : Pair) → (p.0 ≡ q.0 → p.1 ≡ q.1) → alike p q ≡ true
alike_if p q f = elim (cases_eq p.0 q.0) [
  | inl e ↦ or_right (not (p.0 == q.0)) (is_eq (term_cmp p.1 q.1)) (ap (λ t. is_eq (term_cmp p.1 t)) (sym (f e)) ∙ itself p.1)
  | inr n ↦ or_left (not (p.0 == q.0)) (is_eq (term_cmp p.1 q.1)) (not_from_false (p.0 == q.0) (ne_eqb p.0 q.0 n))
]

abbrev pub Agree : Pairs → Pairs → Type 0
Agree a b = (slot : ℕ) (v w : Term) → value_at a slot ≡ Some v → value_at b slot ≡ Some w → v ≡ w

agree_single : (a b : Pairs) → IsBinding a → IsBinding b → Agree a b → single (a ++ b) ≡ true
agree_single a b g h f = has_all exact_pairs (λ p. list_all (alike p) (a ++ b)) (a ++ b) (λ p e. has_all exact_pairs (alike p) (a ++ b) (λ q d. alike_if p q (λ slots.
    both p q slots (or_cases (has pair_cmp p a) (has pair_cmp p b) (sym (has-append exact_pairs p a b) ∙ e)) (or_cases (has pair_cmp q a) (has pair_cmp q b) (sym (has-append exact_pairs q a b) ∙ d)))))
  where
    value : (b : Pairs) → IsBinding b → (p : Pair) → has pair_cmp p b ≡ true → value_at b p.0 ≡ Some p.1
    value b h p e = has_its_value b h p.0 p.1 e

    both : (p q : Pair) → p.0 ≡ q.0 → (has pair_cmp p a ≡ true) ⊎ (has pair_cmp p b ≡ true) → (has pair_cmp q a ≡ true) ⊎ (has pair_cmp q b ≡ true) → p.1 ≡ q.1
    both p q slots (inl e) (inl d) = ap (λ r. r.1) (one_pair a g.one_value q p d e slots)
    both p q slots (inr e) (inr d) = ap (λ r. r.1) (one_pair b h.one_value q p d e slots)
    both p q slots (inl e) (inr d) = f q.0 p.1 q.1 (ap (value_at a) (sym slots) ∙ value a g p e) (value b h q d)
    both p q slots (inr e) (inl d) = sym (f q.0 q.1 p.1 (value a g q d) (ap (value_at b) (sym slots) ∙ value b h p e))

pub agree : (a b : Pairs) → IsBinding a → IsBinding b → IsSome (join a b) ↔ Agree a b
agree a b g h = (at (single (a ++ b)) refl, λ f. ap (λ t. is_some (cond t (Some (canon pair_cmp (a ++ b))) None)) (agree_single a b g h f))
  where
    at : (t : Bool) → single (a ++ b) ≡ t → IsSome (cond t (Some (canon pair_cmp (a ++ b))) None) → Agree a b
    at true s e = λ slot v w d c. one a b s slot v w (is_pair a g slot v d) (is_pair b h slot w c)
    at false s e = absurd (true≢false (sym e))

pub values : (a b d : Pairs) → IsBinding a → IsBinding b → join a b ≡ Some d → (slot : ℕ) (v : Term) → (value_at d slot ≡ Some v) ↔ ((value_at a slot ≡ Some v) ⊎ (value_at b slot ≡ Some v))
values a b d g h e slot v = at (single (a ++ b)) refl e
  where
    q : Pair
    q = (slot, v)

    at : (t : Bool) → single (a ++ b) ≡ t → cond t (Some (canon pair_cmp (a ++ b))) None ≡ Some d → (value_at d slot ≡ Some v) ↔ ((value_at a slot ≡ Some v) ⊎ (value_at b slot ≡ Some v))
    at false s e = absurd (none_some e)
    at true s e =
        let is : canon pair_cmp (a ++ b) ≡ d = cc in
        let whole : IsBinding d = subst IsBinding is (IsBinding-canon (a ++ b) s) in
        let members : has pair_cmp q d ≡ (has pair_cmp q a || has pair_cmp q b) = ap (has pair_cmp q) (sym is) ∙ has-canon exact_pairs q (a ++ b) ∙ has-append exact_pairs q a b in (
          (λ f. elim (or_cases (has pair_cmp q a) (has pair_cmp q b) (sym members ∙ is_pair d whole slot v f)) [ inl c ↦ inl (has_its_value a g slot v c) | inr c ↦ inr (has_its_value b h slot v c) ]),
          (λ f. has_its_value d whole slot v (members ∙ elim f [ inl c ↦ or_left (has pair_cmp q a) (has pair_cmp q b) (is_pair a g slot v c) | inr c ↦ or_right (has pair_cmp q a) (has pair_cmp q b) (is_pair b h slot v c) ])),
        )

-- one pair is a binding
pub is_binding_one : (slot : ℕ) (t : Term) → IsBinding ((slot, t) ∷ [])
is_binding_one slot t = record { rising = (tt, tt); one_value = ap (λ u. (u && true) && true) (alike_if (slot, t) (slot, t) (λ e. refl)) }

-- one more pair
pub extends : (b : Pairs) (slot : ℕ) (t : Term) → IsBinding b → IsSome (join b ((slot, t) ∷ [])) ↔ ((v : Term) → value_at b slot ≡ Some v → v ≡ t)
extends b slot t h = (λ e v d. both.0 e slot v t d own, λ f. both.1 (λ at v w d e. there f at v w d e))
  where
    both : IsSome (join b ((slot, t) ∷ [])) ↔ Agree b ((slot, t) ∷ [])
    both = agree b ((slot, t) ∷ []) h (is_binding_one slot t)

    own : value_at ((slot, t) ∷ []) slot ≡ Some t
    own = ap (λ u. cond u (Some t) None) (eq-eqb slot slot refl)

    there : ((v : Term) → value_at b slot ≡ Some v → v ≡ t) → (at : ℕ) (v w : Term) → value_at b at ≡ Some v → value_at ((slot, t) ∷ []) at ≡ Some w → v ≡ w
    there f at v w d e = elim (cases_eq slot at) [
      | inl is ↦ (let tw : Some t ≡ Some w = sym (ap (λ u. cond u (Some t) None) (eq-eqb slot at is)) ∙ e in let last : t ≡ w = cc in f v (ap (value_at b) is ∙ d) ∙ last)
      | inr n ↦ absurd (none_some (sym (ap (λ u. cond u (Some t) None) (ne_eqb slot at n)) ∙ e))
    ]
