-- The slots of the steps of a plan: in which sets a slot is, and that the slots of a step are made of those of its operands.
use Rattle.std.specs.Prelude.{ℕ, zero, suc, ◌≡◌, ◌+◌, ◌<◌, ◌==◌, refl, Bool, true, false, cond, ◌&&◌, ◌||◌, nat_lt, Some, List, [], ◌∷◌, ◌++◌, length}
use Rattle.std.specs.List.{filter}
use Rattle.std.proofs.Common.{ap, sym, ◌∙◌, arith, subst, length-append}
use Rattle.std.proofs.Math.Bool.{and-false}
use Rattle.std.proofs.lemmas.Bool.{and_parts, eqb-true}
use Rattle.std.proofs.lemmas.Bool.Decides.{nat_tests}
use Rattle.std.proofs.lemmas.Option.{none-some, same_Some}
use Rattle.ordered_lists.specs.Lists.{Each, Each-append}
use Rattle.event_model.specs.declared.terms.TheConstants.{MOST_SLOTS}
use Rattle.rule_ast.specs.PlainPlans.{PlainStep, Named, Leaf, Join, Either, Where, Exact, Within, Minus, Head, first_slots}
use Rattle.rule_ast.specs.Vars.{atom_vars, is_in, is_in-none, is_in-cons, is_in-append}
use Rattle.step_meaning.specs.Operands.{IsLower, AreLower}
use Rattle.step_meaning.specs.PlanOf.{slots_that, in_either, in_both, step_slots, slots_in, slots_table}
use Rattle.step_meaning.specs.StepRows.{step_at}
use Rattle.change_meaning.specs.Keys.{slots_at}

-- ---- sets of slots

pub is_in-filter : (s : ℕ) (t : ℕ → Bool) (xs : List ℕ) → is_in s (filter t xs) ≡ (t s && is_in s xs)
is_in-filter s t [] = is_in-none s ∙ sym (ap (λ b. t s && b) (is_in-none s) ∙ and-false (t s))
is_in-filter s t (x ∷ xs) = at (x == s) refl (t x) refl (is_in-filter s t xs) ∙ sym (ap (λ b. t s && b) (is_in-cons s x xs))
  where
    at : (e : Bool) → (x == s) ≡ e → (b : Bool) → t x ≡ b → is_in s (filter t xs) ≡ (t s && is_in s xs)
        → is_in s (cond b (x ∷ filter t xs) (filter t xs)) ≡ (t s && ((x == s) || is_in s xs))
    at true e true h g =
        let is : t s ≡ true = ap t (sym (eqb-true x s e)) ∙ h in
        is_in-cons s x (filter t xs) ∙ (λ i. e i || is_in s (filter t xs)) ∙ sym (λ i. is i && (e i || is_in s xs))
    at true e false h g =
        let is : t s ≡ false = ap t (sym (eqb-true x s e)) ∙ h in
        g ∙ (λ i. is i && is_in s xs) ∙ sym (λ i. is i && ((x == s) || is_in s xs))
    at false e true h g = is_in-cons s x (filter t xs) ∙ (λ i. e i || g i) ∙ sym (λ i. t s && (e i || is_in s xs))
    at false e false h g = g ∙ sym (λ i. t s && (e i || is_in s xs))

in_first : (n s : ℕ) → is_in s (first_slots n) ≡ nat_lt s n
in_first zero s = is_in-none s ∙ (let e : false ≡ nat_lt s 0 = grind (arith, nat_tests) in e)
in_first (suc n) s =
    is_in-append s (first_slots n) (n ∷ [])
    ∙ (λ i. in_first n s i || (is_in-cons s n [] ∙ ap (λ b. (n == s) || b) (is_in-none s)) i)
    ∙ (let e : (nat_lt s n || ((n == s) || false)) ≡ nat_lt s (suc n) = grind (arith, nat_tests) in e)

pub in_that : (t : ℕ → Bool) (s : ℕ) → is_in s (slots_that t) ≡ (t s && nat_lt s MOST_SLOTS)
unfolding slots_that
in_that t s = is_in-filter s t (first_slots MOST_SLOTS) ∙ ap (λ b. t s && b) (in_first MOST_SLOTS s)

-- each is below the limit
abbrev pub AreSmall : List ℕ → Type 0
AreSmall xs = (s : ℕ) → is_in s xs ≡ true → nat_lt s MOST_SLOTS ≡ true

pub small_that : (t : ℕ → Bool) → AreSmall (slots_that t)
small_that t s e = (and_parts (t s) (nat_lt s MOST_SLOTS) (sym (in_that t s) ∙ e)).1

small_none : AreSmall []
small_none s e = absurd (clash (sym (is_in-none s) ∙ e))
  where
    clash : false ≡ true → ⊥
    clash p = cc

and_more : (a b : Bool) → (a ≡ true → b ≡ true) → (a && b) ≡ a
and_more true b h = h refl
and_more false b h = refl

pub in_that_small : (t : ℕ → Bool) → ((s : ℕ) → t s ≡ true → nat_lt s MOST_SLOTS ≡ true) → (s : ℕ) → is_in s (slots_that t) ≡ t s
in_that_small t h s = in_that t s ∙ and_more (t s) (nat_lt s MOST_SLOTS) (h s)

or_small : (xs ys : List ℕ) → AreSmall xs → AreSmall ys → (s : ℕ) → (is_in s xs || is_in s ys) ≡ true → nat_lt s MOST_SLOTS ≡ true
or_small xs ys h g s = at (is_in s xs) refl (is_in s ys) refl
  where
    at : (a : Bool) → is_in s xs ≡ a → (b : Bool) → is_in s ys ≡ b → (a || b) ≡ true → nat_lt s MOST_SLOTS ≡ true
    at true e b d k = h s e
    at false e true d k = g s d
    at false e false d k = absurd (clash k)
      where
        clash : false ≡ true → ⊥
        clash p = cc

pub in_either_is : (xs ys : List ℕ) → AreSmall xs → AreSmall ys → (s : ℕ) → is_in s (in_either xs ys) ≡ (is_in s xs || is_in s ys)
in_either_is xs ys h g = in_that_small (λ s. is_in s xs || is_in s ys) (or_small xs ys h g)

-- what is in both is in each
pub in_both_parts : (xs ys : List ℕ) (s : ℕ) → is_in s (in_both xs ys) ≡ true → (is_in s xs ≡ true) × (is_in s ys ≡ true)
in_both_parts xs ys s e =
    and_parts (is_in s xs) (is_in s ys) (and_parts (is_in s xs && is_in s ys) (nat_lt s MOST_SLOTS) (sym (in_that _ s) ∙ e)).0

-- ---- the table of slots

pub slots_front : (t : List (List ℕ)) (x : List ℕ) (i : ℕ) → i < length t → slots_in (t ++ x ∷ []) i ≡ slots_in t i
slots_front [] x i h = absurd (omega (arith, h))
slots_front (y ∷ t) x zero h = refl
slots_front (y ∷ t) x (suc i) h = let lt : i < length t = omega (arith, h) in slots_front t x i lt

pub slots_end : (t : List (List ℕ)) (x : List ℕ) → slots_in (t ++ x ∷ []) (length t) ≡ x
slots_end [] x = refl
slots_end (y ∷ t) x = slots_end t x

slots_same : (at to : ℕ → List ℕ) (i : ℕ) → ((j : ℕ) → j < i → at j ≡ to j) → (s : PlainStep) → IsLower i s → step_slots at s ≡ step_slots to s
slots_same at to i same (Named n heads) a = refl
slots_same at to i same (Leaf of p) a = refl
slots_same at to i same (Join op l r) a = λ k. in_either (same l a.0 k) (same r a.1 k)
slots_same at to i same (Either l r) a = λ k. in_either (same l a.0 k) (same r a.1 k)
slots_same at to i same (Where of c) a = same of a
slots_same at to i same (Exact of q) a = same of a
slots_same at to i same (Within of q) a = same of a
slots_same at to i same (Minus j b n f) a = same j a.0
slots_same at to i same (Head of head) a = refl

slots_keep : (ss : List PlainStep) (t : List (List ℕ)) (i : ℕ) → i < length t → slots_in (slots_table ss t) i ≡ slots_in t i
slots_keep [] t i h = refl
slots_keep (s ∷ ss) t i h = let x = step_slots (slots_in t) s in
    slots_keep ss (t ++ x ∷ []) i (omega (arith, h, length-append t (x ∷ []))) ∙ slots_front t x i h

own : (ss : List PlainStep) (t : List (List ℕ)) (i : ℕ) (s : PlainStep) → step_at ss i ≡ Some s → IsLower (length t + i) s
    → slots_in (slots_table ss t) (length t + i) ≡ step_slots (slots_in (slots_table ss t)) s
own [] t i s e low = absurd (none-some s e)
own (x ∷ ss) t zero s e low =
    let is : x ≡ s = same_Some x s e in
    let new = step_slots (slots_in t) x in
    let here : length t + 0 ≡ length t = omega arith in
    let whole = slots_table ss (t ++ new ∷ []) in
    ap (slots_in whole) here
    ∙ slots_keep ss (t ++ new ∷ []) (length t) (omega (arith, length-append t (new ∷ [])))
    ∙ slots_end t new
    ∙ ap (step_slots (slots_in t)) is
    ∙ slots_same (slots_in t) (slots_in whole) (length t + 0)
    (λ j h. sym (slots_keep ss (t ++ new ∷ []) j (omega (arith, h, length-append t (new ∷ [])))
    ∙ slots_front t new j (omega (arith, h)))) s low
own (x ∷ ss) t (suc i) s e low =
    let new = step_slots (slots_in t) x in
    let there : length (t ++ new ∷ []) + i ≡ length t + suc i = omega (arith, length-append t (new ∷ [])) in
    ap (slots_in (slots_table ss (t ++ new ∷ []))) (sym there) ∙ own ss (t ++ new ∷ []) i s e (subst (λ k. IsLower k s) (sym there) low)

-- the slots of a step are made of those of its operands
pub slots_own : (steps : List PlainStep) → AreLower steps → (i : ℕ) (s : PlainStep) → step_at steps i ≡ Some s
    → slots_at steps i ≡ step_slots (slots_at steps) s
slots_own steps low i s e =
    let none : 0 + i ≡ i = omega arith in
    ap (slots_in (slots_table steps [])) (sym none) ∙ own steps [] i s e (subst (λ k. IsLower k s) (sym none) (low i s e))

-- ---- all slots are small

small_in : (t : List (List ℕ)) → Each AreSmall t → (i : ℕ) → AreSmall (slots_in t i)
small_in [] a i = small_none
small_in (x ∷ t) a zero = a.0
small_in (x ∷ t) a (suc i) = small_in t a.1 i

small_step : (at : ℕ → List ℕ) → ((i : ℕ) → AreSmall (at i)) → (s : PlainStep) → AreSmall (step_slots at s)
small_step at h (Named n heads) = small_none
small_step at h (Leaf of p) = small_that (λ s. is_in s (atom_vars p))
small_step at h (Join op l r) = small_that (λ s. is_in s (at l) || is_in s (at r))
small_step at h (Either l r) = small_that (λ s. is_in s (at l) || is_in s (at r))
small_step at h (Where of c) = h of
small_step at h (Exact of q) = h of
small_step at h (Within of q) = h of
small_step at h (Minus j b i a) = h j
small_step at h (Head of head) = small_none

small_table : (ss : List PlainStep) (t : List (List ℕ)) → Each AreSmall t → Each AreSmall (slots_table ss t)
small_table [] t a = a
small_table (s ∷ ss) t a = small_table ss _ (Each-append AreSmall t _ a (small_step (slots_in t) (small_in t a) s, tt))

pub small_at : (steps : List PlainStep) (i : ℕ) → AreSmall (slots_at steps i)
small_at steps i = small_in (slots_table steps []) (small_table steps [] tt) i
