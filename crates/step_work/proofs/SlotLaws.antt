-- Sets of slots as lists, from the least.
use Rattle.std.proofs.Common.{ℕ, zero, suc, ◌≡◌, ◌<◌, ◌==◌, Bool, true, false, cond, ◌||◌, ◌&&◌, List, [], ◌∷◌, refl, sym, ap, ◌∙◌, arith, filter}
use Rattle.std.specs.Str.{bytes_eq}
use Rattle.std.proofs.lemmas.Bool.{true≢false, eqb-true, eq-eqb}
use Rattle.std.proofs.lemmas.Slice.Eq.{bytes_eq-Decides}
use Rattle.ordered_lists.specs.Members.{filter_agree}
use Rattle.event_model.specs.SlotSets.{slot_in}
use Rattle.event_model.specs.declared.terms.TheConstants.{MOST_SLOTS}
use Rattle.rule_ast.specs.PlainPlans.{first_slots, slots_list}
use Rattle.rule_ast.specs.Vars.{is_in, is_in-none, is_in-cons, is_in-append}
use Rattle.step_meaning.specs.PlanOf.{slots_that, in_either, in_both}

ties : (t : ℕ) → (t == t) ≡ true
ties t = eq-eqb t t refl

or_either : (a b : Bool) → b ≡ true → (a || b) ≡ true
or_either true b e = refl
or_either false b e = e

and_true : (b : Bool) → (b && true) ≡ b
and_true true = refl
and_true false = refl

and_false : (b : Bool) → (b && false) ≡ false
and_false true = refl
and_false false = refl

is_in-filter : (p : ℕ → Bool) (t : ℕ) (xs : List ℕ) → is_in t (filter p xs) ≡ (p t && is_in t xs)
is_in-filter p t [] = is_in-none t ∙ sym (and_false (p t)) ∙ ap (λ b. p t && b) (sym (is_in-none t))
is_in-filter p t (x ∷ xs) = at (p x) refl (x == t) refl (is_in-filter p t xs) ∙ ap (λ b. p t && b) (sym (is_in-cons t x xs))
  where
    at : (b : Bool) → p x ≡ b → (c : Bool) → (x == t) ≡ c → is_in t (filter p xs) ≡ (p t && is_in t xs)
        → is_in t (cond b (x ∷ filter p xs) (filter p xs)) ≡ (p t && ((x == t) || is_in t xs))
    at true e true d more =
        is_in-cons t x (filter p xs) ∙ ap (λ c. c || is_in t (filter p xs)) d
        ∙ sym (ap (λ b. b && ((x == t) || is_in t xs)) (sym (ap p (eqb-true x t d)) ∙ e) ∙ ap (λ c. c || is_in t xs) d)
    at true e false d more =
        is_in-cons t x (filter p xs) ∙ ap (λ c. c || is_in t (filter p xs)) d ∙ more
        ∙ ap (λ c. p t && (c || is_in t xs)) (sym d)
    at false e true d more =
        let none : p t ≡ false = sym (ap p (eqb-true x t d)) ∙ e in
        more ∙ ap (λ b. b && is_in t xs) none ∙ sym (ap (λ b. b && ((x == t) || is_in t xs)) none)
    at false e false d more = more ∙ ap (λ c. p t && (c || is_in t xs)) (sym d)

-- tests that agree on a list
filter_agree_in : (p q : ℕ → Bool) (xs : List ℕ) → ((t : ℕ) → is_in t xs ≡ true → p t ≡ q t) → filter p xs ≡ filter q xs
filter_agree_in p q [] h = refl
filter_agree_in p q (x ∷ xs) h =
    let own = h x (is_in-cons x x xs ∙ ap (λ b. b || is_in x xs) (ties x)) in
    let rest = filter_agree_in p q xs (λ t e. h t (is_in-cons t x xs ∙ or_either (x == t) (is_in t xs) e)) in
    λ i. cond (own i) (x ∷ rest i) (rest i)

first_below : (n t : ℕ) → is_in t (first_slots n) ≡ true → t < n
first_below zero t e = absurd (true≢false (sym e ∙ is_in-none t))
first_below (suc n) t e = at (is_in t (first_slots n)) refl (first_below n t) (n == t) refl
  where
    at : (b : Bool) → is_in t (first_slots n) ≡ b → (is_in t (first_slots n) ≡ true → t < n) → (c : Bool) → (n == t) ≡ c → t < suc n
    at true d more c f = let lt = more d in omega (arith, lt)
    at false d more true f = let same = eqb-true n t f in omega (arith, same)
    at false d more false f =
        absurd (true≢false (sym e ∙ is_in-append t (first_slots n) (n ∷ [])
        ∙ (λ i. d i || (is_in-cons t n [] ∙ (λ j. f j || is_in-none t j)) i)))

below_first : (n t : ℕ) → t < n → is_in t (first_slots n) ≡ true
below_first zero t h = absurd (omega (arith, h))
below_first (suc n) t h =
    is_in-append t (first_slots n) (n ∷ [])
    ∙ at (n == t) refl (below_first n t)
  where
    at : (c : Bool) → (n == t) ≡ c → (t < n → is_in t (first_slots n) ≡ true) → (is_in t (first_slots n) || is_in t (n ∷ [])) ≡ true
    at true e more = or_either (is_in t (first_slots n)) (is_in t (n ∷ [])) (is_in-cons t n [] ∙ ap (λ c. c || is_in t []) e)
    at false e more = ap (λ b. b || is_in t (n ∷ [])) (more (less (λ same. true≢false (sym (eq-eqb n t same) ∙ e))))
      where
        less : (n ≡ t → ⊥) → t < n
        less differ = omega (arith, h, differ)

-- a slot is among those of a set
listed : (slots t : ℕ) → is_in t (first_slots MOST_SLOTS) ≡ true → is_in t (slots_list slots) ≡ slot_in slots t
unfolding slots_list
listed slots t e = is_in-filter (slot_in slots) t (first_slots MOST_SLOTS) ∙ ap (λ b. slot_in slots t && b) e ∙ and_true (slot_in slots t)

pub tested_slots : (slots : ℕ) (test : ℕ → Bool) → ((t : ℕ) → slot_in slots t ≡ test t) → slots_list slots ≡ slots_that test
unfolding slots_list slots_that
tested_slots slots test h = filter_agree (slot_in slots) test h (first_slots MOST_SLOTS)

pub no_slots : (slots : ℕ) → ((t : ℕ) → slot_in slots t ≡ false) → slots_list slots ≡ []
unfolding slots_that
no_slots slots h = tested_slots slots (λ t. false) h ∙ none (first_slots MOST_SLOTS)
  where
    none : (xs : List ℕ) → filter (λ t. false) xs ≡ []
    none [] = refl
    none (x ∷ xs) = none xs

pub either_slots : (slots l r : ℕ) → ((t : ℕ) → slot_in slots t ≡ (slot_in l t || slot_in r t))
    → slots_list slots ≡ in_either (slots_list l) (slots_list r)
unfolding slots_that
either_slots slots l r h =
    tested_slots slots (λ t. slot_in l t || slot_in r t) h
    ∙ filter_agree_in _ _ (first_slots MOST_SLOTS) (λ t e i. sym (listed l t e) i || sym (listed r t e) i)

pub both_slots : (slots l r : ℕ) → ((t : ℕ) → slot_in slots t ≡ (slot_in l t && slot_in r t))
    → slots_list slots ≡ in_both (slots_list l) (slots_list r)
unfolding slots_that
both_slots slots l r h =
    tested_slots slots (λ t. slot_in l t && slot_in r t) h
    ∙ filter_agree_in _ _ (first_slots MOST_SLOTS) (λ t e i. sym (listed l t e) i && sym (listed r t e) i)

-- sets are the same where they agree on all slots
pub same_slots : (l r : ℕ) → ((t : ℕ) → t < MOST_SLOTS → slot_in l t ≡ slot_in r t) → true ≡ bytes_eq (slots_list l) (slots_list r)
unfolding slots_list
same_slots l r h =
    sym ((bytes_eq-Decides (slots_list l) (slots_list r)).1
    (filter_agree_in (slot_in l) (slot_in r) (first_slots MOST_SLOTS) (λ t e. h t (first_below MOST_SLOTS t e))))

pub other_slots : (l r t : ℕ) → t < MOST_SLOTS → (slot_in l t ≡ slot_in r t → ⊥) → false ≡ bytes_eq (slots_list l) (slots_list r)
other_slots l r t h differ = at (bytes_eq (slots_list l) (slots_list r)) refl
  where
    at : (b : Bool) → bytes_eq (slots_list l) (slots_list r) ≡ b → false ≡ b
    at true e =
        let there = below_first MOST_SLOTS t h in
        let same = (bytes_eq-Decides (slots_list l) (slots_list r)).0 e in
        absurd (differ (sym (listed l t there) ∙ ap (is_in t) same ∙ listed r t there))
    at false e = refl
