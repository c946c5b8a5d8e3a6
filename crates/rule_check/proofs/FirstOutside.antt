-- The first of two lists put together, and the first variable of arguments that may not stand there.
use Rattle.std.proofs.Common.{◌≡◌, ℕ, ◌+◌, ◌<◌, Bool, true, false, not, cond, Option, Some, None, is_some, List, [], ◌∷◌, ◌++◌, length, get_or, take, drop, refl, ap, sym, ◌∙◌, append-nil}
use Rattle.std.specs.List.{flat_map}
use Rattle.std.specs.Option.{option_or}
use Rattle.std.proofs.lemmas.Bool.{true≢false}
use Rattle.std.proofs.lemmas.List.{take_more, take-append-drop}
use Rattle.std.proofs.lemmas.List.Concat.{flat_map-append}
use Rattle.std.proofs.lemmas.List.Elements.{filter-append}
use Rattle.event_model.specs.declared.terms.Pat.{Pat}
use Rattle.event_model.specs.SlotSets.{slot_in}
use Rattle.rule_ast.specs.Vars.{slots_of, slot_lists}
use Rattle.rule_check.specs.Offenders.{first, outside}
use Rattle.rule_check.specs.Allowed.{allowed}

pub first-append : {A : Type 0} (xs ys : List A) → first (xs ++ ys) ≡ option_or (first xs) (first ys)
first-append [] ys = refl
first-append (x ∷ xs) ys = refl

pub outside-append : (may : ℕ → Bool) (xs ys : List ℕ) → outside may (xs ++ ys) ≡ outside may xs ++ outside may ys
outside-append may xs ys = filter-append (λ s. not (may s)) xs ys

pub here : (slots slot : ℕ) → not (slot_in slots slot) ≡ true → first (outside (allowed (Some slots)) (slot ∷ [])) ≡ Some slot
here slots slot e = ap (λ b. first (cond b (slot ∷ []) [])) e

pub ruleset steps = (slot_lists, first-append, outside-append, here)

module _ (may : ℕ → Bool) (xs : List Pat) where
  -- the first variable of these arguments that may not stand there
  pub first_in : List Pat → Option ℕ
  first_in ps = first (outside may (flat_map slots_of ps))

  first_in-append : (ps qs : List Pat) → first_in (ps ++ qs) ≡ option_or (first_in ps) (first_in qs)
  unfolding first_in
  first_in-append ps qs =
      ap (λ l. first (outside may l)) (flat_map-append slots_of ps qs)
      ∙ ap first (outside-append may (flat_map slots_of ps) (flat_map slots_of qs))
      ∙ first-append (outside may (flat_map slots_of ps)) (outside may (flat_map slots_of qs))

  first_in-one : (p : Pat) → first_in (p ∷ []) ≡ first (outside may (slots_of p))
  unfolding first_in
  first_in-one p = ap (λ l. first (outside may l)) (append-nil (slots_of p))

  one_more : (i : ℕ) (x : Pat) → i < length xs → x ≡ get_or xs i x → first_in (take i xs) ≡ None → first_in (take (i + 1) xs) ≡ first (outside may (slots_of x))
  one_more i x h is none =
      ap first_in (take_more xs i x h) ∙ ap (λ y. first_in (take i xs ++ y ∷ [])) (sym is)
      ∙ first_in-append (take i xs) (x ∷ []) ∙ ap (λ o. option_or o (first_in (x ∷ []))) none ∙ first_in-one x

  stays : (o p : Option ℕ) → is_some o ≡ true → option_or o p ≡ o
  stays (Some s) p e = refl
  stays None p e = absurd (true≢false (sym e))

  pub found_in : (i : ℕ) (x : Pat) (o : Option ℕ) → i < length xs → x ≡ get_or xs i x → first (outside may (flat_map slots_of (take i xs))) ≡ None
      → o ≡ first (outside may (slots_of x)) → is_some o ≡ true → o ≡ first (outside may (flat_map slots_of xs))
  unfolding first_in
  found_in i x o h is none e some =
      sym (stays o (first_in (drop (i + 1) xs)) some)
      ∙ ap (λ p. option_or p (first_in (drop (i + 1) xs))) (e ∙ sym (one_more i x h is none))
      ∙ sym (first_in-append (take (i + 1) xs) (drop (i + 1) xs))
      ∙ ap first_in (take-append-drop (i + 1) xs)

  pub none_more : (i : ℕ) (x : Pat) (o : Option ℕ) → i < length xs → x ≡ get_or xs i x → first (outside may (flat_map slots_of (take i xs))) ≡ None
      → o ≡ first (outside may (slots_of x)) → is_some o ≡ false → first (outside may (flat_map slots_of (take (i + 1) xs))) ≡ None
  unfolding first_in
  none_more i x None h is none e some = one_more i x h is none ∙ sym e
  none_more i x (Some s) h is none e some = absurd (true≢false some)
