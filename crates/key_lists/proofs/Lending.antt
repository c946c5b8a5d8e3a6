-- What stands from a position of a run on.
use Rattle.std.proofs.Common.{ℕ, zero, suc, ◌≡◌, ◌<◌, ◌≤◌, ◌+◌, refl, List, [], ◌∷◌, ◌++◌, Some, None, length, get_or, map, take, drop, ap, sym, ◌∙◌, arith, drop-cons, add-one}
use Rattle.std.proofs.lemmas.List.{take-append-drop, append_assoc, append-nil}
use Rattle.std.proofs.lemmas.Option.{slice_get-map, slice_get_read}
use Rattle.std.specs.List.{slice_get}
use Rattle.std.specs.Option.{option_map}
use Rattle.std.specs.declared.vec.Vec.{Vec}
use Rattle.key_lists.specs.Pieces.{joined, all_in, from}

none_some : {X : Type 0} (x : X) → None ≡ Some x → ⊥
none_some x e = cc

some_same : {X : Type 0} (x y : X) → Some x ≡ Some y → x ≡ y
some_same x y e = cc

drop_past : {X : Type 0} (xs : List X) (n : ℕ) → length xs ≤ n → drop n xs ≡ []
drop_past [] zero h = refl
drop_past [] (suc n) h = refl
drop_past (x ∷ xs) zero h = absurd (omega (arith, h))
drop_past (x ∷ xs) (suc n) h = drop_past xs n (omega (arith, h))

module _ {T A : Type 0} where
  -- it is the end of the list
  pub from_ends : (xs : List T) (vs : List (Vec T A)) (p at : ℕ) → (ys : List T) × (all_in xs vs ≡ ys ++ from xs vs p at)
  from_ends xs vs zero at = (take at xs, ap (λ l. l ++ joined vs) (sym (take-append-drop at xs)) ∙ append_assoc (take at xs) (drop at xs) (joined vs))
  from_ends xs [] (suc p) at = (xs ++ [], sym (append-nil (xs ++ [])))
  from_ends xs (v ∷ vs) (suc p) at =
      let rest = from_ends v.items vs p at in
      (xs ++ rest.0, ap (λ l. xs ++ l) rest.1 ∙ sym (append_assoc xs rest.0 (from v.items vs p at)))

  -- the rest of a piece, and then the pieces behind it
  from_step : (xs ys : List T) (vs : List (Vec T A)) (p at : ℕ) → slice_get (xs ∷ map (λ v. v.items) vs) p ≡ Some ys
      → from xs vs p at ≡ drop at ys ++ from xs vs (suc p) 0
  from_step xs ys [] zero at e = ap (λ l. drop at l ++ []) (some_same xs ys e)
  from_step xs ys (v ∷ vs) zero at e = ap (λ l. drop at l ++ (v.items ++ joined vs)) (some_same xs ys e)
  from_step xs ys [] (suc p) at e = absurd (none_some ys e)
  from_step xs ys (v ∷ vs) (suc p) at e = from_step v.items ys vs p at e

  pub from_none : (xs : List T) (vs : List (Vec T A)) (p at : ℕ) → length vs < p → from xs vs p at ≡ []
  from_none xs vs zero at h = absurd (omega (arith, h))
  from_none xs [] (suc p) at h = refl
  from_none xs (v ∷ vs) (suc p) at h = from_none v.items vs p at (omega (arith, h))

  pub there : (xs : List T) (vs : List (Vec T A)) (p : ℕ) → p ≤ length vs → slice_get (xs ∷ map (λ v. v.items) vs) p ≡ None → ⊥
  there xs vs zero h e = none_some xs (sym e)
  there xs [] (suc p) h e = omega (arith, h)
  there xs (v ∷ vs) (suc p) h e = there v.items vs p (omega (arith, h)) e

  -- the element at a position
  pub from_next : (xs ys : List T) (vs : List (Vec T A)) (p at : ℕ) (x : T) → slice_get (xs ∷ map (λ v. v.items) vs) p ≡ Some ys → at < length ys
      → x ≡ get_or ys at x → from xs vs p at ≡ x ∷ from xs vs p (at + 1)
  from_next xs ys vs p at x e h is = from_step xs ys vs p at e
      ∙ ap (λ l. l ++ from xs vs (suc p) 0) (drop-cons ys at x h ∙ ap (λ y. y ∷ drop (suc at) ys) (sym is))
      ∙ ap (λ l. x ∷ l) (sym (ap (from xs vs p) (add-one at) ∙ from_step xs ys vs p (suc at) e))

  -- behind the end of a piece the next one begins
  pub from_past : (xs ys : List T) (vs : List (Vec T A)) (p at : ℕ) → slice_get (xs ∷ map (λ v. v.items) vs) p ≡ Some ys → length ys ≤ at
      → from xs vs p at ≡ from xs vs (p + 1) 0
  from_past xs ys vs p at e h = from_step xs ys vs p at e ∙ ap (λ l. l ++ from xs vs (suc p) 0) (drop_past ys at h)
      ∙ sym (ap (λ n. from xs vs n 0) (add-one p))

  pub piece_there : (xs : List T) (vs : List (Vec T A)) (n j : ℕ) (v : Vec T A) → n ≡ suc j → j < length vs → v ≡ get_or vs j v
      → Some v.items ≡ slice_get (xs ∷ map (λ v. v.items) vs) n
  piece_there xs vs n j v e h is = sym (ap (slice_get (xs ∷ map (λ v. v.items) vs)) e ∙ slice_get-map (λ v. v.items) vs j
      ∙ ap (option_map (λ v. v.items)) (slice_get_read vs (length vs) j v refl h is))
