-- Lists that are put together of mapped lists, from a place on.
use Rattle.std.specs.Prelude.{◌≡◌, refl, ℕ, zero, suc, ◌+◌, ◌-◌, ◌<◌, ◌≤◌, List, [], ◌∷◌, ◌++◌, length, drop, map, slice_index_or}
use Rattle.std.proofs.Common.{ap, sym, ◌∙◌, add-one, arith}
use Rattle.std.proofs.lemmas.Grind.{common_steps}
use Rattle.std.proofs.lemmas.List.{drop-append-le, length-map}

pub map-index : {A X : Type 0} (f : A → X) (xs : List A) (i : ℕ) (d : A) → slice_index_or (map f xs) i (f d) ≡ f (slice_index_or xs i d)
map-index f [] i d = refl
map-index f (x ∷ xs) zero d = refl
map-index f (x ∷ xs) (suc i) d = map-index f xs i d

drop-map : {A X : Type 0} (f : A → X) (xs : List A) (i : ℕ) (d : A) → i < length xs
    → drop i (map f xs) ≡ f (slice_index_or xs i d) ∷ drop (i + 1) (map f xs)
drop-map f [] i d h = absurd (omega arith)
drop-map f (x ∷ xs) zero d h = refl
drop-map f (x ∷ xs) (suc i) d h =
    let lt : i < length xs = omega arith in
    let e : drop i (map f xs) ≡ f (slice_index_or xs i d) ∷ drop (i + 1) (map f xs) = drop-map f xs i d lt in
    simp add-one (simp add-one at e)

drop-left : {A : Type 0} (xs ys : List A) (i : ℕ) (x : A) → i < length xs → drop i xs ≡ x ∷ drop (i + 1) xs
    → drop i (xs ++ ys) ≡ x ∷ drop (i + 1) (xs ++ ys)
drop-left xs ys i x h e =
    let lt : i ≤ length xs = omega arith in
    let lt2 : i + 1 ≤ length xs = omega arith in
    drop-append-le i xs ys lt ∙ ap (λ zs. zs ++ ys) e ∙ ap (λ zs. x ∷ zs) (sym (drop-append-le (i + 1) xs ys lt2))

drop_past : {A : Type 0} (xs ys : List A) (i : ℕ) → length xs ≤ i → drop i (xs ++ ys) ≡ drop (i - length xs) ys
drop_past [] ys i h = grind (arith, common_steps)
drop_past (x ∷ xs) ys zero h = absurd (omega arith)
drop_past (x ∷ xs) ys (suc i) h =
    let le : length xs ≤ i = omega arith in
    let e : suc i - length (x ∷ xs) ≡ i - length xs = omega arith in
    drop_past xs ys i le ∙ ap (λ k. drop k ys) (sym e)

module _ {A X : Type 0} (f : A → X) (xs : List A) where
  -- a place in the first list
  pub in_front : (ys : List X) (i : ℕ) (d : A) → i < length xs
      → drop i (map f xs ++ ys) ≡ f (slice_index_or xs i d) ∷ drop (i + 1) (map f xs ++ ys)
  in_front ys i d h =
      let lt : i < length (map f xs) = simp length-map h in
      drop-left (map f xs) ys i (f (slice_index_or xs i d)) lt (drop-map f xs i d h)

  -- a place behind it
  pub behind : (ys : List X) (i : ℕ) (x : X) → length xs ≤ i → drop (i - length xs) ys ≡ x ∷ drop (i - length xs + 1) ys
      → drop i (map f xs ++ ys) ≡ x ∷ drop (i + 1) (map f xs ++ ys)
  behind ys i x le e =
      let n : length (map f xs) ≡ length xs = length-map xs f in
      let a : length (map f xs) ≤ i = omega (arith, n, le) in
      let b : length (map f xs) ≤ i + 1 = omega (arith, n, le) in
      let k : i + 1 - length (map f xs) ≡ i - length xs + 1 = omega (arith, n, le) in
      drop_past (map f xs) ys i a ∙ ap (λ m. drop (i - m) ys) n ∙ e
      ∙ ap (λ zs. x ∷ zs) (sym (drop_past (map f xs) ys (i + 1) b ∙ ap (λ m. drop m ys) k))

  -- the last list
  pub at_last : (i : ℕ) (d : A) → i < length xs → drop i (map f xs) ≡ f (slice_index_or xs i d) ∷ drop (i + 1) (map f xs)
  at_last i d h = drop-map f xs i d h

  pub past_front : (ys : List X) (i : ℕ) → length xs ≤ i → drop (i - length xs) ys ≡ [] → drop i (map f xs ++ ys) ≡ []
  past_front ys i le e =
      let n : length (map f xs) ≡ length xs = length-map xs f in
      let a : length (map f xs) ≤ i = omega (arith, n, le) in
      drop_past (map f xs) ys i a ∙ ap (λ m. drop (i - m) ys) n ∙ e

  pub past_last : (i : ℕ) → length xs ≤ i → drop i (map f xs) ≡ []
  past_last i le = let n : length (map f xs) ≡ length xs = length-map xs f in none (map f xs) i (omega (arith, n, le))
    where
      none : (zs : List X) (i : ℕ) → length zs ≤ i → drop i zs ≡ []
      none [] zero h = refl
      none [] (suc i) h = refl
      none (z ∷ zs) zero h = absurd (omega arith)
      none (z ∷ zs) (suc i) h = none zs i (omega arith)
