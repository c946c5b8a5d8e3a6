-- Two lists walked side by side.
use Rattle.std.proofs.Common.{ℕ, ◌+◌, ◌<◌, ◌≤◌, ◌≡◌, refl, ap, sym, ◌∙◌, arith, Bool, true, false, ◌&&◌, List, [], ◌∷◌, length, drop, get_or}
use Rattle.std.proofs.Math.Bool.{and-false}
use Rattle.std.proofs.lemmas.List.{drop_more, drop_all}
use Rattle.term_eval.specs.Alike.{each_with}

module _ {X Y : Type 0} (r : X → Y → Bool) where
  pub other_number : (xs : List X) (ys : List Y) → (length xs ≡ length ys → ⊥) → false ≡ each_with r xs ys
  other_number [] [] n = absurd (n refl)
  other_number [] (y ∷ ys) n = refl
  other_number (x ∷ xs) [] n = refl
  other_number (x ∷ xs) (y ∷ ys) n = sym (ap (λ b. r x y && b) (sym (other_number xs ys (λ e. n (omega (arith, e))))) ∙ and-false (r x y))

  pub at_place : (xs : List X) (ys : List Y) (i : ℕ) (x : X) (y : Y) → i < length xs → i < length ys → x ≡ get_or xs i x → y ≡ get_or ys i y → each_with r (drop i xs) (drop i ys) ≡ (r x y && each_with r (drop (i + 1) xs) (drop (i + 1) ys))
  at_place xs ys i x y lx ly ix iy = λ t. each_with r ((drop_more xs i x lx ∙ ap (λ z. z ∷ drop (i + 1) xs) (sym ix)) t) ((drop_more ys i y ly ∙ ap (λ z. z ∷ drop (i + 1) ys) (sym iy)) t)

  pub at_end : (xs : List X) (ys : List Y) (i : ℕ) → length xs ≤ i → length ys ≤ i → true ≡ each_with r (drop i xs) (drop i ys)
  at_end xs ys i lx ly = sym (λ t. each_with r (drop_all i xs lx t) (drop_all i ys ly t))
