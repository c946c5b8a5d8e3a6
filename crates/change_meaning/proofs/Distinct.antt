-- Lists without repetition: a sum over one is that over its canonical list.
use Rattle.std.specs.Prelude.{ℕ, ◌≡◌, ◌+◌, refl, false, ◌||◌, List, [], ◌∷◌}
use Rattle.std.specs.Ordering.{is_eq}
use Rattle.std.specs.declared.cmp.Ordering.{Ordering}
use Rattle.std.specs.declared.cmp.Ordering.TheVariants.{Less, Equal, Greater}
use Rattle.std.proofs.Common.{ap, ◌∙◌, arith}
use Rattle.std.proofs.lemmas.Bool.{true≢false}
use Rattle.ordered_lists.specs.Lists.{total}
use Rattle.ordered_lists.specs.Canon.{canon, place, placed, has, AllAbove, Rising, Exact, has-canon}

module _ {K : Type 0} (S : K → K → Ordering) where
  abbrev pub Distinct : List K → Type 0
  Distinct [] = Unit {0}
  Distinct (x ∷ xs) = (has S x xs ≡ false) × Distinct xs

module _ {K : Type 0} {S : K → K → Ordering} (o : Exact S) where
  total_place : (f : K → ℕ) (r : K) (xs : List K) → has S r xs ≡ false → total f (place S r xs) ≡ f r + total f xs
  total_place f r [] h = refl
  total_place f r (y ∷ ys) h = at (S r y) h (total_place f r ys)
    where
      at : (c : Ordering) → (is_eq c || has S r ys) ≡ false → (has S r ys ≡ false → total f (place S r ys) ≡ f r + total f ys)
          → total f (placed S c r y ys (place S r ys)) ≡ f r + (f y + total f ys)
      at Less e g = refl
      at Equal e g = absurd (true≢false e)
      at Greater e g = let k = g e in omega (arith, k)

  pub total_distinct : (f : K → ℕ) (xs : List K) → Distinct S xs → total f (canon S xs) ≡ total f xs
  total_distinct f [] g = refl
  total_distinct f (x ∷ xs) g =
      total_place f x (canon S xs) (has-canon o x xs ∙ g.0) ∙ ap (λ n. f x + n) (total_distinct f xs g.1)

  pub above_lacks : (x : K) (xs : List K) → AllAbove S x xs → has S x xs ≡ false
  above_lacks x [] a = refl
  above_lacks x (y ∷ ys) a = ap (λ c. is_eq c || has S x ys) a.0 ∙ above_lacks x ys a.1

  pub rising_distinct : (xs : List K) → Rising S xs → Distinct S xs
  rising_distinct [] g = tt
  rising_distinct (x ∷ xs) g = (above_lacks x xs g.0, rising_distinct xs g.1)
