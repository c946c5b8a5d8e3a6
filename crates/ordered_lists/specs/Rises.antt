-- Whether a list is in order with each element once, as a test.
use Rattle.std.specs.Prelude.{◌≡◌, refl, Bool, true, ◌&&◌, List, [], ◌∷◌}
use Rattle.std.specs.Ordering.{is_lt}
use Rattle.std.specs.List.{AllByRecursion}
use Rattle.std.specs.List.Sorted.{IsStrictlySortedBy}
use Rattle.std.specs.declared.cmp.Ordering.{Ordering}
use Rattle.std.specs.declared.cmp.Ordering.TheVariants.{Less, Equal, Greater}
use Rattle.std.proofs.Common.{ap, sym, ◌∙◌}
use Rattle.std.proofs.lemmas.Bool.{true≢false, and_parts}
use Rattle.ordered_lists.specs.Canon.{AllAbove, Rising}

module _ {K : Type 0} (R : K → K → Ordering) where
  abbrev pub all_above : K → List K → Bool
  all_above x [] = true
  all_above x (y ∷ ys) = is_lt (R x y) && all_above x ys

  abbrev pub rises : List K → Bool
  rises [] = true
  rises (x ∷ xs) = all_above x xs && rises xs

below_less : (c : Ordering) → is_lt c ≡ true → c ≡ Less
below_less Less e = refl
below_less Equal e = absurd (true≢false (sym e))
below_less Greater e = absurd (true≢false (sym e))

module _ {K : Type 0} (R : K → K → Ordering) where
  above_of : (x : K) (xs : List K) → all_above R x xs ≡ true → AllAbove R x xs
  above_of x [] e = tt
  above_of x (y ∷ ys) e = let b = and_parts (is_lt (R x y)) (all_above R x ys) e in (below_less (R x y) b.0, above_of x ys b.1)

  pub rising_of : (xs : List K) → rises R xs ≡ true → Rising R xs
  rising_of [] e = tt
  rising_of (x ∷ xs) e = let b = and_parts (all_above R x xs) (rises R xs) e in (above_of x xs b.0, rising_of xs b.1)

  of_above : (x : K) (xs : List K) → AllAbove R x xs → all_above R x xs ≡ true
  of_above x [] a = refl
  of_above x (y ∷ ys) a = ap (λ c. is_lt c && all_above R x ys) a.0 ∙ of_above x ys a.1

  pub of_rising : (xs : List K) → Rising R xs → rises R xs ≡ true
  of_rising [] a = refl
  of_rising (x ∷ xs) a = ap (λ b. b && rises R xs) (of_above x xs a.0) ∙ of_rising xs a.1

  above_all : (x : K) (xs : List K) → AllByRecursion (λ y. R x y ≡ Less) xs → AllAbove R x xs
  above_all x [] a = tt
  above_all x (y ∷ ys) a = (a.0, above_all x ys a.1)

  -- the keys of a map or a set rise
  pub rising_sorted : (xs : List K) → IsStrictlySortedBy R xs → Rising R xs
  unfolding IsStrictlySortedBy
  rising_sorted [] a = tt
  rising_sorted (x ∷ xs) a = (above_all x xs a.0, rising_sorted xs a.1)
