-- What a binary search finds in a rising list, and what an insert at the place that it names gives.
use Rattle.std.proofs.Common.{ℕ, ◌≡◌, ◌<◌, ◌≤◌, ◌||◌, refl, true, false, zero, suc, List, [], ◌∷◌, length, get_or, Result, Ok, Err, ap, sym, ◌∙◌, subst, arith, add-one}
use Rattle.std.specs.List.{AllWithin, HoldsAt, insert}
use Rattle.std.specs.List.Sorted.{IsSortedBy, IsNonDecreasingBy, IsPartitionPoint, IsSearchInRange, IsBinarySearchResult}
use Rattle.std.specs.Ordering.{is_eq, is_lt, ordering_index, ordering_reverse}
use Rattle.std.specs.Result.{is_ok}
use Rattle.std.specs.declared.cmp.Ordering.{Ordering}
use Rattle.std.specs.declared.cmp.Ordering.TheVariants.{Less, Equal, Greater}
use Rattle.std.proofs.lemmas.Cmp.{tied_back}
use Rattle.std.proofs.lemmas.List.Folds.{list_any_at}
use Rattle.std.proofs.lemmas.List.Sorted.{searchable_from_sorted}
use Rattle.ordered_lists.specs.Canon.{place, placed, has, AllAbove, Rising, Exact}

module _ {K : Type 0} {R : K → K → Ordering} (o : Exact R) where
  below : (x : K) (xs : List K) → AllAbove R x xs → (k : ℕ) (d : K) → k < length xs → R x (get_or xs k d) ≡ Less
  below x [] a k d h = absurd (omega arith)
  below x (y ∷ ys) a zero d h = a.0
  below x (y ∷ ys) a (suc k) d h = below x ys a.1 k d (omega arith)

  climbs : (xs : List K) → Rising R xs → (k : ℕ) (d : K) → suc k < length xs → is_lt (R (get_or xs (suc k) d) (get_or xs k d)) ≡ false
  climbs [] a k d h = absurd (omega arith)
  climbs (x ∷ xs) a zero d h = ap is_lt (o.total.antisymm (get_or xs 0 d) x ∙ ap ordering_reverse (below x xs a.0 0 d (omega arith)))
  climbs (x ∷ xs) a (suc k) d h = climbs xs a.1 k d (omega arith)

  -- a rising list is sorted
  pub sorted_from_rising : (xs : List K) → Rising R xs → IsSortedBy (λ x y. is_lt (R x y)) xs
  sorted_from_rising xs a k d z h = subst (λ n. is_lt (R (get_or xs n d) (get_or xs k d)) ≡ false) (sym (add-one k)) (climbs xs a k d (omega arith))

  module _ (q : K) where
    answers_rise : (xs : List K) → Rising R xs → IsNonDecreasingBy (λ y. ordering_index (R y q)) xs
    answers_rise xs a = searchable_from_sorted o.total (λ x. x) xs q (sorted_from_rising xs a)

    pub found : (xs : List K) (k : ℕ) → k < length xs → HoldsAt (λ y. R y q ≡ Equal) xs k → has R q xs ≡ true
    found xs k h at = list_any_at (λ x. is_eq (R q x)) xs k q h (ap is_eq (tied_back o.total (get_or xs k q) q (at q)))

    gap : (xs : List K) (i : ℕ) → i ≤ length xs → AllWithin (λ y. R y q ≡ Less) xs 0 i → AllWithin (λ y. R y q ≡ Greater) xs i (length xs) → (has R q xs ≡ false) × (insert xs i q ≡ place R q xs)
    gap [] zero le before after = (refl, refl)
    gap [] (suc i) le before after = absurd (omega arith)
    gap (x ∷ xs) zero le before after =
        let first : R q x ≡ Less = o.total.antisymm q x ∙ ap ordering_reverse (after 0 q (omega arith) (omega arith)) in
        let rest = gap xs zero (omega arith) (λ k d z h. absurd (omega arith)) (λ k d z h. after (suc k) d (omega arith) (omega arith)) in
        (ap (λ c. is_eq c || has R q xs) first ∙ rest.0, sym (ap (λ c. placed R c q x xs (place R q xs)) first))
    gap (x ∷ xs) (suc i) le before after =
        let first : R q x ≡ Greater = o.total.antisymm q x ∙ ap ordering_reverse (before 0 q (omega arith) (omega arith)) in
        let rest = gap xs i (omega arith) (λ k d z h. before (suc k) d (omega arith) (omega arith)) (λ k d z h. after (suc k) d (omega arith) (omega arith)) in
        (ap (λ c. is_eq c || has R q xs) first ∙ rest.0, ap (λ l. x ∷ l) rest.1 ∙ sym (ap (λ c. placed R c q x xs (place R q xs)) first))

    -- where the search ends at a place, the element isn't there, and goes there
    pub parted : (xs : List K) → Rising R xs → (i : ℕ) → i ≤ length xs → (IsNonDecreasingBy (λ y. ordering_index (R y q)) xs → IsPartitionPoint (λ y. R y q ≡ Less) (λ y. R y q ≡ Greater) xs i) → (has R q xs ≡ false) × (insert xs i q ≡ place R q xs)
    parted xs a i le parts = let sides = parts (answers_rise xs a) in gap xs i le sides.0 sides.1

    pub searched : (xs : List K) → Rising R xs → (r : Result ℕ ℕ) → IsSearchInRange r (length xs) → IsBinarySearchResult (λ y. R y q) xs r → is_ok r ≡ has R q xs
    searched xs a (Ok k) h at = sym (found xs k h at)
    searched xs a (Err i) h parts = sym (parted xs a i h parts).0
