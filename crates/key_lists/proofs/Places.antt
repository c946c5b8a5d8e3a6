-- Where a binary search in a rising list ends, and what then stands before and behind.
use Rattle.std.proofs.Common.{ℕ, ◌≡◌, ◌<◌, ◌≤◌, refl, false, not, cond, zero, suc, List, [], ◌∷◌, length, get_or, drop, ap, sym, ◌∙◌, subst, arith}
use Rattle.std.specs.List.{AllWithin, HoldsAt, filter, remove}
use Rattle.std.specs.List.Sorted.{IsNonDecreasingBy, IsPartitionPoint}
use Rattle.std.specs.Ordering.{is_eq, is_lt, ordering_index, ordering_reverse}
use Rattle.std.specs.Cmp.{tied_itself}
use Rattle.std.specs.declared.cmp.Ordering.{Ordering}
use Rattle.std.specs.declared.cmp.Ordering.TheVariants.{Less, Equal, Greater}
use Rattle.std.proofs.lemmas.List.Sorted.{searchable_from_sorted}
use Rattle.ordered_lists.specs.Canon.{AllAbove, Rising, Exact}
use Rattle.ordered_lists.proofs.Search.{sorted_from_rising}

module _ {K : Type 0} {R : K → K → Ordering} (o : Exact R) where
  below : (x : K) (xs : List K) → AllAbove R x xs → (k : ℕ) (d : K) → k < length xs → R x (get_or xs k d) ≡ Less
  below x [] a k d h = absurd (omega arith)
  below x (y ∷ ys) a zero d h = a.0
  below x (y ∷ ys) a (suc k) d h = below x ys a.1 k d (omega arith)

  module _ (q : K) where
    abbrev pub but : List K → List K
    but xs = filter (λ x. not (is_eq (R q x))) xs

    abbrev pub upward : List K → List K
    upward xs = filter (λ x. not (is_lt (R x q))) xs

    abbrev pub above : List K → List K
    above xs = filter (λ x. is_lt (R q x)) xs

    keeps-but : (x : K) (xs ys : List K) (c : Ordering) → is_eq c ≡ false → R q x ≡ c → ys ≡ but xs → x ∷ ys ≡ but (x ∷ xs)
    keeps-but x xs ys c n e h = ap (λ l. x ∷ l) h ∙ sym (ap (λ d. cond (not (is_eq d)) (x ∷ but xs) (but xs)) e ∙ ap (λ b. cond (not b) (x ∷ but xs) (but xs)) n)

    upward-from : (x : K) (xs ys : List K) (c : Ordering) → is_lt c ≡ false → R x q ≡ c → ys ≡ upward xs → x ∷ ys ≡ upward (x ∷ xs)
    upward-from x xs ys c n e h = ap (λ l. x ∷ l) h ∙ sym (ap (λ d. cond (not (is_lt d)) (x ∷ upward xs) (upward xs)) e ∙ ap (λ b. cond (not b) (x ∷ upward xs) (upward xs)) n)

    upward-past : (x : K) (xs ys : List K) → R x q ≡ Less → ys ≡ upward xs → ys ≡ upward (x ∷ xs)
    upward-past x xs ys e h = h ∙ sym (ap (λ d. cond (not (is_lt d)) (x ∷ upward xs) (upward xs)) e)

    above-from : (x : K) (xs ys : List K) → R q x ≡ Less → ys ≡ above xs → x ∷ ys ≡ above (x ∷ xs)
    above-from x xs ys e h = ap (λ l. x ∷ l) h ∙ sym (ap (λ d. cond (is_lt d) (x ∷ above xs) (above xs)) e)

    above-past : (x : K) (xs ys : List K) (c : Ordering) → is_lt c ≡ false → R q x ≡ c → ys ≡ above xs → ys ≡ above (x ∷ xs)
    above-past x xs ys c n e h = h ∙ sym (ap (λ d. cond (is_lt d) (x ∷ above xs) (above xs)) e ∙ ap (λ b. cond b (x ∷ above xs) (above xs)) n)

    after : (x : K) → R q x ≡ Less → R x q ≡ Greater
    after x e = o.total.antisymm x q ∙ ap ordering_reverse e

    before : (x : K) → R x q ≡ Less → R q x ≡ Greater
    before x e = o.total.antisymm q x ∙ ap ordering_reverse e

    -- an element below all of a list
    all_above : (xs : List K) → AllAbove R q xs → (xs ≡ but xs) × (xs ≡ upward xs) × (xs ≡ above xs)
    all_above [] a = (refl, refl, refl)
    all_above (x ∷ xs) a =
        let rest = all_above xs a.1 in
        (keeps-but x xs xs Less refl a.0 rest.0, upward-from x xs xs Greater refl (after x a.0) rest.1, above-from x xs xs a.0 rest.2)

    -- where the search finds the element
    pub at_found : (xs : List K) → Rising R xs → (k : ℕ) → k < length xs → HoldsAt (λ y. R y q ≡ Equal) xs k → (remove xs k ≡ but xs) × (drop k xs ≡ upward xs) × (drop (suc k) xs ≡ above xs)
    at_found [] a k h at = absurd (omega arith)
    at_found (x ∷ xs) a zero h at =
        let s : x ≡ q = o.same x q (at q) in
        let rest = all_above xs (subst (λ z. AllAbove R z xs) s a.0) in
        let e : R q x ≡ Equal = subst (λ z. R z x ≡ Equal) s (tied_itself o.total x) in (
          rest.0 ∙ sym (ap (λ d. cond (not (is_eq d)) (x ∷ but xs) (but xs)) e),
          upward-from x xs xs Equal refl (at q) rest.1,
          above-past x xs xs Equal refl e rest.2,
        )
    at_found (x ∷ xs) a (suc k) h at =
        let rest = at_found xs a.1 k (omega arith) (λ d. at d) in
        let s : get_or xs k q ≡ q = o.same (get_or xs k q) q (at q) in
        let e : R x q ≡ Less = subst (λ z. R x z ≡ Less) s (below x xs a.0 k q (omega arith)) in (
          keeps-but x xs (remove xs k) Greater refl (before x e) rest.0,
          upward-past x xs (drop k xs) e rest.1,
          above-past x xs (drop (suc k) xs) Greater refl (before x e) rest.2,
        )

    -- where it ends between two elements
    pub at_gap : (xs : List K) (i : ℕ) → i ≤ length xs → AllWithin (λ y. R y q ≡ Less) xs 0 i → AllWithin (λ y. R y q ≡ Greater) xs i (length xs) → (xs ≡ but xs) × (drop i xs ≡ upward xs) × (drop i xs ≡ above xs)
    at_gap [] zero le down up = (refl, refl, refl)
    at_gap [] (suc i) le down up = absurd (omega arith)
    at_gap (x ∷ xs) zero le down up =
        let e : R x q ≡ Greater = up 0 q (omega arith) (omega arith) in
        let g : R q x ≡ Less = o.total.antisymm q x ∙ ap ordering_reverse e in
        let rest = at_gap xs zero (omega arith) (λ k d z h. absurd (omega arith)) (λ k d z h. up (suc k) d (omega arith) (omega arith)) in
        (keeps-but x xs xs Less refl g rest.0, upward-from x xs xs Greater refl e rest.1, above-from x xs xs g rest.2)
    at_gap (x ∷ xs) (suc i) le down up =
        let e : R x q ≡ Less = down 0 q (omega arith) (omega arith) in
        let rest = at_gap xs i (omega arith) (λ k d z h. down (suc k) d (omega arith) (omega arith)) (λ k d z h. up (suc k) d (omega arith) (omega arith)) in
        (keeps-but x xs xs Greater refl (before x e) rest.0, upward-past x xs (drop i xs) e rest.1, above-past x xs (drop i xs) Greater refl (before x e) rest.2)

    pub at_end : (xs : List K) → Rising R xs → (i : ℕ) → i ≤ length xs → (IsNonDecreasingBy (λ y. ordering_index (R y q)) xs → IsPartitionPoint (λ y. R y q ≡ Less) (λ y. R y q ≡ Greater) xs i) → (xs ≡ but xs) × (drop i xs ≡ upward xs) × (drop i xs ≡ above xs)
    at_end xs a i le parts = let sides = parts (searchable_from_sorted o.total (λ x. x) xs q (sorted_from_rising o xs a)) in at_gap xs i le sides.0 sides.1
