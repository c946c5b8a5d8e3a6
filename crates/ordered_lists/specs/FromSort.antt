-- What a sort and a dedup leave is the canonical list.
use Rattle.std.specs.Prelude.{◌≡◌, refl, Bool, true, false, cond, ◌||◌, List, [], ◌∷◌}
use Rattle.std.specs.List.{dedup, dedup_from}
use Rattle.std.specs.List.Sorted.{IsPermutation, IsSorted}
use Rattle.std.specs.declared.cmp.Ordering.{Ordering}
use Rattle.std.specs.Ordering.{is_eq, eq_by_cmp}
use Rattle.std.specs.Cmp.{Equal-is}
use Rattle.std.proofs.Common.{ap, sym, ◌∙◌}
use Rattle.std.proofs.Math.Bool.{or_self_left}
use Rattle.std.proofs.lemmas.List.Kept.{IsStrictlySortedBy-dedup}
use Rattle.std.proofs.lemmas.List.Sorted.{list_any-IsPermutation}
use Rattle.ordered_lists.specs.Canon.{canon, has, Exact, canon_one, Rising-canon, has-canon}
use Rattle.ordered_lists.specs.Rises.{rising_sorted}

module _ {K : Type 0} {R : K → K → Ordering} (o : Exact R) (E : K → K → Bool) (ties : (x y : K) → E x y ≡ eq_by_cmp R x y) where
  has-dedup_from : (q k : K) (xs : List K) → has R q (dedup_from E k xs) ≡ (is_eq (R q k) || has R q xs)
  has-dedup_from q k [] = refl
  has-dedup_from q k (x ∷ xs) = at (E x k) refl (has-dedup_from q k xs) (has-dedup_from q x xs)
    where
      at : (b : Bool) → E x k ≡ b → has R q (dedup_from E k xs) ≡ (is_eq (R q k) || has R q xs)
          → has R q (dedup_from E x xs) ≡ (is_eq (R q x) || has R q xs)
          → has R q (cond b (dedup_from E k xs) (k ∷ dedup_from E x xs)) ≡ (is_eq (R q k) || (is_eq (R q x) || has R q xs))
      at true e h g = h ∙ sym (or_self_left (is_eq (R q k)) (has R q xs))
          ∙ ap (λ z. is_eq (R q k) || (is_eq (R q z) || has R q xs)) (sym (o.same x k ((Equal-is (R x k)).0 (sym (ties x k) ∙ e))))
      at false e h g = ap (λ b. is_eq (R q k) || b) g

  has-dedup : (q : K) (xs : List K) → has R q (dedup E xs) ≡ has R q xs
  has-dedup q [] = refl
  has-dedup q (x ∷ xs) = has-dedup_from q x xs

  pub canon_from_sort : (xs ys zs : List K) → IsPermutation xs ys → IsSorted R ys → zs ≡ dedup E ys → zs ≡ canon R xs
  canon_from_sort xs ys zs p s e = e
      ∙ canon_one o (dedup E ys) (canon R xs) (rising_sorted R (dedup E ys) (IsStrictlySortedBy-dedup o.total ties ys s))
      (Rising-canon o xs)
      (λ q. has-dedup q ys ∙ sym (list_any-IsPermutation _ xs ys p) ∙ sym (has-canon o q xs))
