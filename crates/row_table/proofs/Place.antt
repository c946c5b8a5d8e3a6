-- What a search finds among sorted pairs, and what an edit at that place does.
use Rattle.std.proofs.Common.{◌≡◌, ℕ, zero, suc, ◌+◌, ◌-◌, ◌<◌, ◌≤◌, List, [], ◌∷◌, length, map, get_or, set, Some, None, Result, Ok, Err, IfOk, IfErr, sym, ap, ◌∙◌, subst, arith, refl}
use Rattle.std.specs.List.{insert, remove}
use Rattle.std.specs.List.Sorted.{IsSearchInRange, IsBinarySearchResult, IsNonDecreasingBy}
use Rattle.std.specs.Ordering.{nat_cmp, ordering_index}
use Rattle.std.proofs.Math.Seq.{map-set_same}
use Rattle.std.proofs.lemmas.Cmp.{ranked}
use Rattle.std.proofs.lemmas.List.{get_or-map, length-map}
use Rattle.std.proofs.lemmas.List.Sorted.{IsNonDecreasingBy-from_default}
use Rattle.std.proofs.lemmas.List.Edits.{length-insert, get_or-insert_below, get_or-insert_at, get_or-insert_above, length-remove, get_or-remove_below, get_or-remove_above}
use Rattle.std.proofs.lemmas.Bool.Decides.{nat_tests}
use Rattle.row_table.specs.Pairs.{get, keys, key_at, Rise, IsStrictlySorted, IsAt, IsGapFor, SetsOnly, Drops}
use Rattle.row_table.proofs.Pairs.{NoKeyBefore, GetsAfterSet, get_absent, get_present, get_set, get-insert, get-remove}

-- ---- keys alone

map-insert : {A B : Type 0} (f : A → B) (l : List A) (i : ℕ) (x : A) → map f (insert l i x) ≡ insert (map f l) i (f x)
map-insert f l zero x = refl
map-insert f [] (suc i) x = refl
map-insert f (y ∷ l) (suc i) x = ap (λ l. f y ∷ l) (map-insert f l i x)

map-remove : {A B : Type 0} (f : A → B) (l : List A) (i : ℕ) → map f (remove l i) ≡ remove (map f l) i
map-remove f [] zero = refl
map-remove f [] (suc i) = refl
map-remove f (y ∷ l) zero = refl
map-remove f (y ∷ l) (suc i) = ap (λ l. f y ∷ l) (map-remove f l i)

module _ (ks : List ℕ) (rise : Rise ks) (at : ℕ) where
  -- each new key is an old one below the gap, k at it, or an old one moved up by one
  rise_insert : (k : ℕ) → at ≤ length ks → ((j : ℕ) → j < at → get_or ks j 0 < k) → ((j : ℕ) → at ≤ j → j < length ks → k < get_or ks j 0) → Rise (insert ks at k)
  rise_insert k le smaller greater i j lt in_range =
      let new = insert ks at k in
      let length_new = length-insert ks at k le in
      let key_below : (i : ℕ) → i < at → get_or new i 0 ≡ get_or ks i 0 = λ i below. get_or-insert_below ks at k 0 i below le in
      let key_here : (i : ℕ) → i ≡ at → get_or new i 0 ≡ k = λ i here. rw here (get_or-insert_at ks at k 0 le) in
      let key_above : (i : ℕ) → at < i → get_or new i 0 ≡ get_or ks (i - 1) 0 = λ i above. subst (λ q. get_or new q 0 ≡ get_or ks (i - 1) 0) {x = i - 1 + 1} (omega arith) (get_or-insert_above ks at k 0 (i - 1) (omega arith) le) in
      grind (arith, key_below i, key_here i, key_above i, key_below j, key_here j, key_above j, rise i j, rise i (j - 1), rise (i - 1) (j - 1), smaller i, greater (j - 1))

  rise_remove : at < length ks → Rise (remove ks at)
  rise_remove there i j lt in_range =
      let new = remove ks at in
      let length_new = length-remove ks at there in
      let key_below : (i : ℕ) → i < at → get_or new i 0 ≡ get_or ks i 0 = λ i below. get_or-remove_below ks at 0 i below there in
      let key_above : (i : ℕ) → at ≤ i → get_or new i 0 ≡ get_or ks (i + 1) 0 = λ i above. get_or-remove_above ks at 0 i above there in
      grind (arith, key_below i, key_above i, key_below j, key_above j, rise i j, rise i (j + 1), rise (i + 1) (j + 1))

module _ {V : Type 0} where
  pub length-keys : (l : List (ℕ × V)) → length (keys l) ≡ length l
  length-keys l = length-map l (λ p. p.0)

  pub key_is : (l : List (ℕ × V)) (i : ℕ) (d : ℕ × V) → i < length l → key_at l i ≡ (get_or l i d).0
  key_is l i d lt = get_or-map (λ p. p.0) l i d 0 lt

  -- one equation for every key gives the contract's two facts
  sets_only_from_gets : (old new : List (ℕ × V)) (k : ℕ) (v : V) → GetsAfterSet old new k v → SetsOnly old new k v
  sets_only_from_gets old new k v gets = record { this_key = grind (arith, nat_tests, gets k); other_keys = λ q differs. grind (arith, nat_tests, gets q) }

  module _ (l : List (ℕ × V)) (sorted : IsStrictlySorted l) (k : ℕ) (d : ℕ × V) where
    -- the comparisons with k rise along the list, as a binary search asks
    comparisons_rise : IsNonDecreasingBy (λ pair. ordering_index (nat_cmp pair.0 k)) l
    comparisons_rise = IsNonDecreasingBy-from_default (λ pair. ordering_index (nat_cmp pair.0 k)) l d (λ i j le in_range.
        let keys_rise : key_at l i ≤ key_at l j = grind (arith, sorted i j, length-keys l, λ (same : i ≡ j). ap (key_at l) same) in
        let first = key_is l i d (omega arith) in
        let second = key_is l j d in_range in
        grind (arith, nat_tests, first, second))

    -- a binary search by key ends at the key, or at the gap for it
    ends : (r : Result ℕ ℕ) → IsSearchInRange r (length l) → IsBinarySearchResult (λ pair. nat_cmp pair.0 k) l r → record { found : IfOk r (IsAt l k); absent : IfErr r (IsGapFor l k) }
    ends (Ok at) in_range equal = record { found = record { in_range = in_range; has_key = key_is l at d in_range ∙ ranked _ k _ (sym (equal d)) }; absent = tt }
    ends (Err at) in_range parted = record {
      found = tt;
      absent = record {
        in_range = in_range;
        smaller_before = λ j lt. rw (key_is l j d (omega arith)) (ranked _ k _ (sym ((parted comparisons_rise).0 j d (omega arith) lt)));
        greater_after = λ j le lt. rw (key_is l j d lt) (ranked _ k _ (sym ((parted comparisons_rise).1 j d le lt)));
      };
    }

  pub searched : (l : List (ℕ × V)) → IsStrictlySorted l → (k : ℕ) (r : Result ℕ ℕ) → IsSearchInRange r (length l) → IsBinarySearchResult (λ pair. nat_cmp pair.0 k) l r → record { found : IfOk r (IsAt l k); absent : IfErr r (IsGapFor l k) }
  searched [] sorted k (Ok at) in_range equal = absurd (omega (arith, in_range))
  searched [] sorted k (Err at) in_range parted = record {
    found = tt;
    absent = record { in_range = in_range; smaller_before = λ j lt. absurd (omega (arith, in_range, lt)); greater_after = λ j le lt. absurd (omega (arith, lt)) };
  }
  searched (x ∷ l) sorted k r in_range result = ends (x ∷ l) sorted k x r in_range result

  module _ (l : List (ℕ × V)) (sorted : IsStrictlySorted l) (k at : ℕ) (is_at : IsAt l k at) where
    -- the keys before the place are smaller, so none is k
    no_key_before_at : NoKeyBefore l k at
    no_key_before_at j lt same = omega (arith, sorted j at lt (omega (arith, length-keys l, is_at.in_range)), is_at.has_key)

    -- the key is found at its place
    pub get_at : (d : ℕ × V) → get l k ≡ Some (get_or l at d).1
    get_at d = get_present l k at d is_at no_key_before_at

    -- writing over its pair changes that key alone
    pub sets_only_set : (v : V) → SetsOnly l (set l at (k, v)) k v
    sets_only_set v = sets_only_from_gets _ _ k v (get_set l k v at is_at no_key_before_at)

    -- and keeps the order, since every key stays
    pub sorted_set : (v : V) → IsStrictlySorted (set l at (k, v))
    sorted_set v = subst Rise (sym (map-set_same (λ p. p.0) l at (k, v) (k, v) (sym is_at.has_key ∙ key_is l at (k, v) is_at.in_range))) sorted

    -- the place's pair goes, and no other
    pub drops_remove : Drops l (remove l at) k
    drops_remove =
        let gets = get-remove l k at is_at no_key_before_at (λ j from lt same. omega (arith, sorted at j from (omega (arith, length-keys l, lt)), is_at.has_key)) in
        record { this_key = grind (arith, nat_tests, gets k); other_keys = λ q differs. grind (arith, nat_tests, gets q) }

    -- and the order stays
    pub sorted_remove : IsStrictlySorted (remove l at)
    sorted_remove = subst Rise (sym (map-remove (λ p. p.0) l at)) (rise_remove (keys l) sorted at (omega (arith, length-keys l, is_at.in_range)))

  module _ (l : List (ℕ × V)) (k at : ℕ) (gap : IsGapFor l k at) where
    -- a key that has a gap is not found
    pub get_in_gap : get l k ≡ None
    get_in_gap = get_absent l k (λ j lt same. grind (arith, gap.smaller_before j, gap.greater_after j))

    -- a new pair in the gap changes that key alone
    pub sets_only_insert : (v : V) → SetsOnly l (insert l at (k, v)) k v
    sets_only_insert v = sets_only_from_gets _ _ k v (get-insert l k v at (λ j lt same. omega (arith, gap.smaller_before j lt)))

    -- and keeps the order
    pub sorted_insert : (v : V) → IsStrictlySorted l → IsStrictlySorted (insert l at (k, v))
    sorted_insert v sorted = subst Rise (sym (map-insert (λ p. p.0) l at (k, v)))
        (rise_insert (keys l) sorted at k (omega (arith, length-keys l, gap.in_range)) gap.smaller_before (λ j le lt. gap.greater_after j le (omega (arith, length-keys l, lt))))

    pub drops_none : Drops l l k
    drops_none = record { this_key = get_in_gap; other_keys = λ q differs. refl }

  -- above the last key
  pub gap_at_end : (l : List (ℕ × V)) → IsStrictlySorted l → (k : ℕ) (last : ℕ × V) → 0 < length l → last ≡ get_or l (length l - 1) last → last.0 < k → IsGapFor l k (length l)
  gap_at_end l sorted k last some is lt =
      let top : key_at l (length l - 1) ≡ last.0 = key_is l (length l - 1) last (omega arith) ∙ ap (λ p. p.0) (sym is) in record {
        in_range = omega arith;
        smaller_before = λ j below. grind (arith, sorted j (length l - 1), length-keys l, top, λ (same : j ≡ length l - 1). ap (key_at l) same);
        greater_after = λ j from above. absurd (omega arith);
      }
