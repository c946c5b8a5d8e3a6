-- Which pieces begin at an element or before it: the first ones, and the element belongs in the last of these.
use Rattle.std.proofs.Common.{ℕ, zero, suc, ◌≡◌, ◌<◌, ◌≤◌, refl, Bool, true, false, not, List, [], ◌∷◌, ◌++◌, length, get_or, take, drop, ap, sym, ◌∙◌, subst, arith, drop-cons}
use Rattle.std.proofs.lemmas.Bool.{true≢false}
use Rattle.std.proofs.lemmas.List.{take-append-drop, append_assoc}
use Rattle.std.proofs.lemmas.List.Concat.{flat_map-append}
use Rattle.std.specs.List.{AllWithin}
use Rattle.std.specs.List.Sorted.{IsPartitionedBy, IsPartitionPoint}
use Rattle.std.specs.Ordering.{is_gt}
use Rattle.std.specs.declared.vec.Vec.{Vec}
use Rattle.std.specs.declared.cmp.Ordering.{Ordering}
use Rattle.std.specs.declared.cmp.Ordering.TheVariants.{Less}
use Rattle.ordered_lists.specs.Canon.{AllAbove, Rising, Exact}
use Rattle.key_lists.specs.Pieces.{joined, is_full, begins, AllFull, Below, IsCut}
use Rattle.key_lists.proofs.Parting.{above_parts, rising_parts, full_at, lower, below_next, above_first}

not_true : (b : Bool) → not b ≡ true → b ≡ false
not_true true e = absurd (true≢false (sym e))
not_true false e = refl

not_false : (b : Bool) → not b ≡ false → b ≡ true
not_false true e = refl
not_false false e = absurd (true≢false e)

module _ {T : Type 0} {R : T → T → Ordering} (o : Exact R) (q : T) where
  head_lower : (x : T) (ys m : List T) → AllAbove R x (ys ++ m) → is_full ys ≡ true → begins R q ys ≡ true → R x q ≡ Less
  head_lower x [] m a f b = absurd (true≢false (sym f))
  head_lower x (y ∷ ys) m a f b = lower o q x y a.0 (not_true (is_gt (R y q)) b)

  first_above : (xs ys : List T) → Rising R (xs ++ ys) → is_full xs ≡ true → begins R q xs ≡ false → AllAbove R q (xs ++ ys)
  first_above [] ys a f b = absurd (true≢false (sym f))
  first_above (x ∷ xs) ys a f b = above_first o q x (xs ++ ys) a (not_false (is_gt (R x q)) b)

  next_below : (xs ys m : List T) → Rising R (xs ++ (ys ++ m)) → is_full ys ≡ true → begins R q ys ≡ true → Below R q xs
  next_below xs [] m a f b = absurd (true≢false (sym f))
  next_below xs (y ∷ ys) m a f b = below_next o q xs y (ys ++ m) a (not_true (is_gt (R y q)) b)

module _ {T A : Type 0} {R : T → T → Ordering} (o : Exact R) (q : T) where
  abbrev pub starts : Vec T A → Bool
  starts v = begins R q v.items

  later_lower : (x : T) (vs : List (Vec T A)) → AllFull vs → AllAbove R x (joined vs) → (j : ℕ) (d : Vec T A) → j < length vs
      → starts (get_or vs j d) ≡ true → R x q ≡ Less
  later_lower x [] f a j d h b = absurd (omega (arith, h))
  later_lower x (v ∷ vs) f a zero d h b = head_lower o q x v.items (joined vs) a f.0 b
  later_lower x (v ∷ vs) f a (suc j) d h b = later_lower x vs f.1 (above_parts R x v.items (joined vs) a).1 j d (omega (arith, h)) b

  first_starts : (xs : List T) (vs : List (Vec T A)) → AllFull vs → Rising R (xs ++ joined vs) → (j : ℕ) (d : Vec T A) → j < length vs
      → starts (get_or vs j d) ≡ true → begins R q xs ≡ true
  first_starts [] vs f a j d h b = refl
  first_starts (x ∷ xs) vs f a j d h b = ap (λ c. not (is_gt c)) (later_lower x vs f (above_parts R x xs (joined vs) a.0).1 j d h b)

  -- where one begins there, so do those before it
  pub partitioned : (vs : List (Vec T A)) → AllFull vs → Rising R (joined vs) → IsPartitionedBy starts vs
  partitioned [] f a i j d le h b = absurd (omega (arith, h))
  partitioned (v ∷ vs) f a zero zero d le h b = b
  partitioned (v ∷ vs) f a zero (suc j) d le h b = first_starts v.items vs f.1 a j d (omega (arith, h)) b
  partitioned (v ∷ vs) f a (suc i) zero d le h b = absurd (omega (arith, le))
  partitioned (v ∷ vs) f a (suc i) (suc j) d le h b =
      partitioned vs f.1 (rising_parts R v.items (joined vs) a).1 i j d (omega (arith, le)) (omega (arith, h)) b

  above_from : (vs : List (Vec T A)) → AllFull vs → Rising R (joined vs) → (k : ℕ) → AllWithin (λ v. starts v ≡ false) vs k (length vs)
      → AllAbove R q (joined (drop k vs))
  above_from [] f a zero h = tt
  above_from [] f a (suc k) h = tt
  above_from (v ∷ vs) f a zero h = first_above o q v.items (joined vs) a f.0 (h 0 v (omega arith) (omega arith))
  above_from (v ∷ vs) f a (suc k) h =
      above_from vs f.1 (rising_parts R v.items (joined vs) a).1 k (λ i d le lt. h (suc i) d (omega (arith, le)) (omega (arith, lt)))

  below_at : (vs : List (Vec T A)) (d : Vec T A) → AllFull vs → (j : ℕ) → j < length vs → starts (get_or vs j d) ≡ true
      → (xs : List T) → Rising R (xs ++ joined vs) → Below R q (xs ++ joined (take j vs))
  below_at vs d f j h b xs a = next_below o q (xs ++ joined (take j vs)) (get_or vs j d).items (joined (drop (suc j) vs))
      (subst (λ l. Rising R l) (ap (λ l. xs ++ l) parts ∙ sym (append_assoc xs (joined (take j vs)) _)) a) (full_at vs j d f h) b
    where
      parts : joined vs ≡ joined (take j vs) ++ ((get_or vs j d).items ++ joined (drop (suc j) vs))
      parts = ap joined (sym (take-append-drop j vs)) ∙ flat_map-append (λ v. v.items) (take j vs) (drop j vs)
          ∙ ap (λ l. joined (take j vs) ++ joined l) (drop-cons vs j d h)

  below_upto : (vs : List (Vec T A)) → AllFull vs → (j : ℕ) → j < length vs → AllWithin (λ v. starts v ≡ true) vs 0 (suc j)
      → (xs : List T) → Rising R (xs ++ joined vs) → Below R q (xs ++ joined (take j vs))
  below_upto [] f j h s xs a = absurd (omega (arith, h))
  below_upto (v ∷ vs) f j h s xs a = below_at (v ∷ vs) v f j h (s j v (omega arith) (omega arith)) xs a

  pub is_cut : (vs : List (Vec T A)) → AllFull vs → Rising R (joined vs) → (k : ℕ) → k ≤ length vs
      → IsPartitionPoint (λ v. starts v ≡ true) (λ v. starts v ≡ false) vs k → IsCut R q vs k
  is_cut vs f a k h p = record {
    within = h;
    above = above_from vs f a k p.1;
    below = λ xs j r e. below_upto vs f j (omega (arith, h, e)) (λ i d le lt. p.0 i d le (omega (arith, lt, e))) xs r;
  }
