-- Where an element belongs in a list in pieces, and what the list is once the piece there has changed.
use Rattle.std.proofs.Common.{ℕ, zero, suc, ◌≡◌, ◌<◌, refl, true, false, not, cond, List, [], ◌∷◌, ◌++◌, length, get_or, take, drop, slice_set, ap, sym, ◌∙◌, subst, arith, drop-cons}
use Rattle.std.proofs.lemmas.Bool.{true≢false}
use Rattle.std.proofs.lemmas.List.{take-append-drop, append_assoc, set_split}
use Rattle.std.proofs.lemmas.List.Concat.{flat_map-append}
use Rattle.std.specs.List.{filter, insert, remove}
use Rattle.std.specs.Ordering.{is_eq, is_lt, is_gt, ordering_reverse}
use Rattle.std.specs.Result.{OnOk, OnErr}
use Rattle.std.specs.declared.result.Result.{Result}
use Rattle.std.specs.declared.result.Result.TheVariants.{Ok, Err}
use Rattle.std.specs.declared.vec.Vec.{Vec}
use Rattle.std.specs.declared.cmp.Ordering.{Ordering}
use Rattle.std.specs.declared.cmp.Ordering.TheVariants.{Less, Equal, Greater}
use Rattle.std.proofs.lemmas.List.Elements.{filter-append}
use Rattle.ordered_lists.specs.Canon.{place, placed, AllAbove, Rising, Exact, Rising-place, Rising-filter}
use Rattle.key_lists.specs.Pieces.{joined, all_in, is_full, from, AllFull, Below, IsOrdered, IsCut}

-- ---- one piece among the others

module _ {T A : Type 0} where
  pub parted : (vs : List (Vec T A)) (j : ℕ) (v : Vec T A) → j < length vs → v ≡ get_or vs j v
      → joined vs ≡ joined (take j vs) ++ (v.items ++ joined (drop (suc j) vs))
  parted vs j v h e = ap joined (sym (take-append-drop j vs)) ∙ flat_map-append (λ v. v.items) (take j vs) (drop j vs)
      ∙ ap (λ l. joined (take j vs) ++ joined l) (drop-cons vs j v h ∙ ap (λ w. w ∷ drop (suc j) vs) (sym e))

  pub set_parted : (vs : List (Vec T A)) (j : ℕ) (v : Vec T A) → j < length vs
      → joined (slice_set vs j v) ≡ joined (take j vs) ++ (v.items ++ joined (drop (suc j) vs))
  set_parted vs j v h = ap joined (set_split vs j v h) ∙ flat_map-append (λ v. v.items) (take j vs) (v ∷ drop (suc j) vs)

  pub set_same : (vs : List (Vec T A)) (j : ℕ) (v w : Vec T A) → j < length vs → v ≡ get_or vs j v → w.items ≡ v.items
      → joined (slice_set vs j w) ≡ joined vs
  set_same vs j v w h is same = set_parted vs j w h ∙ ap (λ l. joined (take j vs) ++ (l ++ joined (drop (suc j) vs))) same ∙ sym (parted vs j v h is)

  pub full_at : (vs : List (Vec T A)) (j : ℕ) (d : Vec T A) → AllFull vs → j < length vs → is_full (get_or vs j d).items ≡ true
  full_at [] j d a h = absurd (omega (arith, h))
  full_at (v ∷ vs) zero d a h = a.0
  full_at (v ∷ vs) (suc j) d a h = full_at vs j d a.1 (omega (arith, h))

  pub full_set : (vs : List (Vec T A)) (j : ℕ) (v : Vec T A) → AllFull vs → is_full v.items ≡ true → AllFull (slice_set vs j v)
  full_set [] j v a e = tt
  full_set (w ∷ ws) zero v a e = (e, a.1)
  full_set (w ∷ ws) (suc j) v a e = (a.0, full_set ws j v a.1 e)

-- ---- what stands before and behind an element

module _ {T : Type 0} (R : T → T → Ordering) where
  pub above_parts : (x : T) (xs ys : List T) → AllAbove R x (xs ++ ys) → AllAbove R x xs × AllAbove R x ys
  above_parts x [] ys a = (tt, a)
  above_parts x (y ∷ xs) ys a = let rest = above_parts x xs ys a.1 in ((a.0, rest.0), rest.1)

  pub rising_parts : (xs ys : List T) → Rising R (xs ++ ys) → Rising R xs × Rising R ys
  rising_parts [] ys a = (tt, a)
  rising_parts (x ∷ xs) ys a = let rest = rising_parts xs ys a.1 in (((above_parts x xs ys a.0).0, rest.0), rest.1)

module _ {T : Type 0} {R : T → T → Ordering} (o : Exact R) (q : T) where
  after : (x : T) → R x q ≡ Less → R q x ≡ Greater
  after x e = o.total.antisymm q x ∙ ap ordering_reverse e

  pub lower : (x y : T) → R x y ≡ Less → is_gt (R y q) ≡ false → R x q ≡ Less
  lower x y e h = at (R y q) refl h
    where
      at : (c : Ordering) → R y q ≡ c → is_gt c ≡ false → R x q ≡ Less
      at Less f g = o.total.trans x y q e f
      at Equal f g = subst (λ z. R x z ≡ Less) (o.same y q f) e
      at Greater f g = absurd (true≢false g)

  pub below_next : (xs : List T) (y : T) (ys : List T) → Rising R (xs ++ (y ∷ ys)) → is_gt (R y q) ≡ false → Below R q xs
  below_next [] y ys a h = tt
  below_next (x ∷ xs) y ys a h = (lower x y (above_parts R x xs (y ∷ ys) a.0).1.0 h, below_next xs y ys a.1 h)

  above_more : (y : T) (ys : List T) → R q y ≡ Less → AllAbove R y ys → AllAbove R q ys
  above_more y [] e a = tt
  above_more y (z ∷ zs) e a = (o.total.trans q y z e a.0, above_more y zs e a.1)

  pub above_first : (y : T) (ys : List T) → Rising R (y ∷ ys) → is_gt (R y q) ≡ true → AllAbove R q (y ∷ ys)
  above_first y ys a h = let e = at (R y q) refl h in (e, above_more y ys e a.0)
    where
      at : (c : Ordering) → R y q ≡ c → is_gt c ≡ true → R q y ≡ Less
      at Less f g = absurd (true≢false (sym g))
      at Equal f g = absurd (true≢false (sym g))
      at Greater f g = o.total.antisymm q y ∙ ap ordering_reverse f

  -- ---- a change that concerns the elements beside it alone

  pub record IsLocal (F : List T → List T) : Type 0 where
    pub behind : (xs ys : List T) → Below R q xs → F (xs ++ ys) ≡ xs ++ F ys
    pub before : (xs ys : List T) → AllAbove R q ys → F (xs ++ ys) ≡ F xs ++ ys

  pub same_local : IsLocal (λ xs. xs)
  same_local = record { behind = λ xs ys b. refl; before = λ xs ys a. refl }

  place_behind : (xs ys : List T) → Below R q xs → place R q (xs ++ ys) ≡ xs ++ place R q ys
  place_behind [] ys b = refl
  place_behind (x ∷ xs) ys b = ap (λ c. placed R c q x (xs ++ ys) (place R q (xs ++ ys))) (after x b.0) ∙ ap (λ l. x ∷ l) (place_behind xs ys b.1)

  place_before : (xs ys : List T) → AllAbove R q ys → place R q (xs ++ ys) ≡ place R q xs ++ ys
  place_before [] [] a = refl
  place_before [] (y ∷ ys) a = ap (λ c. placed R c q y ys (place R q ys)) a.0
  place_before (x ∷ xs) ys a = at (R q x) (place_before xs ys a)
    where
      at : (c : Ordering) → place R q (xs ++ ys) ≡ place R q xs ++ ys
          → placed R c q x (xs ++ ys) (place R q (xs ++ ys)) ≡ placed R c q x xs (place R q xs) ++ ys
      at Less h = refl
      at Equal h = refl
      at Greater h = ap (λ l. x ∷ l) h

  pub place_local : IsLocal (place R q)
  place_local = record { behind = place_behind; before = place_before }

  abbrev pub but : List T → List T
  but xs = filter (λ x. not (is_eq (R q x))) xs

  but_below : (xs : List T) → Below R q xs → but xs ≡ xs
  but_below [] b = refl
  but_below (x ∷ xs) b = ap (λ c. cond (not (is_eq c)) (x ∷ but xs) (but xs)) (after x b.0) ∙ ap (λ l. x ∷ l) (but_below xs b.1)

  but_above : (xs : List T) → AllAbove R q xs → but xs ≡ xs
  but_above [] a = refl
  but_above (x ∷ xs) a = ap (λ c. cond (not (is_eq c)) (x ∷ but xs) (but xs)) a.0 ∙ ap (λ l. x ∷ l) (but_above xs a.1)

  pub but_local : IsLocal but
  but_local = record {
    behind = λ xs ys b. filter-append (λ x. not (is_eq (R q x))) xs ys ∙ ap (λ l. l ++ but ys) (but_below xs b);
    before = λ xs ys a. filter-append (λ x. not (is_eq (R q x))) xs ys ∙ ap (λ l. but xs ++ l) (but_above ys a);
  }

  module _ {A : Type 0} (F : List T → List T) (local : IsLocal F) where
    pub in_first : (xs ys : List T) (vs : List (Vec T A)) → AllAbove R q (joined vs) → ys ≡ F xs → all_in ys vs ≡ F (all_in xs vs)
    in_first xs ys vs a e = ap (λ l. l ++ joined vs) e ∙ sym (local.before xs (joined vs) a)

    pub in_more : (xs : List T) (vs : List (Vec T A)) (j : ℕ) (v w : Vec T A) → j < length vs → v ≡ get_or vs j v
        → Below R q (xs ++ joined (take j vs)) → AllAbove R q (joined (drop (suc j) vs)) → w.items ≡ F v.items
        → all_in xs (slice_set vs j w) ≡ F (all_in xs vs)
    in_more xs vs j v w h e b a new =
        ap (λ l. xs ++ l) (set_parted vs j w h)
        ∙ sym (append_assoc xs (joined (take j vs)) (w.items ++ joined (drop (suc j) vs)))
        ∙ ap (λ l. (xs ++ joined (take j vs)) ++ (l ++ joined (drop (suc j) vs))) new
        ∙ ap (λ l. (xs ++ joined (take j vs)) ++ l) (sym (local.before v.items (joined (drop (suc j) vs)) a))
        ∙ sym (local.behind (xs ++ joined (take j vs)) (v.items ++ joined (drop (suc j) vs)) b)
        ∙ ap F (append_assoc xs (joined (take j vs)) (v.items ++ joined (drop (suc j) vs)) ∙ ap (λ l. xs ++ l) (sym (parted vs j v h e)))

  -- ---- the elements that aren't below it

  abbrev pub upward : List T → List T
  upward xs = filter (λ x. not (is_lt (R x q))) xs

  upward_below : (xs : List T) → Below R q xs → upward xs ≡ []
  upward_below [] b = refl
  upward_below (x ∷ xs) b = ap (λ c. cond (not (is_lt c)) (x ∷ upward xs) (upward xs)) b.0 ∙ upward_below xs b.1

  upward_above : (xs : List T) → AllAbove R q xs → upward xs ≡ xs
  upward_above [] a = refl
  upward_above (x ∷ xs) a = ap (λ c. cond (not (is_lt c)) (x ∷ upward xs) (upward xs)) (o.total.antisymm x q ∙ ap ordering_reverse a.0)
      ∙ ap (λ l. x ∷ l) (upward_above xs a.1)

  pub upward_in : (xs ys zs : List T) → Below R q xs → AllAbove R q zs → upward ys ++ zs ≡ upward (xs ++ (ys ++ zs))
  upward_in xs ys zs b a = sym (filter-append (λ x. not (is_lt (R x q))) xs (ys ++ zs)
      ∙ ap (λ l. l ++ upward (ys ++ zs)) (upward_below xs b)
      ∙ filter-append (λ x. not (is_lt (R x q))) ys zs ∙ ap (λ l. upward ys ++ l) (upward_above zs a))

-- ---- pieces that come and go

module _ {T A : Type 0} where
  -- a piece is parted in two
  pub split_first : (xs ys : List T) (vs : List (Vec T A)) (t : Vec T A) → ys ++ t.items ≡ xs → all_in ys (insert vs 0 t) ≡ all_in xs vs
  split_first xs ys vs t e = sym (append_assoc ys t.items (joined vs)) ∙ ap (λ l. l ++ joined vs) e

  pub split_more : (vs : List (Vec T A)) (j : ℕ) (v p t : Vec T A) → j < length vs → v ≡ get_or vs j v → p.items ++ t.items ≡ v.items
      → joined (insert (slice_set vs j p) (suc j) t) ≡ joined vs
  split_more [] j v p t h is e = absurd (omega (arith, h))
  split_more (w ∷ ws) zero v p t h is e = sym (append_assoc p.items t.items (joined ws)) ∙ ap (λ l. l ++ joined ws) (e ∙ ap (λ v. v.items) is)
  split_more (w ∷ ws) (suc j) v p t h is e = ap (λ l. w.items ++ l) (split_more ws j v p t (omega (arith, h)) is e)

  pub full_split : (vs : List (Vec T A)) (j : ℕ) (p t : Vec T A) → AllFull vs → is_full p.items ≡ true → is_full t.items ≡ true
      → AllFull (insert (slice_set vs j p) (suc j) t)
  full_split [] j p t a f g = (g, tt)
  full_split (w ∷ ws) zero p t a f g = (f, (g, a.1))
  full_split (w ∷ ws) (suc j) p t a f g = (a.0, full_split ws j p t a.1 f g)

  -- an empty piece goes
  pub gone : (vs : List (Vec T A)) (j : ℕ) (w : Vec T A) → w.items ≡ [] → joined (remove (slice_set vs j w) j) ≡ joined (slice_set vs j w)
  gone [] zero w e = refl
  gone [] (suc j) w e = refl
  gone (v ∷ vs) zero w e = ap (λ l. l ++ joined vs) (sym e)
  gone (v ∷ vs) (suc j) w e = ap (λ l. v.items ++ l) (gone vs j w e)

  pub full_gone : (vs : List (Vec T A)) (j : ℕ) (w : Vec T A) → AllFull vs → AllFull (remove (slice_set vs j w) j)
  full_gone [] zero w a = tt
  full_gone [] (suc j) w a = tt
  full_gone (v ∷ vs) zero w a = a.1
  full_gone (v ∷ vs) (suc j) w a = (a.0, full_gone vs j w a.1)

module _ {T : Type 0} where
  pub full_more : (xs ys : List T) → is_full xs ≡ true → is_full (xs ++ ys) ≡ true
  full_more [] ys e = absurd (true≢false (sym e))
  full_more (x ∷ xs) ys e = refl

  pub none_full : (xs : List T) → is_full xs ≡ false → xs ≡ []
  none_full [] e = refl
  none_full (x ∷ xs) e = absurd (true≢false e)

-- ---- the piece under a number

pub on_err : {E F : Type 0} (r : Result E F) (P : Type 0) → P → OnErr r P
on_err (Ok y) P p = tt
on_err (Err y) P p = p

module _ {T A : Type 0} {R : T → T → Ordering} where
  pub rising_first : (xs : List T) (vs : List (Vec T A)) → IsOrdered R xs vs → Rising R xs
  rising_first xs vs a = (rising_parts R xs (joined vs) a.rising).0

  pub rising_rest : (xs : List T) (vs : List (Vec T A)) → IsOrdered R xs vs → Rising R (joined vs)
  rising_rest xs vs a = (rising_parts R xs (joined vs) a.rising).1

  pub rising_piece : (xs : List T) (vs : List (Vec T A)) → IsOrdered R xs vs → (j : ℕ) (v : Vec T A) → j < length vs → v ≡ get_or vs j v
      → Rising R v.items
  rising_piece xs vs a j v h e =
      (rising_parts R v.items (joined (drop (suc j) vs))
      (rising_parts R (joined (take j vs)) (v.items ++ joined (drop (suc j) vs)) (subst (λ l. Rising R l) (parted vs j v h e) (rising_rest xs vs a))).1).0

  pub ordered_same : (xs ys : List T) (vs ws : List (Vec T A)) → IsOrdered R xs vs → all_in ys ws ≡ all_in xs vs → AllFull ws → IsOrdered R ys ws
  ordered_same xs ys vs ws a e f = record { rising = subst (λ l. Rising R l) (sym e) a.rising; full = f }

  pub ordered_put : {E F : Type 0} (r : Result E F) (xs ys : List T) (vs ws : List (Vec T A)) (x : T) → Exact R → IsOrdered R xs vs
      → OnOk r (all_in ys ws ≡ place R x (all_in xs vs)) → OnErr r (all_in ys ws ≡ all_in xs vs) → AllFull ws → IsOrdered R ys ws
  ordered_put (Ok y) xs ys vs ws x o a placed same f = record { rising = subst (λ l. Rising R l) (sym placed) (Rising-place o x (all_in xs vs) a.rising); full = f }
  ordered_put (Err y) xs ys vs ws x o a placed same f = ordered_same xs ys vs ws a same f

  pub ordered_but : (xs ys : List T) (vs ws : List (Vec T A)) (x : T) → Exact R → IsOrdered R xs vs
      → all_in ys ws ≡ filter (λ y. not (is_eq (R x y))) (all_in xs vs) → AllFull ws → IsOrdered R ys ws
  ordered_but xs ys vs ws x o a e f = record {
    rising = subst (λ l. Rising R l) (sym e) (Rising-filter o (λ y. not (is_eq (R x y))) (all_in xs vs) a.rising);
    full = f;
  }

module _ {T A : Type 0} {R : T → T → Ordering} (o : Exact R) (q : T) (F : List T → List T) (local : IsLocal o q F) where
  pub cut_first : (xs ys : List T) (vs : List (Vec T A)) (n : ℕ) → IsCut R q vs n → n ≡ 0 → ys ≡ F xs → all_in ys vs ≡ F (all_in xs vs)
  cut_first xs ys vs n c e same = in_first o q F local xs ys vs (subst (λ m. AllAbove R q (joined (drop m vs))) e c.above) same

  pub cut_more : (xs : List T) (vs : List (Vec T A)) (n j : ℕ) (v w : Vec T A) → IsOrdered R xs vs → IsCut R q vs n → n ≡ suc j
      → v ≡ get_or vs j v → w.items ≡ F v.items → all_in xs (slice_set vs j w) ≡ F (all_in xs vs)
  cut_more xs vs n j v w a c e is same = let le = c.within in
      in_more o q F local xs vs j v w (omega (arith, le, e)) is (c.below xs j a.rising e)
      (subst (λ m. AllAbove R q (joined (drop m vs))) e c.above) same

module _ {T A : Type 0} {R : T → T → Ordering} (o : Exact R) (q : T) where
  -- the elements that aren't below it, from the piece under a number on
  pub upward_first : (xs : List T) (vs : List (Vec T A)) (n at : ℕ) → IsCut R q vs n → n ≡ 0 → drop at xs ≡ upward o q xs
      → from xs vs 0 at ≡ upward o q (all_in xs vs)
  upward_first xs vs n at c e same =
      ap (λ l. l ++ joined vs) same ∙ upward_in o q [] xs (joined vs) tt (subst (λ m. AllAbove R q (joined (drop m vs))) e c.above)

  from_more : (xs : List T) (vs : List (Vec T A)) (j at : ℕ) (v : Vec T A) → j < length vs → v ≡ get_or vs j v
      → from xs vs (suc j) at ≡ drop at v.items ++ joined (drop (suc j) vs)
  from_more xs [] j at v h e = absurd (omega (arith, h))
  from_more xs (w ∷ ws) zero at v h e = ap (λ u. drop at u.items ++ joined ws) (sym e)
  from_more xs (w ∷ ws) (suc j) at v h e = from_more w.items ws j at v (omega (arith, h)) e

  pub upward_more : (xs : List T) (vs : List (Vec T A)) (n j at : ℕ) (v : Vec T A) → IsOrdered R xs vs → IsCut R q vs n → n ≡ suc j
      → v ≡ get_or vs j v → drop at v.items ≡ upward o q v.items → from xs vs n at ≡ upward o q (all_in xs vs)
  upward_more xs vs n j at v a c e is same = let le = c.within in
      ap (λ m. from xs vs m at) e ∙ from_more xs vs j at v (omega (arith, le, e)) is
      ∙ ap (λ l. l ++ joined (drop (suc j) vs)) same
      ∙ upward_in o q (xs ++ joined (take j vs)) v.items (joined (drop (suc j) vs)) (c.below xs j a.rising e)
      (subst (λ m. AllAbove R q (joined (drop m vs))) e c.above)
      ∙ ap (upward o q) (append_assoc xs (joined (take j vs)) (v.items ++ joined (drop (suc j) vs))
      ∙ ap (λ l. xs ++ l) (sym (parted vs j v (omega (arith, le, e)) is)))

-- ---- two pieces become one

module _ {T A : Type 0} where
  pub one_piece : (vs : List (Vec T A)) (j : ℕ) (d f u w : Vec T A) → suc j < length vs → w.items ≡ (get_or vs j d).items ++ (get_or vs (suc j) f).items
      → joined (slice_set (remove (slice_set vs j u) (suc j)) j w) ≡ joined vs
  one_piece [] j d f u w h e = absurd (omega (arith, h))
  one_piece (v ∷ []) j d f u w h e = absurd (omega (arith, h))
  one_piece (v ∷ x ∷ vs) zero d f u w h e = ap (λ l. l ++ joined vs) e ∙ append_assoc v.items x.items (joined vs)
  one_piece (v ∷ x ∷ vs) (suc j) d f u w h e = ap (λ l. v.items ++ l) (one_piece (x ∷ vs) j d f u w (omega (arith, h)) e)

  pub full_one : (vs : List (Vec T A)) (j : ℕ) (u w : Vec T A) → AllFull vs → is_full w.items ≡ true
      → AllFull (slice_set (remove (slice_set vs j u) (suc j)) j w)
  full_one [] zero u w a f = tt
  full_one [] (suc j) u w a f = tt
  full_one (v ∷ []) zero u w a f = (f, tt)
  full_one (v ∷ x ∷ vs) zero u w a f = (f, a.1.1)
  full_one (v ∷ []) (suc zero) u w a f = (a.0, tt)
  full_one (v ∷ []) (suc (suc j)) u w a f = (a.0, tt)
  full_one (v ∷ x ∷ vs) (suc j) u w a f = (a.0, full_one (x ∷ vs) j u w a.1 f)

  -- what stands where one has gone behind it
  pub one_before : (vs : List (Vec T A)) (j : ℕ) (u d : Vec T A) → suc j < length vs → get_or (remove (slice_set vs j u) (suc j)) j d ≡ u
  one_before [] j u d h = absurd (omega (arith, h))
  one_before (v ∷ vs) zero u d h = refl
  one_before (v ∷ vs) (suc j) u d h = one_before vs j u d (omega (arith, h))

  pub one_behind : (vs : List (Vec T A)) (j : ℕ) (u d : Vec T A) → get_or (slice_set vs j u) (suc j) d ≡ get_or vs (suc j) d
  one_behind [] zero u d = refl
  one_behind [] (suc j) u d = refl
  one_behind (v ∷ vs) zero u d = refl
  one_behind (v ∷ vs) (suc j) u d = one_behind vs j u d
