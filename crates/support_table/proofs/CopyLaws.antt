-- Numbers of elements, and how many elements have one, after an element or several came or went.
use Rattle.std.proofs.Common.{Some, is_some, map, ◌≡◌, ℕ, ◌+◌, ◌-◌, ◌<◌, suc, Bool, true, false, not, cond, List, [], ◌∷◌, ◌++◌, length, refl, sym, ap, ◌∙◌, arith}
use Rattle.std.specs.Prelude.{◌||◌, ◌&&◌, nat_lt}
use Rattle.std.specs.List.{filter}
use Rattle.std.specs.Map.{lookup}
use Rattle.std.specs.BTreeMap.{is_at}
use Rattle.std.specs.Cmp.{tied_itself}
use Rattle.std.specs.Ordering.{is_eq, ordering_reverse}
use Rattle.std.specs.declared.cmp.Ordering.{Ordering}
use Rattle.std.specs.declared.cmp.Ordering.TheVariants.{Less, Equal, Greater}
use Rattle.std.proofs.lemmas.Bool.{true≢false}
use Rattle.std.proofs.lemmas.Bool.Decides.{nat_tests}
use Rattle.ordered_lists.specs.Canon.{canon, place, placed, has, Rising, Exact, AllAbove, canon_one, canon_itself, Rising-place, Rising-canon, Rising-filter, has-place, has-canon, has-append, has-filter}

reversed : (c : Ordering) → is_eq (ordering_reverse c) ≡ is_eq c
reversed Less = refl
reversed Equal = refl
reversed Greater = refl

or_true : (b c : Bool) → c ≡ true → (b || c) ≡ true
or_true true c e = refl
or_true false c e = e

below_some : (n : ℕ) → 0 < n → nat_lt 0 n ≡ true
below_some n h = grind (arith, nat_tests)

module _ {K : Type 0} {R : K → K → Ordering} (o : Exact R) where
  pub ties_back : (x y : K) → is_eq (R x y) ≡ is_eq (R y x)
  ties_back x y = ap is_eq (o.total.antisymm x y) ∙ reversed (R y x)

  pub ties : (x y : K) → is_eq (R x y) ≡ true → x ≡ y
  ties x y e = at (R x y) refl e
    where
      at : (c : Ordering) → R x y ≡ c → is_eq c ≡ true → x ≡ y
      at Less p e = absurd (true≢false (sym e))
      at Equal p e = o.same x y p
      at Greater p e = absurd (true≢false (sym e))

  -- an element that isn't there makes the list longer by one
  length_place : (k : K) (xs : List K) → has R k xs ≡ false → length (place R k xs) ≡ suc (length xs)
  length_place k [] h = refl
  length_place k (x ∷ xs) h = at (R k x) h (length_place k xs)
    where
      at : (c : Ordering) → (is_eq c || has R k xs) ≡ false → (has R k xs ≡ false → length (place R k xs) ≡ suc (length xs))
          → length (placed R c k x xs (place R k xs)) ≡ suc (length (x ∷ xs))
      at Less h rest = refl
      at Equal h rest = absurd (true≢false h)
      at Greater h rest = ap suc (rest h)

  not_below : (k : K) (xs : List K) → AllAbove R k xs → has R k xs ≡ false
  not_below k [] a = refl
  not_below k (x ∷ xs) a = ap (λ c. is_eq c || has R k xs) a.0 ∙ not_below k xs a.1

  length_all : (ks es : List K) → Rising R ks → Rising R es → ((k : K) → has R k ks ≡ true → has R k es ≡ false)
      → length (canon R (ks ++ es)) ≡ length ks + length es
  length_all [] es a b apart = let e : length (canon R es) ≡ length es = ap length (canon_itself o es b) in omega (arith, e)
  length_all (k ∷ ks) es a b apart =
      let one = length_place k (canon R (ks ++ es)) (has-canon o k (ks ++ es) ∙ has-append o k ks es ∙ none) in
      omega (arith, one, length_all ks es a.1 b (λ q h. apart q (more q h)))
    where
      none : (has R k ks || has R k es) ≡ false
      none = ap (λ b. b || has R k es) (not_below k ks a.0) ∙ apart k (ap (λ c. is_eq c || has R k ks) (tied_itself o.total k))

      more : (q : K) → has R q ks ≡ true → has R q (k ∷ ks) ≡ true
      more q h = or_true (is_eq (R q k)) (has R q ks) h

  -- so many elements have a number above 0
  abbrev pub Counted : ℕ → (K → ℕ) → Type 0
  Counted n number = (es : List K) → Rising R es → ((e : K) → has R e es ≡ nat_lt 0 (number e)) → n ≡ length es

  -- the numbers g are the numbers f, but for that of one element
  abbrev pub PutsNumber : K → ℕ → (K → ℕ) → (K → ℕ) → Type 0
  PutsNumber k v f g = (e : K) → g e ≡ cond (is_eq (R k e)) v (f e)

  module _ (n : ℕ) (f g : K → ℕ) (counted : Counted n f) where
    pub counted_same : ((e : K) → nat_lt 0 (g e) ≡ nat_lt 0 (f e)) → Counted n g
    counted_same same es rises is = counted es rises (λ e. is e ∙ same e)

    -- several that had a number have none
    pub counted_cut : (ks : List K) → Rising R ks → ((e : K) → nat_lt 0 (f e) ≡ (has R e ks || nat_lt 0 (g e)))
        → ((e : K) → has R e ks ≡ true → nat_lt 0 (g e) ≡ false) → Counted (n - length ks) g
    counted_cut ks order parts gone es rises is =
        let all : n ≡ length (canon R (ks ++ es)) = counted (canon R (ks ++ es)) (Rising-canon o (ks ++ es)) (λ e. has-canon o e (ks ++ es)
        ∙ has-append o e ks es ∙ ap (λ b. has R e ks || b) (is e) ∙ sym (parts e)) in
        omega (arith, all, length_all ks es order rises (λ e h. is e ∙ gone e h))

    module _ (k : K) (v : ℕ) (puts : PutsNumber k v f g) where
      here : (e : K) → is_eq (R k e) ≡ true → (g e ≡ v) × (f e ≡ f k)
      here e t = (puts e ∙ ap (λ b. cond b v (f e)) t, ap f (sym (ties k e t)))

      there : (e : K) → is_eq (R k e) ≡ false → g e ≡ f e
      there e t = puts e ∙ ap (λ b. cond b v (f e)) t

      -- one that had none has one
      pub counted_more : f k ≡ 0 → 0 < v → Counted (n + 1) g
      counted_more none some es rises is =
          let others = filter (λ e. not (is_eq (R k e))) es in
          let old : n ≡ length others = counted others (Rising-filter o (λ e. not (is_eq (R k e))) es rises)
          (λ e. has-filter o (λ e. not (is_eq (R k e))) e es ∙ ap (λ b. not (is_eq (R k e)) && b) (is e) ∙ was e (is_eq (R k e)) refl) in
          let same : es ≡ place R k others = canon_one o es (place R k others) rises
          (Rising-place o k others (Rising-filter o (λ e. not (is_eq (R k e))) es rises))
          (λ e. is e ∙ now e (is_eq (R k e)) refl ∙ ap (λ b. b || nat_lt 0 (f e)) (ties_back k e)
          ∙ ap (λ b. is_eq (R e k) || b) (sym (has-filter o (λ e. not (is_eq (R k e))) e es
          ∙ ap (λ b. not (is_eq (R k e)) && b) (is e) ∙ was e (is_eq (R k e)) refl)) ∙ sym (has-place o e k others)) in
          let away : has R k others ≡ false = has-filter o (λ e. not (is_eq (R k e))) k es
          ∙ ap (λ c. not (is_eq c) && has R k es) (tied_itself o.total k) in
          omega (arith, old, ap length same, length_place k others away)
        where
          was : (e : K) (b : Bool) → is_eq (R k e) ≡ b → (not b && nat_lt 0 (g e)) ≡ nat_lt 0 (f e)
          was e true t = sym (ap (nat_lt 0) ((here e t).1 ∙ none))
          was e false t = ap (nat_lt 0) (there e t)

          now : (e : K) (b : Bool) → is_eq (R k e) ≡ b → nat_lt 0 (g e) ≡ (b || nat_lt 0 (f e))
          now e true t = ap (nat_lt 0) (here e t).0 ∙ below_some v some
          now e false t = ap (nat_lt 0) (there e t)

      -- one that had one has none
      pub counted_less : v ≡ 0 → 0 < f k → Counted (n - 1) g
      counted_less none some es rises is =
          let old : n ≡ length (place R k es) = counted (place R k es) (Rising-place o k es rises)
          (λ e. has-place o e k es ∙ ap (λ b. b || has R e es) (ties_back e k) ∙ ap (λ b. is_eq (R k e) || b) (is e) ∙ was e (is_eq (R k e)) refl) in
          let away : has R k es ≡ false = is k ∙ ap (nat_lt 0) ((here k (ap is_eq (tied_itself o.total k))).0 ∙ none) in
          omega (arith, old, length_place k es away)
        where
          was : (e : K) (b : Bool) → is_eq (R k e) ≡ b → (b || nat_lt 0 (g e)) ≡ nat_lt 0 (f e)
          was e true t = sym (ap (nat_lt 0) (here e t).1 ∙ below_some (f k) some)
          was e false t = ap (nat_lt 0) (there e t)

      -- one has some where it had some
      pub counted_still : nat_lt 0 v ≡ nat_lt 0 (f k) → Counted n g
      counted_still still = counted_same (λ e. at e (is_eq (R k e)) refl)
        where
          at : (e : K) (b : Bool) → is_eq (R k e) ≡ b → nat_lt 0 (g e) ≡ nat_lt 0 (f e)
          at e true t = ap (nat_lt 0) (here e t).0 ∙ still ∙ sym (ap (nat_lt 0) (here e t).1)
          at e false t = ap (nat_lt 0) (there e t)

      -- one that had some has some
      pub counted_kept : 0 < f k → 0 < v → Counted n g
      counted_kept some more = counted_still (below_some v more ∙ sym (below_some (f k) some))

      -- one that had none has none
      pub counted_absent : f k ≡ 0 → v ≡ 0 → Counted n g
      counted_absent none still = counted_still (ap (nat_lt 0) (still ∙ sym none))

  -- where no element has a number, there are none
  pub counted_none : (f : K → ℕ) → ((e : K) → f e ≡ 0) → Counted 0 f
  counted_none f none [] rises is = refl
  counted_none f none (x ∷ xs) rises is =
      absurd (true≢false (sym (ap (λ c. is_eq c || has R x xs) (tied_itself o.total x)) ∙ is x ∙ ap (nat_lt 0) (none x)))

  module _ {V : Type 0} where
    -- the keys of a map are those at which it has a value
    pub has-keys : (q : K) (es : List (K × V)) → has R q (map (λ e. e.0) es) ≡ is_some (lookup (is_at (R q)) es)
    has-keys q [] = refl
    has-keys q (e ∷ es) = at (is_eq (R q e.0)) (has-keys q es)
      where
        at : (b : Bool) → has R q (map (λ e. e.0) es) ≡ is_some (lookup (is_at (R q)) es)
            → (b || has R q (map (λ e. e.0) es)) ≡ is_some (cond b (Some e.1) (lookup (is_at (R q)) es))
        at true h = refl
        at false h = h
