-- Lists joined, filtered and counted.
--     joins j xs ys        what j gives of each x and each y
--     total f xs           the sum of f over xs
use Rattle.std.specs.Prelude.{ℕ, ◌≡◌, ◌+◌, refl, Bool, true, false, cond, ◌&&◌, Option, Some, None, List, [], ◌∷◌, ◌++◌}
use Rattle.std.specs.List.{filter, flat_map}
use Rattle.std.proofs.Common.{ap, sym, ◌∙◌, arith}
use Rattle.std.proofs.lemmas.List.Elements.{filter-append}

abbrev pub some_of : {X : Type 0} → Option X → List X
some_of None = []
some_of (Some x) = x ∷ []

module _ {A B C : Type 0} (j : A → B → Option C) where
  abbrev pub with_each : List B → A → List C
  with_each ys x = flat_map (λ y. some_of (j x y)) ys

  abbrev pub joins : List A → List B → List C
  joins xs ys = flat_map (with_each ys) xs

module _ {A : Type 0} (P : A → Type 0) where
  abbrev pub Each : List A → Type 0
  Each [] = Unit {0}
  Each (x ∷ xs) = P x × Each xs

  pub Each-append : (xs ys : List A) → Each xs → Each ys → Each (xs ++ ys)
  Each-append [] ys a b = b
  Each-append (x ∷ xs) ys a b = (a.0, Each-append xs ys a.1 b)

  pub Each-filter : (p : A → Bool) (xs : List A) → Each xs → Each (filter p xs)
  Each-filter p [] a = tt
  Each-filter p (x ∷ xs) a = elim (p x) as (λ b. Each (cond b (x ∷ filter p xs) (filter p xs)))
      [ true ↦ (a.0, Each-filter p xs a.1) | false ↦ Each-filter p xs a.1 ]

pub Each-filter_passes : {A : Type 0} (P : A → Type 0) (p : A → Bool) (xs : List A) → Each P xs
    → Each (λ x. P x × (p x ≡ true)) (filter p xs)
Each-filter_passes P p [] a = tt
Each-filter_passes P p (x ∷ xs) a = at (p x) refl (Each-filter_passes P p xs a.1)
  where
    at : (b : Bool) → p x ≡ b → Each (λ x. P x × (p x ≡ true)) (filter p xs)
        → Each (λ x. P x × (p x ≡ true)) (cond b (x ∷ filter p xs) (filter p xs))
    at true e h = ((a.0, e), h)
    at false e h = h

pub Each-flat_map : {A C : Type 0} (P : A → Type 0) (Q : C → Type 0) (f : A → List C) → ((x : A) → P x → Each Q (f x)) → (xs : List A)
    → Each P xs → Each Q (flat_map f xs)
Each-flat_map P Q f h [] a = tt
Each-flat_map P Q f h (x ∷ xs) a = Each-append Q (f x) (flat_map f xs) (h x a.0) (Each-flat_map P Q f h xs a.1)

module _ {A C : Type 0} where
  pub filter-flat_map : (p : C → Bool) (f : A → List C) (xs : List A) → filter p (flat_map f xs) ≡ flat_map (λ x. filter p (f x)) xs
  filter-flat_map p f [] = refl
  filter-flat_map p f (x ∷ xs) = filter-append p (f x) (flat_map f xs) ∙ ap (λ l. filter p (f x) ++ l) (filter-flat_map p f xs)

  pub flat_map_same : (f g : A → List C) → ((x : A) → f x ≡ g x) → (xs : List A) → flat_map f xs ≡ flat_map g xs
  flat_map_same f g e [] = refl
  flat_map_same f g e (x ∷ xs) = λ i. e x i ++ flat_map_same f g e xs i

  -- what gives nothing may be left out, and the rest seen otherwise
  pub flat_map_cut : (P : A → Type 0) (q : A → Bool) (f g : A → List C) → ((x : A) → P x → q x ≡ false → f x ≡ [])
      → ((x : A) → P x → q x ≡ true → f x ≡ g x) → (xs : List A) → Each P xs → flat_map f xs ≡ flat_map g (filter q xs)
  flat_map_cut P q f g skips keeps [] a = refl
  flat_map_cut P q f g skips keeps (x ∷ xs) a = at (q x) refl (flat_map_cut P q f g skips keeps xs a.1)
    where
      at : (b : Bool) → q x ≡ b → flat_map f xs ≡ flat_map g (filter q xs)
          → f x ++ flat_map f xs ≡ flat_map g (cond b (x ∷ filter q xs) (filter q xs))
      at true e h = λ i. keeps x a.0 e i ++ h i
      at false e h = ap (λ l. l ++ flat_map f xs) (skips x a.0 e) ∙ h

  flat_map_none : (P : A → Type 0) (f : A → List C) → ((x : A) → P x → f x ≡ []) → (xs : List A) → Each P xs → flat_map f xs ≡ []
  flat_map_none P f e [] a = refl
  flat_map_none P f e (x ∷ xs) a = ap (λ l. l ++ flat_map f xs) (e x a.0) ∙ flat_map_none P f e xs a.1

module _ {A : Type 0} where
  filter_twice : (p q : A → Bool) (x : A) (b c : Bool) → p x ≡ b → q x ≡ c → (xs : List A) → filter p (filter q xs) ≡ filter q (filter p xs)
      → filter p (cond c (x ∷ filter q xs) (filter q xs)) ≡ filter q (cond b (x ∷ filter p xs) (filter p xs))
  filter_twice p q x true true e f xs h = ap (λ t. cond t (x ∷ filter p (filter q xs)) (filter p (filter q xs))) e ∙ ap (λ l. x ∷ l) h
      ∙ sym (ap (λ t. cond t (x ∷ filter q (filter p xs)) (filter q (filter p xs))) f)
  filter_twice p q x true false e f xs h = h ∙ sym (ap (λ t. cond t (x ∷ filter q (filter p xs)) (filter q (filter p xs))) f)
  filter_twice p q x false true e f xs h = ap (λ t. cond t (x ∷ filter p (filter q xs)) (filter p (filter q xs))) e ∙ h
  filter_twice p q x false false e f xs h = h

  pub filter-filter : (p q : A → Bool) (xs : List A) → filter p (filter q xs) ≡ filter q (filter p xs)
  filter-filter p q [] = refl
  filter-filter p q (x ∷ xs) = filter_twice p q x (p x) (q x) refl refl xs (filter-filter p q xs)

  -- tests that agree where t passes
  pub filter_agree_on : (p q t : A → Bool) → ((x : A) → t x ≡ true → p x ≡ q x) → (xs : List A)
      → filter p (filter t xs) ≡ filter q (filter t xs)
  filter_agree_on p q t h [] = refl
  filter_agree_on p q t h (x ∷ xs) = at (t x) refl (filter_agree_on p q t h xs)
    where
      at : (b : Bool) → t x ≡ b → filter p (filter t xs) ≡ filter q (filter t xs)
          → filter p (cond b (x ∷ filter t xs) (filter t xs)) ≡ filter q (cond b (x ∷ filter t xs) (filter t xs))
      at true e g = λ i. cond (h x e i) (x ∷ g i) (g i)
      at false e g = g

  abbrev pub total : (A → ℕ) → List A → ℕ
  total f [] = 0
  total f (x ∷ xs) = f x + total f xs

  pub total-append : (f : A → ℕ) (xs ys : List A) → total f (xs ++ ys) ≡ total f xs + total f ys
  total-append f [] ys = omega arith
  total-append f (x ∷ xs) ys = omega (arith, total-append f xs ys)

  pub total_of_sum : (f g : A → ℕ) (xs : List A) → total (λ x. f x + g x) xs ≡ total f xs + total g xs
  total_of_sum f g [] = omega arith
  total_of_sum f g (x ∷ xs) = omega (arith, total_of_sum f g xs)

  pub total_same : (f g : A → ℕ) → ((x : A) → f x ≡ g x) → (xs : List A) → total f xs ≡ total g xs
  total_same f g e [] = refl
  total_same f g e (x ∷ xs) = omega (arith, e x, total_same f g e xs)

  pub total-filter : (f : A → ℕ) (p : A → Bool) (xs : List A) → total f (filter p xs) ≡ total (λ x. cond (p x) (f x) 0) xs
  total-filter f p [] = refl
  total-filter f p (x ∷ xs) =
      elim (p x) as (λ b. total f (cond b (x ∷ filter p xs) (filter p xs)) ≡ cond b (f x) 0 + total (λ x. cond (p x) (f x) 0) xs)
      [ true ↦ omega (arith, total-filter f p xs) | false ↦ omega (arith, total-filter f p xs) ]

pub total-flat_map : {A C : Type 0} (f : C → ℕ) (g : A → List C) (xs : List A) → total f (flat_map g xs) ≡ total (λ x. total f (g x)) xs
total-flat_map f g [] = refl
total-flat_map f g (x ∷ xs) = omega (arith, total-append f (g x) (flat_map g xs), total-flat_map f g xs)

module _ {A B C : Type 0} (j : A → B → Option C) where
  -- the sum over what is joined, as a sum over pairs
  pub total-joins : (f : C → ℕ) (xs : List A) (ys : List B)
      → total f (joins j xs ys) ≡ total (λ x. total (λ y. total f (some_of (j x y))) ys) xs
  total-joins f xs ys = total-flat_map f (with_each j ys) xs ∙ total_same _ _ (λ x. total-flat_map f (λ y. some_of (j x y)) ys) xs

  module _ (P : A → Type 0) (Q : B → Type 0) (p : C → Bool) (q : A → Bool) (r : B → Bool) where
    -- what is joined passes exactly where both sides do
    pub joins-cut : ((x : A) (y : B) → P x → Q y → filter p (some_of (j x y)) ≡ cond (q x && r y) (some_of (j x y)) [])
        → (xs : List A) (ys : List B) → Each P xs → Each Q ys → filter p (joins j xs ys) ≡ joins j (filter q xs) (filter r ys)
    joins-cut hull xs ys a b =
        filter-flat_map p (with_each j ys) xs
        ∙ flat_map_cut P q (λ x. filter p (with_each j ys x)) (with_each j (filter r ys))
        (λ x h e. filter-flat_map p (λ y. some_of (j x y)) ys
        ∙ flat_map_none Q _ (λ y g. hull x y h g ∙ ap (λ t. cond (t && r y) (some_of (j x y)) []) e) ys b)
        (λ x h e. filter-flat_map p (λ y. some_of (j x y)) ys
        ∙ flat_map_cut Q r _ (λ y. some_of (j x y)) (λ y g d. hull x y h g ∙ ap (λ t. cond (t && r y) (some_of (j x y)) []) e
        ∙ ap (λ t. cond t (some_of (j x y)) []) d)
        (λ y g d. hull x y h g ∙ ap (λ t. cond (t && r y) (some_of (j x y)) []) e ∙ ap (λ t. cond t (some_of (j x y)) []) d) ys b)
        xs a

    -- what a pair gives doesn't pass where a side doesn't
    pub joins-filter : ((x : A) (y : B) → P x → Q y → q x ≡ false → filter p (some_of (j x y)) ≡ [])
        → ((x : A) (y : B) → P x → Q y → r y ≡ false → filter p (some_of (j x y)) ≡ [])
        → (xs : List A) (ys : List B) → Each P xs → Each Q ys → filter p (joins j xs ys) ≡ filter p (joins j (filter q xs) (filter r ys))
    joins-filter left right xs ys a b =
        filter-flat_map p (with_each j ys) xs
        ∙ flat_map_cut P q (λ x. filter p (with_each j ys x)) (λ x. filter p (with_each j (filter r ys) x))
        (λ x h e. filter-flat_map p (λ y. some_of (j x y)) ys ∙ flat_map_none Q _ (λ y g. left x y h g e) ys b)
        (λ x h e. filter-flat_map p (λ y. some_of (j x y)) ys ∙ flat_map_cut Q r _ _ (λ y g d. right x y h g d) (λ y g d. refl) ys b
        ∙ sym (filter-flat_map p (λ y. some_of (j x y)) (filter r ys)))
        xs a
        ∙ sym (filter-flat_map p (with_each j (filter r ys)) (filter q xs))

-- What is there after and what went is what was before and what came, each as often.
abbrev pub Balanced : {A : Type 0} → (before after came went : List A) → Type 0
Balanced {A} before after came went = (f : A → ℕ) → total f after + total f went ≡ total f before + total f came

module _ {A B C : Type 0} (j : A → B → Option C) where
  -- The joins of a left change with the right side after, and of the left side before with a right change, are the change of the joins.
  pub Balanced-joins : (lb la lc lw : List A) (rb ra rc rw : List B) → Balanced lb la lc lw → Balanced rb ra rc rw
      → Balanced (joins j lb rb) (joins j la ra) (joins j lc ra ++ joins j lb rc) (joins j lw ra ++ joins j lb rw)
  Balanced-joins lb la lc lw rb ra rc rw left right f =
      let h = λ (x : A) (y : B). total f (some_of (j x y)) in
      let l : total (λ x. total (h x) ra) la + total (λ x. total (h x) ra) lw
      ≡ total (λ x. total (h x) ra) lb + total (λ x. total (h x) ra) lc = left (λ x. total (h x) ra) in
      let r : total (λ x. total (h x) ra) lb + total (λ x. total (h x) rw) lb
      ≡ total (λ x. total (h x) rb) lb + total (λ x. total (h x) rc) lb =
      sym (total_of_sum (λ x. total (h x) ra) (λ x. total (h x) rw) lb) ∙ total_same _ _ (λ x. right (h x)) lb
      ∙ total_of_sum (λ x. total (h x) rb) (λ x. total (h x) rc) lb in
      omega (
        arith,
        total-append f (joins j lc ra) (joins j lb rc),
        total-append f (joins j lw ra) (joins j lb rw),
        total-joins j f la ra,
        total-joins j f lb rb,
        total-joins j f lc ra,
        total-joins j f lw ra,
        total-joins j f lb rc,
        total-joins j f lb rw,
      )
