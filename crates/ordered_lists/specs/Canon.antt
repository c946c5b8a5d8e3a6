-- Lists in a total order, with each element once.
--     canon R xs      the elements of xs, in order and each once
--     has R q xs      whether q is an element
use Rattle.std.specs.Prelude.{◌≡◌, refl, Bool, true, false, cond, ◌||◌, ◌&&◌, List, [], ◌∷◌, ◌++◌}
use Rattle.std.specs.List.{filter, list_any}
use Rattle.std.specs.Ordering.{is_eq, ordering_reverse}
use Rattle.std.specs.Cmp.{IsTotalOrder, tied_itself}
use Rattle.std.specs.declared.cmp.Ordering.{Ordering}
use Rattle.std.specs.declared.cmp.Ordering.TheVariants.{Less, Equal, Greater}
use Rattle.std.proofs.Common.{ap, sym, ◌∙◌, subst}
use Rattle.std.proofs.Math.Bool.{and-false, or_assoc, or_self_left}
use Rattle.std.proofs.lemmas.Bool.{true≢false}
use Rattle.ordered_lists.specs.Lists.{Each}

module _ {K : Type 0} (R : K → K → Ordering) where
  abbrev pub placed : Ordering → K → K → List K → List K → List K
  placed Less r x xs rest = r ∷ (x ∷ xs)
  placed Equal r x xs rest = x ∷ xs
  placed Greater r x xs rest = x ∷ rest

  abbrev pub place : K → List K → List K
  place r [] = r ∷ []
  place r (x ∷ xs) = placed (R r x) r x xs (place r xs)

  abbrev pub canon : List K → List K
  canon [] = []
  canon (x ∷ xs) = place x (canon xs)

  abbrev pub has : K → List K → Bool
  has q xs = list_any (λ x. is_eq (R q x)) xs

  abbrev pub AllAbove : K → List K → Type 0
  AllAbove x [] = Unit {0}
  AllAbove x (y ∷ ys) = (R x y ≡ Less) × AllAbove x ys

  abbrev pub Rising : List K → Type 0
  Rising [] = Unit {0}
  Rising (x ∷ xs) = AllAbove x xs × Rising xs

  -- the order tells different elements apart
  pub record Exact : Type 0 where
    pub total : IsTotalOrder R
    pub same : (x y : K) → R x y ≡ Equal → x ≡ y

module _ {K : Type 0} (R : K → K → Ordering) (P : K → Type 0) where
  Each-place : (r : K) (xs : List K) → P r → Each P xs → Each P (place R r xs)
  Each-place r [] h a = (h, tt)
  Each-place r (x ∷ xs) h a = elim (R r x) as (λ c. Each P (placed R c r x xs (place R r xs)))
      [ Less ↦ (h, a) | Equal ↦ a | Greater ↦ (a.0, Each-place r xs h a.1) ]

  pub Each-canon : (xs : List K) → Each P xs → Each P (canon R xs)
  Each-canon [] a = tt
  Each-canon (x ∷ xs) a = Each-place x (canon R xs) a.0 (Each-canon xs a.1)

pub or_swap : (a b c : Bool) → (a || (b || c)) ≡ (b || (a || c))
or_swap true true c = refl
or_swap true false c = refl
or_swap false b c = refl

module _ {K : Type 0} {R : K → K → Ordering} (o : Exact R) where
  above_more : (x y : K) → R x y ≡ Less → (ys : List K) → AllAbove R y ys → AllAbove R x ys
  above_more x y e [] a = tt
  above_more x y e (z ∷ zs) a = (o.total.trans x y z e a.0, above_more x y e zs a.1)

  after : (x y : K) → R y x ≡ Greater → R x y ≡ Less
  after x y e = o.total.antisymm x y ∙ ap ordering_reverse e

  AllAbove-place : (x r : K) → R x r ≡ Less → (xs : List K) → AllAbove R x xs → AllAbove R x (place R r xs)
  AllAbove-place x r e [] a = (e, tt)
  AllAbove-place x r e (y ∷ ys) a = at (R r y) (AllAbove-place x r e ys a.1)
    where
      at : (c : Ordering) → AllAbove R x (place R r ys) → AllAbove R x (placed R c r y ys (place R r ys))
      at Less h = (e, a)
      at Equal h = a
      at Greater h = (a.0, h)

  pub Rising-place : (r : K) (xs : List K) → Rising R xs → Rising R (place R r xs)
  Rising-place r [] h = (tt, tt)
  Rising-place r (y ∷ ys) h = at (R r y) refl (Rising-place r ys h.1)
    where
      at : (c : Ordering) → R r y ≡ c → Rising R (place R r ys) → Rising R (placed R c r y ys (place R r ys))
      at Less e g = ((e, above_more r y e ys h.0), h)
      at Equal e g = h
      at Greater e g = (AllAbove-place y r (after y r e) ys h.0, g)

  pub Rising-canon : (xs : List K) → Rising R (canon R xs)
  Rising-canon [] = tt
  Rising-canon (x ∷ xs) = Rising-place x (canon R xs) (Rising-canon xs)

  pub has-place : (q r : K) (xs : List K) → has R q (place R r xs) ≡ (is_eq (R q r) || has R q xs)
  has-place q r [] = refl
  has-place q r (y ∷ ys) = at (R r y) refl (has-place q r ys)
    where
      at : (c : Ordering) → R r y ≡ c → has R q (place R r ys) ≡ (is_eq (R q r) || has R q ys)
          → has R q (placed R c r y ys (place R r ys)) ≡ (is_eq (R q r) || has R q (y ∷ ys))
      at Less e h = refl
      at Equal e h = sym (ap (λ z. is_eq (R q z) || (is_eq (R q y) || has R q ys)) (o.same r y e)
          ∙ or_self_left (is_eq (R q y)) (has R q ys))
      at Greater e h = ap (λ b. is_eq (R q y) || b) h ∙ or_swap (is_eq (R q y)) (is_eq (R q r)) (has R q ys)

  pub has-canon : (q : K) (xs : List K) → has R q (canon R xs) ≡ has R q xs
  has-canon q [] = refl
  has-canon q (x ∷ xs) = has-place q x (canon R xs) ∙ ap (λ b. is_eq (R q x) || b) (has-canon q xs)

  -- below all of them, it is none of them
  not_below : (q : K) (xs : List K) → AllAbove R q xs → has R q xs ≡ false
  not_below q [] a = refl
  not_below q (x ∷ xs) a = ap (λ c. is_eq c || has R q xs) a.0 ∙ not_below q xs a.1

  first_is : (x : K) (xs : List K) → has R x (x ∷ xs) ≡ true
  first_is x xs = ap (λ c. is_eq c || has R x xs) (tied_itself o.total x)

  tails : (x : K) (xs ys : List K) → AllAbove R x xs → AllAbove R x ys → ((q : K) → has R q (x ∷ xs) ≡ has R q (x ∷ ys)) → (q : K)
      → has R q xs ≡ has R q ys
  tails x xs ys a b h q = at (R q x) refl (h q)
    where
      at : (c : Ordering) → R q x ≡ c → (is_eq c || has R q xs) ≡ (is_eq c || has R q ys) → has R q xs ≡ has R q ys
      at Less e g = g
      at Equal e g = subst (λ z. has R z xs ≡ has R z ys) (sym (o.same q x e)) (not_below x xs a ∙ sym (not_below x ys b))
      at Greater e g = g

  -- one list for each set
  pub canon_one : (xs ys : List K) → Rising R xs → Rising R ys → ((q : K) → has R q xs ≡ has R q ys) → xs ≡ ys
  canon_one [] [] a b h = refl
  canon_one [] (y ∷ ys) a b h = absurd (true≢false (sym (first_is y ys) ∙ sym (h y)))
  canon_one (x ∷ xs) [] a b h = absurd (true≢false (sym (first_is x xs) ∙ h x))
  canon_one (x ∷ xs) (y ∷ ys) a b h = at (R x y) refl (canon_one xs ys a.1 b.1)
    where
      at : (c : Ordering) → R x y ≡ c → (((q : K) → has R q xs ≡ has R q ys) → xs ≡ ys) → x ∷ xs ≡ y ∷ ys
      at Less e rest = absurd (true≢false (sym (first_is x xs) ∙ h x ∙ not_below x (y ∷ ys) (e, above_more x y e ys b.0)))
      at Greater e rest = absurd
          (true≢false (sym (first_is y ys) ∙ sym (h y) ∙ not_below y (x ∷ xs) (after y x e, above_more y x (after y x e) xs a.0)))
      at Equal e rest = let s = o.same x y e in
          λ i. s i ∷ rest (tails x xs ys a.0 (subst (λ z. AllAbove R z ys) (sym s) b.0) (λ q. h q
          ∙ ap (λ z. is_eq (R q z) || has R q ys) (sym s))) i

  pub canon_same : (xs ys : List K) → ((q : K) → has R q xs ≡ has R q ys) → canon R xs ≡ canon R ys
  canon_same xs ys h = canon_one (canon R xs) (canon R ys) (Rising-canon xs) (Rising-canon ys) (λ q. has-canon q xs ∙ h q
      ∙ sym (has-canon q ys))

  pub canon_itself : (xs : List K) → Rising R xs → canon R xs ≡ xs
  canon_itself xs a = canon_one (canon R xs) xs (Rising-canon xs) a (λ q. has-canon q xs)

  pub has-append : (q : K) (xs ys : List K) → has R q (xs ++ ys) ≡ (has R q xs || has R q ys)
  has-append q [] ys = refl
  has-append q (x ∷ xs) ys = ap (λ b. is_eq (R q x) || b) (has-append q xs ys) ∙ sym (or_assoc (is_eq (R q x)) (has R q xs) (has R q ys))

  AllAbove-filter : (p : K → Bool) (x : K) (xs : List K) → AllAbove R x xs → AllAbove R x (filter p xs)
  AllAbove-filter p x [] a = tt
  AllAbove-filter p x (y ∷ ys) a = elim (p y) as (λ b. AllAbove R x (cond b (y ∷ filter p ys) (filter p ys)))
      [ true ↦ (a.0, AllAbove-filter p x ys a.1) | false ↦ AllAbove-filter p x ys a.1 ]

  pub Rising-filter : (p : K → Bool) (xs : List K) → Rising R xs → Rising R (filter p xs)
  Rising-filter p [] a = tt
  Rising-filter p (x ∷ xs) a = elim (p x) as (λ b. Rising R (cond b (x ∷ filter p xs) (filter p xs)))
      [ true ↦ (AllAbove-filter p x xs a.0, Rising-filter p xs a.1) | false ↦ Rising-filter p xs a.1 ]

  pub has-filter : (p : K → Bool) (q : K) (xs : List K) → has R q (filter p xs) ≡ (p q && has R q xs)
  has-filter p q [] = sym (and-false (p q))
  has-filter p q (x ∷ xs) = at (R q x) refl (p x) refl (p q) refl (has-filter p q xs)
    where
      at : (c : Ordering) → R q x ≡ c → (b : Bool) → p x ≡ b → (d : Bool) → p q ≡ d → has R q (filter p xs) ≡ (d && has R q xs)
          → has R q (cond b (x ∷ filter p xs) (filter p xs)) ≡ (d && (is_eq c || has R q xs))
      at Less e true pb d pd h = ap (λ z. is_eq z || has R q (filter p xs)) e ∙ h
      at Greater e true pb d pd h = ap (λ z. is_eq z || has R q (filter p xs)) e ∙ h
      at Less e false pb d pd h = h
      at Greater e false pb d pd h = h
      at Equal e true pb true pd h = ap (λ z. is_eq z || has R q (filter p xs)) e
      at Equal e true pb false pd h = absurd (true≢false (sym pb ∙ ap p (sym (o.same q x e)) ∙ pd))
      at Equal e false pb true pd h = absurd (true≢false (sym pd ∙ ap p (o.same q x e) ∙ pb))
      at Equal e false pb false pd h = h

  pub filter-canon : (p : K → Bool) (xs : List K) → filter p (canon R xs) ≡ canon R (filter p xs)
  filter-canon p xs = canon_one _ _ (Rising-filter p (canon R xs) (Rising-canon xs)) (Rising-canon (filter p xs))
      (λ q. has-filter p q (canon R xs) ∙ ap (λ b. p q && b) (has-canon q xs) ∙ sym (has-filter p q xs) ∙ sym (has-canon q (filter p xs)))
