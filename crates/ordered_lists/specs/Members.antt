-- A canonical list depends on the members of a list alone: so within it any part may be made canonical or not.
--     without R xs ys      the elements of xs that are not in ys
use Rattle.std.specs.Prelude.{◌≡◌, refl, Bool, true, false, cond, not, ◌||◌, ◌&&◌, Option, List, [], ◌∷◌, ◌++◌, map}
use Rattle.std.specs.List.{filter, list_any, flat_map}
use Rattle.std.specs.Ordering.{is_eq}
use Rattle.std.specs.declared.cmp.Ordering.{Ordering}
use Rattle.std.specs.declared.cmp.Ordering.TheVariants.{Less, Equal, Greater}
use Rattle.std.proofs.Common.{ap, sym, ◌∙◌, subst}
use Rattle.std.proofs.Math.Bool.{and_comm, or-false, or_comm, or_self_left}
use Rattle.std.proofs.lemmas.Bool.{true≢false}
use Rattle.std.proofs.lemmas.List.Folds.{list_any-append}
use Rattle.ordered_lists.specs.Lists.{some_of, with_each, joins, Each}
use Rattle.ordered_lists.specs.Canon.{or_swap, place, placed, canon, has, Rising, Exact, Rising-place, Rising-canon, has-place, has-canon, has-append, has-filter, canon_one, canon_same}

module _ {K : Type 0} (R : K → K → Ordering) where
  abbrev pub without : List K → List K → List K
  without xs ys = filter (λ x. not (has R x ys)) xs

or_turn : (a c : Bool) → (a || (c || false)) ≡ (c || a)
or_turn a c = ap (λ b. a || b) (or-false c) ∙ or_comm a c

-- tests that answer alike
pub list_any_agree : {A : Type 0} (p q : A → Bool) → ((x : A) → p x ≡ q x) → (xs : List A) → list_any p xs ≡ list_any q xs
list_any_agree p q h [] = refl
list_any_agree p q h (x ∷ xs) = λ i. h x i || list_any_agree p q h xs i

pub filter_agree : {A : Type 0} (p q : A → Bool) → ((x : A) → p x ≡ q x) → (xs : List A) → filter p xs ≡ filter q xs
filter_agree p q h [] = refl
filter_agree p q h (x ∷ xs) = λ i. cond (h x i) (x ∷ filter_agree p q h xs i) (filter_agree p q h xs i)

module _ {A C : Type 0} (p : C → Bool) where
  pub list_any-flat_map : (f : A → List C) (xs : List A) → list_any p (flat_map f xs) ≡ list_any (λ x. list_any p (f x)) xs
  list_any-flat_map f [] = refl
  list_any-flat_map f (x ∷ xs) = list_any-append p (f x) (flat_map f xs) ∙ ap (λ b. list_any p (f x) || b) (list_any-flat_map f xs)

  pub list_any-map : (f : A → C) (xs : List A) → list_any p (map f xs) ≡ list_any (λ x. p (f x)) xs
  list_any-map f [] = refl
  list_any-map f (x ∷ xs) = ap (λ b. p (f x) || b) (list_any-map f xs)

pub list_any-joins : {A B C : Type 0} (p : C → Bool) (j : A → B → Option C) (xs : List A) (ys : List B)
    → list_any p (joins j xs ys) ≡ list_any (λ x. list_any (λ y. list_any p (some_of (j x y))) ys) xs
list_any-joins p j xs ys =
    list_any-flat_map p (with_each j ys) xs
    ∙ list_any_agree (λ x. list_any p (with_each j ys x)) (λ x. list_any (λ y. list_any p (some_of (j x y))) ys)
    (λ x. list_any-flat_map p (λ y. some_of (j x y)) ys) xs

module _ {K : Type 0} {R : K → K → Ordering} (o : Exact R) where
  pub list_any-place : (p : K → Bool) (r : K) (xs : List K) → list_any p (place R r xs) ≡ (p r || list_any p xs)
  list_any-place p r [] = refl
  list_any-place p r (y ∷ ys) = at (R r y) refl (list_any-place p r ys)
    where
      at : (c : Ordering) → R r y ≡ c → list_any p (place R r ys) ≡ (p r || list_any p ys)
          → list_any p (placed R c r y ys (place R r ys)) ≡ (p r || list_any p (y ∷ ys))
      at Less e h = refl
      at Equal e h = sym (ap (λ z. p z || (p y || list_any p ys)) (o.same r y e) ∙ or_self_left (p y) (list_any p ys))
      at Greater e h = ap (λ b. p y || b) h ∙ or_swap (p y) (p r) (list_any p ys)

  pub list_any-canon : (p : K → Bool) (xs : List K) → list_any p (canon R xs) ≡ list_any p xs
  list_any-canon p [] = refl
  list_any-canon p (x ∷ xs) = list_any-place p x (canon R xs) ∙ ap (λ b. p x || b) (list_any-canon p xs)

  -- lists with the same members pass the same tests
  pub list_any_same : (p : K → Bool) (xs ys : List K) → ((q : K) → has R q xs ≡ has R q ys) → list_any p xs ≡ list_any p ys
  list_any_same p xs ys h = sym (list_any-canon p xs) ∙ ap (λ l. list_any p l) (canon_same o xs ys h) ∙ list_any-canon p ys

  pub canon-append-same : (xs xs' ys ys' : List K) → ((q : K) → has R q xs ≡ has R q xs') → ((q : K) → has R q ys ≡ has R q ys')
      → canon R (xs ++ ys) ≡ canon R (xs' ++ ys')
  canon-append-same xs xs' ys ys' h g =
      canon_same o (xs ++ ys) (xs' ++ ys') (λ q. has-append o q xs ys ∙ (λ i. h q i || g q i) ∙ sym (has-append o q xs' ys'))

  pub canon-append-canon : (xs ys : List K) → canon R (canon R xs ++ ys) ≡ canon R (xs ++ ys)
  canon-append-canon xs ys = canon-append-same (canon R xs) xs ys ys (λ q. has-canon o q xs) (λ q. refl)

  pub canon-append-canon_after : (xs ys : List K) → canon R (xs ++ canon R ys) ≡ canon R (xs ++ ys)
  canon-append-canon_after xs ys = canon-append-same xs xs (canon R ys) ys (λ q. refl) (λ q. has-canon o q ys)

  pub canon-append-canon_both : (xs ys : List K) → canon R (canon R xs ++ canon R ys) ≡ canon R (xs ++ ys)
  canon-append-canon_both xs ys = canon-append-same (canon R xs) xs (canon R ys) ys (λ q. has-canon o q xs) (λ q. has-canon o q ys)

  pub canon-snoc : (xs : List K) (x : K) → canon R (xs ++ x ∷ []) ≡ place R x (canon R xs)
  canon-snoc xs x = canon_one o (canon R (xs ++ x ∷ [])) (place R x (canon R xs)) (Rising-canon o (xs ++ x ∷ []))
      (Rising-place o x (canon R xs) (Rising-canon o xs))
      (λ q. has-canon o q (xs ++ x ∷ []) ∙ has-append o q xs (x ∷ []) ∙ or_turn (has R q xs) (is_eq (R q x))
      ∙ sym (has-place o q x (canon R xs) ∙ ap (λ b. is_eq (R q x) || b) (has-canon o q xs)))

  has_again : (x : K) (xs : List K) → has R x xs ≡ true → (q : K) → (is_eq (R q x) || has R q xs) ≡ has R q xs
  has_again x xs h q = at (R q x) refl
    where
      at : (c : Ordering) → R q x ≡ c → (is_eq c || has R q xs) ≡ has R q xs
      at Less e = refl
      at Equal e = sym (ap (λ z. has R z xs) (o.same q x e) ∙ h)
      at Greater e = refl

  pub place_itself : (x : K) (xs : List K) → Rising R xs → has R x xs ≡ true → place R x xs ≡ xs
  place_itself x xs a h = canon_one o (place R x xs) xs (Rising-place o x xs a) a (λ q. has-place o q x xs ∙ has_again x xs h q)

  pub has-without : (q : K) (xs ys : List K) → has R q (without R xs ys) ≡ (has R q xs && not (has R q ys))
  has-without q xs ys = has-filter o (λ x. not (has R x ys)) q xs ∙ and_comm (not (has R q ys)) (has R q xs)

  -- what holds of each element holds of a member
  pub Each_has : (P : K → Type 0) (q : K) (xs : List K) → Each P xs → has R q xs ≡ true → P q
  Each_has P q [] a e = absurd (true≢false (sym e))
  Each_has P q (x ∷ xs) a e = at (R q x) refl e (Each_has P q xs a.1)
    where
      at : (c : Ordering) → R q x ≡ c → (is_eq c || has R q xs) ≡ true → (has R q xs ≡ true → P q) → P q
      at Less d e rest = rest e
      at Equal d e rest = subst P (sym (o.same q x d)) a.0
      at Greater d e rest = rest e

  pub rising_after_sort : (xs ys : List K) → ys ≡ canon R xs → Rising R ys
  rising_after_sort xs ys e = subst (λ l. Rising R l) (sym e) (Rising-canon o xs)

  pub rising_after_place : (x : K) (xs ys : List K) → Rising R xs → ys ≡ place R x xs → Rising R ys
  rising_after_place x xs ys a e = subst (λ l. Rising R l) (sym e) (Rising-place o x xs a)

-- lists stay in order
pub ruleset stays_rising = (rising_after_sort, rising_after_place)

module _ {K A : Type 0} {R : K → K → Ordering} {S : A → A → Ordering} (o : Exact R) (s : Exact S) where
  pub canon-flat_map-same : (f : A → List K) (xs ys : List A) → ((q : A) → has S q xs ≡ has S q ys)
      → canon R (flat_map f xs) ≡ canon R (flat_map f ys)
  canon-flat_map-same f xs ys h = canon_same o (flat_map f xs) (flat_map f ys)
      (λ q. list_any-flat_map (λ x. is_eq (R q x)) f xs ∙ list_any_same s (λ x. has R q (f x)) xs ys h
      ∙ sym (list_any-flat_map (λ x. is_eq (R q x)) f ys))

  pub canon-flat_map-canon : (f : A → List K) (xs : List A) → canon R (flat_map f (canon S xs)) ≡ canon R (flat_map f xs)
  canon-flat_map-canon f xs = canon-flat_map-same f (canon S xs) xs (λ q. has-canon s q xs)

  pub canon-map-same : (f : A → K) (xs ys : List A) → ((q : A) → has S q xs ≡ has S q ys) → canon R (map f xs) ≡ canon R (map f ys)
  canon-map-same f xs ys h = canon_same o (map f xs) (map f ys)
      (λ q. list_any-map (λ x. is_eq (R q x)) f xs ∙ list_any_same s (λ x. is_eq (R q (f x))) xs ys h
      ∙ sym (list_any-map (λ x. is_eq (R q x)) f ys))

  pub canon-map-canon : (f : A → K) (xs : List A) → canon R (map f (canon S xs)) ≡ canon R (map f xs)
  canon-map-canon f xs = canon-map-same f (canon S xs) xs (λ q. has-canon s q xs)

module _ {K A B : Type 0} {R : K → K → Ordering} {S : A → A → Ordering} {T : B → B → Ordering} (o : Exact R) (s : Exact S)
    (t : Exact T) where
  pub canon-joins-same : (j : A → B → Option K) (xs xs' : List A) (ys ys' : List B) → ((q : A) → has S q xs ≡ has S q xs')
      → ((q : B) → has T q ys ≡ has T q ys') → canon R (joins j xs ys) ≡ canon R (joins j xs' ys')
  canon-joins-same j xs xs' ys ys' h g = canon_same o (joins j xs ys) (joins j xs' ys') (λ q.
      list_any-joins (λ x. is_eq (R q x)) j xs ys
      ∙ list_any_agree _ _ (λ x. list_any_same t (λ y. has R q (some_of (j x y))) ys ys' g) xs
      ∙ list_any_same s (λ x. list_any (λ y. has R q (some_of (j x y))) ys') xs xs' h
      ∙ sym (list_any-joins (λ x. is_eq (R q x)) j xs' ys'))
