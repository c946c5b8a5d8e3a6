-- How what is balanced stays balanced through lists, and that two lists in order are balanced by what is only in one of them.
use Rattle.std.specs.Prelude.{ℕ, ◌≡◌, ◌+◌, refl, Bool, true, false, cond, not, ◌&&◌, List, [], ◌∷◌, ◌++◌, map}
use Rattle.std.specs.List.{filter, flat_map}
use Rattle.std.specs.declared.cmp.Ordering.{Ordering}
use Rattle.std.proofs.Common.{ap, sym, ◌∙◌, arith}
use Rattle.std.proofs.Math.Bool.{and_comm}
use Rattle.ordered_lists.specs.Lists.{total, total-append, total-filter, total-flat_map, Balanced}
use Rattle.ordered_lists.specs.Canon.{has, Rising, Exact, canon_one, Rising-filter, has-filter}
use Rattle.ordered_lists.specs.Members.{without}

pub total-map : {A C : Type 0} (f : C → ℕ) (g : A → C) (xs : List A) → total f (map g xs) ≡ total (λ x. f (g x)) xs
total-map f g [] = refl
total-map f g (x ∷ xs) = omega (arith, total-map f g xs)

module _ {A : Type 0} where
  pub Balanced-append : (b a c w b' a' c' w' : List A) → Balanced b a c w → Balanced b' a' c' w'
      → Balanced (b ++ b') (a ++ a') (c ++ c') (w ++ w')
  Balanced-append b a c w b' a' c' w' h h' f =
      omega (arith, h f, h' f, total-append f b b', total-append f a a', total-append f c c', total-append f w w')

  pub Balanced-filter : (p : A → Bool) (b a c w : List A) → Balanced b a c w
      → Balanced (filter p b) (filter p a) (filter p c) (filter p w)
  Balanced-filter p b a c w h f =
      omega (arith, h (λ x. cond (p x) (f x) 0), total-filter f p b, total-filter f p a, total-filter f p c, total-filter f p w)

  -- what passes a test and what doesn't
  pub total_both : (f : A → ℕ) (p : A → Bool) (xs : List A) → total f xs ≡ total f (filter p xs) + total f (filter (λ x. not (p x)) xs)
  total_both f p [] = refl
  total_both f p (x ∷ xs) = at (p x) (total_both f p xs)
    where
      at : (b : Bool) → total f xs ≡ total f (filter p xs) + total f (filter (λ x. not (p x)) xs)
          → f x + total f xs
          ≡ total f (cond b (x ∷ filter p xs) (filter p xs))
          + total f (cond (not b) (x ∷ filter (λ x. not (p x)) xs) (filter (λ x. not (p x)) xs))
      at true h = omega arith
      at false h = omega arith

module _ {A C : Type 0} where
  pub Balanced-flat_map : (g : A → List C) (b a c w : List A) → Balanced b a c w
      → Balanced (flat_map g b) (flat_map g a) (flat_map g c) (flat_map g w)
  Balanced-flat_map g b a c w h f =
      omega (
        arith,
        h (λ x. total f (g x)),
        total-flat_map f g b,
        total-flat_map f g a,
        total-flat_map f g c,
        total-flat_map f g w,
      )

  pub Balanced-map : (g : A → C) (b a c w : List A) → Balanced b a c w → Balanced (map g b) (map g a) (map g c) (map g w)
  Balanced-map g b a c w h f =
      omega (arith, h (λ x. f (g x)), total-map f g b, total-map f g a, total-map f g c, total-map f g w)

  -- the lists of several, one after the other
  pub Balanced-each : (b a c w : A → List C) → ((x : A) → Balanced (b x) (a x) (c x) (w x)) → (xs : List A)
      → Balanced (flat_map b xs) (flat_map a xs) (flat_map c xs) (flat_map w xs)
  Balanced-each b a c w h [] f = omega arith
  Balanced-each b a c w h (x ∷ xs) f = Balanced-append (b x) (a x) (c x) (w x) _ _ _ _ (h x) (Balanced-each b a c w h xs) f

module _ {K : Type 0} {R : K → K → Ordering} (o : Exact R) where
  pub Balanced-changed : (xs ys : List K) → Rising R xs → Rising R ys → Balanced xs ys (without R ys xs) (without R xs ys)
  Balanced-changed xs ys u v f =
      let both : filter (λ x. has R x ys) xs ≡ filter (λ x. has R x xs) ys =
      canon_one o _ _ (Rising-filter o _ xs u) (Rising-filter o _ ys v)
      (λ q. has-filter o _ q xs ∙ and_comm (has R q ys) (has R q xs) ∙ sym (has-filter o _ q ys)) in
      omega (arith, total_both f (λ x. has R x ys) xs, total_both f (λ x. has R x xs) ys, ap (total f) both)

  -- those of xs that pass a test are ys, where ys has just these
  pub only : (p : K → Bool) (xs ys : List K) → Rising R xs → Rising R ys → ((q : K) → (p q && has R q xs) ≡ has R q ys)
      → filter p xs ≡ ys
  only p xs ys u v h = canon_one o _ ys (Rising-filter o p xs u) v (λ q. has-filter o p q xs ∙ h q)
