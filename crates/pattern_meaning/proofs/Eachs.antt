-- What holds of each element of a list.
use Rattle.std.proofs.Common.{List, [], ◌∷◌, map}
use Rattle.ordered_lists.specs.Lists.{Each}

pub each : {A : Type 0} (xs : List A) → Each (λ _. Unit {0}) xs
each [] = tt
each (x ∷ xs) = (tt, each xs)

pub Each-more : {A : Type 0} (P Q : A → Type 0) → ((x : A) → P x → Q x) → (xs : List A) → Each P xs → Each Q xs
Each-more P Q f [] a = tt
Each-more P Q f (x ∷ xs) a = (f x a.0, Each-more P Q f xs a.1)

pub Each-map : {A B : Type 0} (P : A → Type 0) (Q : B → Type 0) (f : A → B) → ((x : A) → P x → Q (f x)) → (xs : List A) → Each P xs → Each Q (map f xs)
Each-map P Q f h [] a = tt
Each-map P Q f h (x ∷ xs) a = (h x a.0, Each-map P Q f h xs a.1)
