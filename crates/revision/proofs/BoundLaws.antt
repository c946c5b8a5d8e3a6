-- A number that falls with each visit.
use Rattle.std.specs.Prelude.{ℕ, ◌≡◌, ◌*◌, ◌^◌, ◌<◌, ◌≤◌, None, List, [], ◌∷◌, ◌++◌, length, drop}
use Rattle.std.specs.List.{flat_map}
use Rattle.std.proofs.Common.{arith, length-append}
use Rattle.std.proofs.lemmas.List.{length-drop}
use Rattle.revision.specs.Works.{Hand, MOST_LEFT, hand_left, IsFurther}

flat_len : {A B : Type 0} (f : A → List B) (m : ℕ) → ((x : A) → length (f x) ≤ m) → (xs : List A) → length (flat_map f xs) ≤ length xs * m
flat_len f m h [] = omega arith
flat_len f m h (x ∷ xs) =
    let i = flat_len f m h xs in let e = length-append (f x) (flat_map f xs) in let k = h x in omega (arith, i, e, k)

-- what is left of the tasks of a step, and of the row under way, is below the most
pub few_left : {T B : Type 0} (visits : T → List B) (tasks : List T) (n : ℕ) (under : List B) → ((t : T) → length (visits t) ≤ 2 ^ 64)
    → length tasks ≤ 2 ^ 66 → length under ≤ 2 ^ 64 → length (under ++ flat_map visits (drop n tasks)) < MOST_LEFT
few_left visits tasks n under each few short =
    let f = flat_len visits (2 ^ 64) each (drop n tasks) in
    let d = length-drop n tasks in
    let e = length-append under (flat_map visits (drop n tasks)) in omega (arith, f, d, e, few, short)

-- visits of the same step were made
pub left_falls : (h new : Hand) (units : ℕ) → IsFurther h new units None → 0 < units → hand_left new < hand_left h
unfolding hand_left
left_falls h new units f some = omega (arith, f.0, f.1, f.2, some)

-- steps were finished
pub left_falls_far : (h new : Hand) → length new.steps ≡ length h.steps → h.finished < new.finished → new.finished < length new.steps
    → length new.at.left < MOST_LEFT → hand_left new < hand_left h
unfolding hand_left
left_falls_far h new same more within few = omega (arith, same, more, within, few)
