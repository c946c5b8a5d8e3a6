-- Two lists whose elements stand in a relation, one by one.
use Rattle.std.specs.Prelude.{Bool, true, false, ◌&&◌, List, [], ◌∷◌}

-- each with the one at its place, and as many of them
abbrev pub each_with : {X Y : Type 0} → (X → Y → Bool) → List X → List Y → Bool
each_with r [] [] = true
each_with r [] (y ∷ ys) = false
each_with r (x ∷ xs) [] = false
each_with r (x ∷ xs) (y ∷ ys) = r x y && each_with r xs ys
