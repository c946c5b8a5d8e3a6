-- The bytes that a list of named files holds.
use Rattle.std.specs.Prelude.{ℕ, if◌then◌else◌, Bool, true, false, not, ◌&&◌, ◌||◌, List, [], ◌∷◌, Option, Some, None, Vec, String, string_bytes}
use Rattle.std.specs.Str.{bytes_eq}
use Rattle.std.specs.declared.alloc.Global.{Global}

-- what the first file of that name holds
abbrev pub held_at : List (String Global × Vec ℕ Global) → List ℕ → Option (List ℕ)
held_at [] name = None
held_at (file ∷ files) name = if bytes_eq (string_bytes file.0) name then Some file.1.items else held_at files name

-- whether one of the files has that name
abbrev pub is_held : List (String Global × Vec ℕ Global) → List ℕ → Bool
is_held [] name = false
is_held (file ∷ files) name = bytes_eq name (string_bytes file.0) || is_held files name

-- whether no two of the files have one name
abbrev pub names_differ : List (String Global × Vec ℕ Global) → Bool
names_differ [] = true
names_differ (file ∷ files) = not (is_held files (string_bytes file.0)) && names_differ files
