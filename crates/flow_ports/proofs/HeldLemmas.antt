-- Where no two files have one name, each file is found by its own.
use Rattle.std.proofs.Common.{◌≡◌, ℕ, zero, suc, Bool, true, false, not, ◌&&◌, ◌||◌, List, [], ◌∷◌, Option, Some, None, IfSome, Vec, String, string_bytes, slice_get, refl, arith}
use Rattle.std.specs.Str.{bytes_eq}
use Rattle.std.specs.declared.alloc.Global.{Global}
use Rattle.std.proofs.lemmas.Slice.Eq.{bytes_eq-Decides}
use Rattle.std.proofs.lemmas.Grind.{common_steps}
use Rattle.flow_ports.specs.Held.{held_at, is_held, names_differ}

-- a text is equal to itself
bytes_eq-same : (bytes : List ℕ) → bytes_eq bytes bytes ≡ true
bytes_eq-same bytes = grind (arith, common_steps, bytes_eq-Decides bytes bytes)

first_false : (a b : Bool) → (a || b) ≡ false → (a ≡ false) × (b ≡ false)
first_false false b e = (refl, e)
first_false true b e = cc

both_true : (a b : Bool) → (not a && b) ≡ true → (a ≡ false) × (b ≡ true)
both_true false b e = (refl, e)
both_true true b e = cc

-- each of the files has another name, where none has this one
other_name : (files : List (String Global × Vec ℕ Global)) (name : List ℕ) → is_held files name ≡ false → (k : ℕ) → IfSome (slice_get files k) (λ file. bytes_eq name (string_bytes file.0) ≡ false)
other_name [] name e k = tt
other_name (file ∷ files) name e zero = (first_false _ _ e).0
other_name (file ∷ files) name e (suc k) = other_name files name (first_false (bytes_eq name (string_bytes file.0)) _ e).1 k

passed_over : (found : Option (String Global × Vec ℕ Global)) (first : String Global × Vec ℕ Global) (files : List (String Global × Vec ℕ Global)) → IfSome found (λ file. bytes_eq (string_bytes first.0) (string_bytes file.0) ≡ false) → IfSome found (λ file. held_at files (string_bytes file.0) ≡ Some file.1.items) → IfSome found (λ file. held_at (first ∷ files) (string_bytes file.0) ≡ Some file.1.items)
passed_over None first files other held = tt
passed_over (Some file) first files other held = rw other held

pub held_at-own : (files : List (String Global × Vec ℕ Global)) → names_differ files ≡ true → (k : ℕ) → IfSome (slice_get files k) (λ file. held_at files (string_bytes file.0) ≡ Some file.1.items)
held_at-own [] e k = tt
held_at-own (file ∷ files) e zero = rw (bytes_eq-same (string_bytes file.0)) refl
held_at-own (file ∷ files) e (suc k) =
    let apart = both_true (is_held files (string_bytes file.0)) (names_differ files) e in
    passed_over (slice_get files k) file files (other_name files (string_bytes file.0) apart.0 k) (held_at-own files apart.1 k)
