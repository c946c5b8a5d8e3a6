-- Sets of slots, as the bits of a number.
use Rattle.std.specs.Prelude.{ℕ, ◌≡◌, ◌==◌, Bool, true}
use Rattle.std.specs.Int.{bit_at}

-- whether the slot is in the set
unfoldable pub slot_in : ℕ → ℕ → Bool
slot_in slots slot = bit_at slots slot == 1

-- each slot of the one set is in the other
abbrev pub IsWithin : ℕ → ℕ → Type 0
IsWithin slots others = (slot : ℕ) → slot_in slots slot ≡ true → slot_in others slot ≡ true
