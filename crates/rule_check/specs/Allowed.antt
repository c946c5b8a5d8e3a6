-- The variables that may stand at a place: all, or those of a set.
use Rattle.std.specs.Prelude.{ℕ, Bool, true, Option, Some, None}
use Rattle.event_model.specs.SlotSets.{slot_in}

abbrev pub allowed : Option ℕ → ℕ → Bool
allowed None slot = true
allowed (Some slots) slot = slot_in slots slot
