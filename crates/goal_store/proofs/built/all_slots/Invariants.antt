use Rattle.std.proofs.Common.{◌≡◌, ℕ, nat_lt}
use Rattle.event_model.specs.SlotSets.{slot_in}
use Rattle.goal_store.proofs.built.all_slots.Given as goal

-- the slots before this one
abbrev pub invariant-loop-number : goal.invariant-loop-number
invariant-loop-number l = (t : ℕ) → slot_in l.all t ≡ nat_lt t l.number
