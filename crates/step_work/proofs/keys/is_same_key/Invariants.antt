use Rattle.std.proofs.Common.{◌≡◌, ◌<◌, ℕ}
use Rattle.event_model.specs.SlotSets.{slot_in}
use Rattle.step_work.proofs.keys.is_same_key.Given as goal

abbrev pub invariant-loop-number : goal.invariant-loop-number
invariant-loop-number l = (t : ℕ) → t < l.number → slot_in l.left t ≡ slot_in l.right t
