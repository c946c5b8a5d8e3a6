-- What is kept of a history of inputs: the copies of its events from the bound on, the bounds, whether a batch is open, and what it
-- has changed of the events that are present since it was last told what stands.
use Rattle.std.specs.Prelude.{◌≡◌, ℕ, ◌<◌, ◌≤◌, Bool, true, false, not, nat_lt, if◌then◌else◌, Option, List, map}
use Rattle.ordered_lists.specs.Canon.{has}
use Rattle.event_model.specs.declared.events.Event.{Event}
use Rattle.event_model.specs.Events.{time_of}
use Rattle.event_model.specs.EventOrder.{event_cmp}
use Rattle.event_model.specs.Presence.{History, settled, all_inputs, in_batch, copies, present, bound}
use Rattle.event_model.specs.declared.inputs.Input.{Input}
use Rattle.event_model.specs.declared.inputs.Input.TheVariants.{Add, Take, Advance, Nothing, Begin, Commit}
use Rattle.event_changes.specs.declared.events.EventChange.{EventChange}
use Rattle.event_changes.specs.declared.events.EventChange.TheVariants.{Came, Went}
use Rattle.event_changes.specs.Events.{event_changes}
use Rattle.support_table.specs.Copies.{copies_of}
use Rattle.etalis_core.specs.declared.present.TheConstants.{MOST_COPIES}
use Rattle.etalis_core.specs.declared.present.Present.{Present}
use Rattle.etalis_core.specs.declared.ledger.Ledger.{Ledger}
use Rattle.etalis_core.specs.declared.roll.Roll.{Roll}

-- ---- the events that are present

-- the copies of an event that are kept
abbrev pub number_of : Present → Event → ℕ
number_of kept e = copies_of kept.numbers e

-- the copies of an event, where it has a time of at least this one
abbrev pub copies_from : ℕ → (Event → ℕ) → Event → ℕ
copies_from from number e = if nat_lt (time_of e) from then 0 else number e

-- these numbers are the copies of these inputs, of the events from this time on
abbrev pub AreCopies : (Event → ℕ) → ℕ → List Input → Type 0
AreCopies number from inputs = (e : Event) → number e ≡ copies_from from (copies inputs) e

-- and so are those that are kept
abbrev pub HasCopies : Present → ℕ → List Input → Type 0
HasCopies kept from inputs = AreCopies (number_of kept) from inputs

-- whether a copy of an event is kept
abbrev pub is_kept : Present → Event → Bool
is_kept kept e = nat_lt 0 (number_of kept e)

-- whether an event was present when the changes were last forgotten
abbrev pub was_kept : Present → Event → Bool
was_kept kept e = if has event_cmp e kept.changed.keys then not (is_kept kept e) else is_kept kept e

-- an event that has changed since then came where a copy is kept, and went where none is
abbrev pub net_change : Present → Event → EventChange
net_change kept e = if is_kept kept e then Came e else Went e

-- the net changes since then
abbrev pub net_changes : Present → List EventChange
net_changes kept = map (net_change kept) kept.changed.keys

-- whether an event came
abbrev pub has_come : EventChange → Bool
has_come (Came e) = true
has_come (Went e) = false

-- room for one copy more of the event of an `Add`
abbrev pub HasRoom : (Event → ℕ) → Input → Type 0
HasRoom number (Add e) = number e < MOST_COPIES
HasRoom number (Take e) = Unit {0}
HasRoom number (Advance t) = Unit {0}
HasRoom number Nothing = Unit {0}
HasRoom number Begin = Unit {0}
HasRoom number Commit = Unit {0}

-- ---- the ledger of a history

-- The ledger has whether a batch is open in this history, its bound and the copies of its events. What stands was told after other
-- inputs: the ledger has their bound, no copies below it, and the net changes from the events that were present after them.
pub record IsLedgerOf (ledger : Ledger) (late : Option ℕ) (told : List Input) (history : History) : Type 0 where
  pub numbers : HasCopies ledger.present (bound late told) (all_inputs history)
  pub net : net_changes ledger.present ≡ event_changes (present told) (present (all_inputs history))
  pub told_bound : ledger.bound ≡ bound late told
  pub next_bound : ledger.next_bound ≡ bound late (all_inputs history)
  pub rises : bound late told ≤ bound late (all_inputs history)
  pub batch : ledger.in_batch ≡ in_batch history

-- The roll has the ledger of this history, told what stands after its groups, and all the events that are present by them.
pub record IsRollOf (roll : Roll) (late : Option ℕ) (history : History) : Type 0 where
  pub ledger : IsLedgerOf roll.ledger late (settled history) history
  pub events : roll.events.keys ≡ present (settled history)
