-- The parts of a work hold what it holds.
use Rattle.std.specs.Prelude.{ℕ, List}
use Rattle.event_model.specs.declared.events.Event.{Event}
use Rattle.revision.specs.Apart.{parts_in, PartsHold}
use Rattle.revision.specs.Holding.{Holds}
use Rattle.revision.specs.InHand.{hand, IsReady}
use Rattle.revision.specs.declared.parts.Parts.{Parts}

pub parts_hold : (p : Parts) (b : ℕ) (E : List Event) → Holds (hand p) b E → IsReady p → PartsHold (parts_in p) b E
parts_hold p b E h ready = record {
  workable = h.workable;
  planned = ready.planned;
  few = ready.few;
  stored = ready.stored;
  indexed = ready.indexed;
  rows = record { before = h.rows.before; after = h.rows.after; counts = h.rows.counts; small = h.rows.small };
}
