-- The changes from a set of events to another.
use Rattle.std.specs.Prelude.{if◌then◌else◌, List, ◌++◌, map}
use Rattle.ordered_lists.specs.Canon.{canon, has}
use Rattle.ordered_lists.specs.Members.{without}
use Rattle.event_model.specs.EventOrder.{event_cmp}
use Rattle.event_model.specs.declared.events.Event.{Event}
use Rattle.event_changes.specs.declared.events.EventChange.{EventChange}
use Rattle.event_changes.specs.declared.events.EventChange.TheVariants.{Came, Went}

abbrev pub event_of : EventChange → Event
event_of (Came e) = e
event_of (Went e) = e

-- how an event has changed that is in only one of two sets: it came where it's in the second
abbrev pub event_change : List Event → Event → EventChange
event_change after e = if has event_cmp e after then Came e else Went e

-- the events that are in only one of two sets, in order, each once
abbrev pub changed_events : List Event → List Event → List Event
changed_events before after = canon event_cmp (without event_cmp before after ++ without event_cmp after before)

-- how these have changed
abbrev pub event_changes : List Event → List Event → List EventChange
event_changes before after = map (event_change after) (changed_events before after)
