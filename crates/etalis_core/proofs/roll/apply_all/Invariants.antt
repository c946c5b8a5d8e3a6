use Rattle.std.proofs.Common.{◌≡◌, drop}
use Rattle.ordered_lists.specs.Canon.{has, Rising}
use Rattle.event_model.specs.declared.events.Event.{Event}
use Rattle.event_model.specs.EventOrder.{event_cmp}
use Rattle.etalis_core.proofs.RollLaws.{applied}
use Rattle.etalis_core.proofs.roll.apply_all.Given as goal

-- the changes that are left make of the set what all of them make of the first, and it stays in order
abbrev pub invariant-loop-change : goal.invariant-loop-change
invariant-loop-change l =
    ((e : Event) → applied (drop l.change-index l.changes) e (has event_cmp e l.events.keys)
    ≡ applied l.changes e (has event_cmp e l.initial.events.keys))
    × (Rising event_cmp l.initial.events.keys → Rising event_cmp l.events.keys)
