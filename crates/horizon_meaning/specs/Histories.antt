-- The events of an accepted history and of one that it comes to differ only in events that end at the bound or later.
use Rattle.std.specs.Prelude.{ℕ, nat_lt, Option, List}
use Rattle.std.specs.List.{flat_map}
use Rattle.ordered_lists.specs.Lists.{Each-filter}
use Rattle.ordered_lists.specs.Canon.{canon, Each-canon}
use Rattle.event_model.specs.declared.events.Event.{Event}
use Rattle.event_model.specs.declared.inputs.Input.{Input}
use Rattle.event_model.specs.EventOrder.{event_cmp}
use Rattle.event_model.specs.Events.{span_of}
use Rattle.event_model.specs.Presence.{History, settled, added, copies, present, bound, IsAccepted}
use Rattle.interval_ops.specs.Operators.{IsSpan}
use Rattle.step_meaning.specs.PastEvents.{Follows, past_events}
use Rattle.step_meaning.specs.PastRows.{IsSameBelow}
use Rattle.horizon_meaning.specs.Fits.{AreSpans}

-- two sets of events on spans of times that are the same below a bound: the second is the first after a change at the bound or later
pub record IsLateChange (b : ℕ) (before after : List Event) : Type 0 where
  pub spans : AreSpans before
  pub spans_after : AreSpans after
  pub past : IsSameBelow b before after

-- where the events that came are on spans of times, those that are present are
pub present_spans : (inputs : List Input) → AreSpans (flat_map added inputs) → AreSpans (present inputs)
present_spans inputs h =
    Each-filter (λ e. IsSpan (span_of e)) (λ e. nat_lt 0 (copies inputs e)) (canon event_cmp (flat_map added inputs))
    (Each-canon event_cmp (λ e. IsSpan (span_of e)) (flat_map added inputs) h)

-- what follows on an accepted history changes nothing below its bound
pub later_change : (late : Option ℕ) (h : History) → IsAccepted late h → (g : History) → Follows late h g
    → AreSpans (present (settled h)) → AreSpans (present (settled g))
    → IsLateChange (bound late (settled h)) (present (settled h)) (present (settled g))
later_change late h accepted g follows h_spans g_spans =
    record { spans = h_spans; spans_after = g_spans; past = past_events late h accepted g follows }
