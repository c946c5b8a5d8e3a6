-- Events: their spans and times.
use Rattle.std.specs.Prelude.{ℕ}
use Rattle.event_model.specs.Spans.{PlainSpan}
use Rattle.event_model.specs.declared.events.Event.{Event}

-- from when to when an event happened
abbrev pub span_of : Event → PlainSpan
span_of e = e.span

-- the time of an event, by which it is early or late, is the end of its span
abbrev pub time_of : Event → ℕ
time_of e = (span_of e).end
