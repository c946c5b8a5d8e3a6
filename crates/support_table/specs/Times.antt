-- Numbers of events that stand under their times.
--     number_in times e       the number of an event, 0 where none is kept
--     Puts old new k n        one event has this number, and all others have what they had
use Rattle.std.specs.Prelude.{ℕ, ◌≡◌, ◌<◌, ◌-◌, ◌&&◌, ◌==◌, cond, nat_lt, unwrap_or, Option, Some, None, List, length}
use Rattle.std.specs.Option.{option_and_then, IfSome}
use Rattle.std.specs.Ordering.{nat_cmp, is_eq}
use Rattle.std.specs.BTreeMap.{BTreeMap, get}
use Rattle.ordered_lists.specs.Canon.{has, Rising}
use Rattle.event_model.specs.Events.{time_of}
use Rattle.event_model.specs.EventOrder.{event_cmp}
use Rattle.event_model.specs.declared.events.Event.{Event}

-- numbers of events under times
abbrev pub Times : Type 0
Times = BTreeMap ℕ (BTreeMap Event ℕ)

-- the number of an event under a time
abbrev pub number_at : Times → ℕ → Event → Option ℕ
number_at times t e = option_and_then (λ m. get event_cmp m e) (get nat_cmp times t)

-- the number of an event under its own time, 0 where none is kept
abbrev pub number_in : Times → Event → ℕ
number_in times e = unwrap_or (number_at times (time_of e) e) 0

-- the number that is kept where one goes; none where the last goes
abbrev pub fewer : ℕ → Option ℕ
fewer n = cond (nat_lt 1 n) (Some (n - 1)) None

-- an event stands under its own time, and with a number above 0
abbrev pub IsTimed : Times → Type 0
IsTimed times = (t : ℕ) (e : Event) → IfSome (number_at times t e) (λ n. (time_of e ≡ t) × (0 < n))

-- so many events have a number above 0
abbrev pub IsCounted : ℕ → (Event → ℕ) → Type 0
IsCounted held number =
    (es : List Event) → Rising event_cmp es → ((e : Event) → has event_cmp e es ≡ nat_lt 0 (number e)) → held ≡ length es

-- one event has this number under its time, and all others have what they had
abbrev pub Puts : Times → Times → Event → Option ℕ → Type 0
Puts old new k n = (t : ℕ) (e : Event) → number_at new t e ≡ cond ((time_of k == t) && is_eq (event_cmp k e)) n (number_at old t e)

-- all events have what they had
abbrev pub Stays : Times → Times → Type 0
Stays old new = (t : ℕ) (e : Event) → number_at new t e ≡ number_at old t e
