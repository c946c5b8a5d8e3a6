-- What is kept of the last lines, the latest first.
use Rattle.std.specs.Prelude.{ℕ, List, ◌∷◌, Option, Some, None, slice_get, slice_set, option_and_then, take, ◌-◌}
use Rattle.event_model.specs.declared.events.Event.{Event}
use Rattle.drill_lines.specs.declared.lines.TheConstants.{REACH}
use Rattle.drill_lines.specs.Drill.{Line, Comes, Back, Rises}

-- the event that can be retracted of the line so many before the last
abbrev pub slot_at : List (Option Event) → ℕ → Option Event
slot_at slots back = option_and_then (λ slot. slot) (slice_get slots back)

-- with one line more, which may retract the event of the line so many before the last
abbrev pub remembered : List (Option Event) → ℕ → Line → List (Option Event)
remembered slots back (Comes e) = Some e ∷ take (REACH - 1) slots
remembered slots back (Back j e) = None ∷ take (REACH - 1) (slice_set slots back None)
remembered slots back (Rises t) = None ∷ take (REACH - 1) slots

-- when the event of the line so many before the last was taken from them, if there was one
abbrev pub without : List (Option Event) → ℕ → Option Event → List (Option Event)
without slots back (Some e) = slice_set slots back None
without slots back None = slots
