-- For what a line is refused, in words of what it says.
use Rattle.std.specs.Prelude.{◌≡◌, ◌⊎◌, ◌<◌, ◌≤◌, ℕ, true, false, Option, Some, None}
use Rattle.event_model.specs.Events.{time_of}
use Rattle.event_model.specs.Presence.{History, settled, all_inputs, in_batch, copies, bound, Said, Says, Fails}
use Rattle.event_model.specs.declared.events.Event.{Event}
use Rattle.event_model.specs.declared.inputs.Input.{Input}
use Rattle.event_model.specs.declared.inputs.Input.TheVariants.{Add, Take, Advance, Nothing, Begin, Commit}

-- the time of an input, where it has one: an event's is the end of its span
abbrev pub time_in : Input → Option ℕ
time_in (Add e) = Some (time_of e)
time_in (Take e) = Some (time_of e)
time_in (Advance t) = Some t
time_in Nothing = None
time_in Begin = None
time_in Commit = None

-- the line says nothing, from this place on
abbrev pub SaysNoInput : Said → ℕ → Type 0
SaysNoInput said at = said ≡ Fails at

-- it begins a batch in a batch, or ends one where there is none
abbrev pub SaysMisplaced : History → Said → Type 0
SaysMisplaced h said = ((said ≡ Says Begin) × (in_batch h ≡ true)) ⊎ ((said ≡ Says Commit) × (in_batch h ≡ false))

-- it says an input with a time below this bound, which is that of all inputs before the open batch
abbrev pub SaysBelow : Option ℕ → History → Said → ℕ → Type 0
SaysBelow late h said b =
    (b ≡ bound late (settled h)) × ((input : Input) × ((t : ℕ) × ((said ≡ Says input) × (time_in input ≡ Some t) × (t < b))))

-- it takes an event back that isn't below the bound and of which there is no copy, those of the open batch counted
abbrev pub SaysAbsent : Option ℕ → History → Said → Type 0
SaysAbsent late h said =
    (e : Event) × ((said ≡ Says (Take e)) × (bound late (settled h) ≤ time_of e) × (copies (all_inputs h) e ≡ 0))

-- it says this input, and none of these causes applies
abbrev pub SaysFine : Option ℕ → History → Said → Input → Type 0
SaysFine late h said input =
    (said ≡ Says input)
    × (SaysMisplaced h said → ⊥)
    × (((b : ℕ) → SaysBelow late h said b → ⊥))
    × (SaysAbsent late h said → ⊥)
