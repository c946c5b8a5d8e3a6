-- Histories of inputs: the copies of an event, the events that are present, the bound, and how a line is judged.
use Rattle.std.specs.Prelude.{◌≡◌, ℕ, suc, ◌-◌, max, Bool, true, false, not, ◌&&◌, ◌==◌, nat_lt, if◌then◌else◌, Option, Some, None, List, [], ◌∷◌, ◌++◌}
use Rattle.std.specs.List.{filter, flat_map}
use Rattle.std.specs.Ordering.{is_eq}
use Rattle.ordered_lists.specs.Canon.{canon}
use Rattle.event_model.specs.Events.{time_of}
use Rattle.event_model.specs.EventOrder.{event_cmp}
use Rattle.event_model.specs.declared.events.Event.{Event}
use Rattle.event_model.specs.declared.inputs.Input.{Input}
use Rattle.event_model.specs.declared.inputs.Input.TheVariants.{Add, Take, Advance, Nothing, Begin, Commit}
use Rattle.event_model.specs.declared.inputs.Judgement.{Judgement}
use Rattle.event_model.specs.declared.inputs.Judgement.TheVariants as judgement
use Rattle.event_model.specs.declared.inputs.Refusal.{Refusal}
use Rattle.event_model.specs.declared.inputs.Refusal.TheVariants as refusal

-- ---- histories

-- The inputs that were accepted, in groups: a batch that was committed is one, and each input outside a batch is one. Behind
-- them stand the inputs of the batch that is open, where one is.
pub record History : Type 0 where
  pub groups : List (List Input)
  pub batch : Option (List Input)

-- before the first input
abbrev pub no_history : History
no_history = record { groups = []; batch = None }

-- the inputs of the groups, by which what stands and the bound are decided
abbrev pub settled : History → List Input
settled h = flat_map (λ group. group) h.groups

abbrev pub batch_inputs : Option (List Input) → List Input
batch_inputs None = []
batch_inputs (Some group) = group

-- these and the inputs of the open batch
abbrev pub all_inputs : History → List Input
all_inputs h = settled h ++ batch_inputs h.batch

abbrev pub is_some_batch : Option (List Input) → Bool
is_some_batch None = false
is_some_batch (Some group) = true

-- whether a batch is open
abbrev pub in_batch : History → Bool
in_batch h = is_some_batch h.batch

-- an input that isn't a word of batches: a group of its own, or one more of the open batch
abbrev pub with_input : List (List Input) → Option (List Input) → Input → History
with_input groups None input = record { groups = groups ++ (input ∷ []) ∷ []; batch = None }
with_input groups (Some group) input = record { groups = groups; batch = Some (group ++ input ∷ []) }

-- a history and one input more, one that is fine after it
abbrev pub extended : History → Input → History
extended h (Add e) = with_input h.groups h.batch (Add e)
extended h (Take e) = with_input h.groups h.batch (Take e)
extended h (Advance t) = with_input h.groups h.batch (Advance t)
extended h Nothing = with_input h.groups h.batch Nothing
extended h Begin = record { groups = h.groups; batch = Some [] }
extended h Commit = record { groups = h.groups ++ batch_inputs h.batch ∷ []; batch = None }

-- ---- the events of a list of inputs

abbrev pub added : Input → List Event
added (Add e) = e ∷ []
added (Take e) = []
added (Advance t) = []
added Nothing = []
added Begin = []
added Commit = []

abbrev pub taken : Input → List Event
taken (Add e) = []
taken (Take e) = e ∷ []
taken (Advance t) = []
taken Nothing = []
taken Begin = []
taken Commit = []

-- how many times an event stands in a list
abbrev pub occurrences : Event → List Event → ℕ
occurrences e [] = 0
occurrences e (x ∷ xs) = if is_eq (event_cmp e x) then suc (occurrences e xs) else occurrences e xs

-- how many copies of an event there are: those that came without those that were taken back
abbrev pub copies : List Input → Event → ℕ
copies inputs e = occurrences e (flat_map added inputs) - occurrences e (flat_map taken inputs)

-- the events of which a copy is there, each once
abbrev pub present : List Input → List Event
present inputs = filter (λ e. nat_lt 0 (copies inputs e)) (canon event_cmp (flat_map added inputs))

-- ---- the bound

-- how far an input raises the bound: an event to its time less the lateness, where one is given; a difference below 0 is 0
abbrev pub raised : Option ℕ → Input → ℕ
raised None (Add e) = 0
raised (Some late) (Add e) = time_of e - late
raised late (Take e) = 0
raised late (Advance t) = t
raised late Nothing = 0
raised late Begin = 0
raised late Commit = 0

-- the greatest of 0 and all these
abbrev pub bound : Option ℕ → List Input → ℕ
bound late [] = 0
bound late (input ∷ inputs) = max (raised late input) (bound late inputs)

-- ---- how an input is judged after a history

-- a batch begins in none, and ends in one
abbrev pub is_misplaced : History → Input → Bool
is_misplaced h (Add e) = false
is_misplaced h (Take e) = false
is_misplaced h (Advance t) = false
is_misplaced h Nothing = false
is_misplaced h Begin = in_batch h
is_misplaced h Commit = not (in_batch h)

abbrev pub is_below : ℕ → Input → Bool
is_below b (Add e) = nat_lt (time_of e) b
is_below b (Take e) = nat_lt (time_of e) b
is_below b (Advance t) = nat_lt t b
is_below b Nothing = false
is_below b Begin = false
is_below b Commit = false

abbrev pub is_absent : List Input → Input → Bool
is_absent inputs (Add e) = false
is_absent inputs (Take e) = copies inputs e == 0
is_absent inputs (Advance t) = false
is_absent inputs Nothing = false
is_absent inputs Begin = false
is_absent inputs Commit = false

-- by the bound before the open batch, and by the copies with it
abbrev pub judge : Option ℕ → History → Input → Judgement
judge late h input =
    if is_misplaced h input then judgement.Batch
    else if is_below (bound late (settled h)) input then judgement.Below (bound late (settled h))
    else if is_absent (all_inputs h) input then judgement.Absent else judgement.Fine

-- the histories to which inputs come that are fine one after the other
pub data IsAccepted (late : Option ℕ) : History → Type 0 where
  NoInput : IsAccepted late no_history
  OneMore : (h : History) (input : Input) → IsAccepted late h → judge late h input ≡ judgement.Fine → IsAccepted late (extended h input)

-- Whether an input that is fine settles what came before it: a `Commit` all of its batch, and an input outside batches itself. What
-- doesn't settle anything changes neither what stands nor the bound.
abbrev pub settles : History → Input → Bool
settles h (Add e) = not (in_batch h)
settles h (Take e) = not (in_batch h)
settles h (Advance t) = not (in_batch h)
settles h Nothing = not (in_batch h)
settles h Begin = false
settles h Commit = true

-- ---- how a line is judged after a history

-- what a line says: an input, or nothing, with the place from which on no line goes so
pub data Said : Type 0 where
  Says : Input → Said
  Fails : ℕ → Said

pub data Verdict : Type 0 where
  Accepted : Input → Verdict
  Refused : Refusal → Verdict

abbrev pub verdict_of : Judgement → Input → Verdict
verdict_of judgement.Fine input = Accepted input
verdict_of judgement.Batch input = Refused refusal.Batch
verdict_of (judgement.Below b) input = Refused (refusal.Below b)
verdict_of judgement.Absent input = Refused refusal.Absent

abbrev pub verdict : Option ℕ → History → Said → Verdict
verdict late h (Says input) = verdict_of (judge late h input) input
verdict late h (Fails at) = Refused (refusal.Syntax at)

-- a line that is accepted extends the history by its input
abbrev pub after_verdict : History → Verdict → History
after_verdict h (Accepted input) = extended h input
after_verdict h (Refused why) = h
