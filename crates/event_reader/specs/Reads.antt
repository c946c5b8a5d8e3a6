-- What a reading function gives, in every state of the machine in which it is called.
use Rattle.std.specs.Prelude.{◌≡◌, ℕ, ◌+◌, ◌<◌, ◌≤◌, ◌==◌, Bool, true, false, List, [], ◌∷◌, length, drop, Option, Some, None, Result, Ok, Err}
use Rattle.event_model.specs.Spans.{PlainSpan}
use Rattle.event_model.specs.Events.{span_of}
use Rattle.event_model.specs.Presence.{Said, Says, Fails}
use Rattle.event_model.specs.declared.atoms.Atom.{Atom}
use Rattle.event_model.specs.declared.events.Event.{Event}
use Rattle.event_model.specs.declared.events.TheConstants.{TIME_LIMIT}
use Rattle.event_model.specs.declared.inputs.Input.{Input}
use Rattle.event_reader.specs.declared.parts.Part.{Part}
use Rattle.event_reader.specs.declared.parts.Part.TheVariants.{Blank, Digit}
use Rattle.event_reader.specs.declared.whens.Times.{Times}
use Rattle.event_reader.specs.declared.whens.Times.TheVariants.{One, Two}
use Rattle.event_reader.specs.declared.faults.LineFault.{LineFault}
use Rattle.event_reader.specs.declared.faults.LineFault.TheVariants as fault
use Rattle.event_reader.specs.EventLines.{Way, When, When.At, When.Between, Written, Written.EventLine, Written.AdvanceLine, span_of_when, of_event, Hears}
use Rattle.event_reader.specs.Machine.{part_of, DigitFits, Kind, Kind.OfEvent, Kind.OfSecond, Kind.OfTime, State, State.Front, State.Mark, State.Start, State.Digits, State.Wait, State.End}
use Rattle.event_reader.specs.Machine.{spell, in_word, go, Parsed, Parsed.Whole, Parsed.Broken, onward, hear, behind_stops, said_of}

-- what a call of the reader says of a line: the input that the line says, or the place from which on it says none
abbrev pub Heard : List ℕ → Result Input LineFault → Type 0
Heard line (Ok input) = Hears line (Says input)
Heard line (Err (fault.Syntax at)) = Hears line (Fails at)
Heard line (Err fault.Memory) = Unit {0}

abbrev pub is_blank_part : Part → Bool
is_blank_part Blank = true
is_blank_part p = false

abbrev pub is_digit_part : Part → Bool
is_digit_part (Digit d) = true
is_digit_part p = false

-- whether the first part passes the test
abbrev pub begins : (Part → Bool) → List ℕ → Bool
begins p [] = false
begins p (b ∷ rest) = p (part_of b)

-- whether the first byte is this one
abbrev pub starts : ℕ → List ℕ → Bool
starts c [] = false
starts c (b ∷ rest) = b == c

-- this part stands at the place
pub record PartAt (line : List ℕ) (at : ℕ) (p : Part) : Type 0 where
  pub byte : ℕ
  pub next : drop at line ≡ byte ∷ drop (at + 1) line
  pub is : part_of byte ≡ p
  pub inside : at < length line
  pub digit : DigitFits p

abbrev pub MaybePart : List ℕ → ℕ → Option Part → Type 0
MaybePart line at None = drop at line ≡ []
MaybePart line at (Some p) = PartAt line at p

abbrev pub MaybeDigit : List ℕ → ℕ → Option ℕ → Type 0
MaybeDigit line at None = begins is_digit_part (drop at line) ≡ false
MaybeDigit line at (Some d) = PartAt line at (Digit d)

-- this byte stands at the place
pub record ByteAt (line : List ℕ) (at byte : ℕ) : Type 0 where
  pub next : drop at line ≡ byte ∷ drop (at + 1) line
  pub inside : at < length line

abbrev pub MaybeByte : List ℕ → ℕ → ℕ → Bool → Type 0
MaybeByte line at byte true = ByteAt line at byte
MaybeByte line at byte false = starts byte (drop at line) ≡ false

-- the form breaks off so
abbrev pub BreaksBy : LineFault → Parsed → Type 0
BreaksBy (fault.Syntax place) parsed = parsed ≡ Broken place
BreaksBy fault.Memory parsed = Unit {0}

-- the line fails so
abbrev pub StopsBy : LineFault → Said → Type 0
StopsBy (fault.Syntax place) said = said ≡ Fails place
StopsBy fault.Memory said = Unit {0}

-- the second time of a when stands behind the same stops, from one place of a line as from another
abbrev pub SameStops : List ℕ → ℕ → ℕ → Type 0
SameStops line at end = behind_stops (drop at line) at ≡ behind_stops (drop end line) end

-- blanks up to a place
pub record BlanksRead (line : List ℕ) (at end : ℕ) : Type 0 where
  pub ordered : at ≤ end
  pub inside : end ≤ length line
  pub stops : SameStops line at end
  pub reads : (s : State) → ((b : ℕ) → go s Blank b ≡ Some s) → hear (drop at line) s at ≡ hear (drop end line) s end

-- one blank or more up to a place
pub record GapRead (line : List ℕ) (at end : ℕ) : Type 0 where
  pub inside : end ≤ length line
  pub stops : SameStops line at end
  pub reads : (s u : State) → ((b : ℕ) → go s Blank b ≡ Some u) → ((b : ℕ) → go u Blank b ≡ Some u)
      → hear (drop at line) s at ≡ hear (drop end line) u end
  pub over : begins is_blank_part (drop end line) ≡ false

abbrev pub MaybeGap : List ℕ → ℕ → Option ℕ → Type 0
MaybeGap line at None = begins is_blank_part (drop at line) ≡ false
MaybeGap line at (Some end) = GapRead line at end

-- more digits of a time up to a place
pub record DigitsRead (line : List ℕ) (so_far at time end : ℕ) : Type 0 where
  pub inside : end ≤ length line
  pub small : time < TIME_LIMIT
  pub stops : SameStops line at end
  pub reads : (k : Kind) → hear (drop at line) (Digits k so_far) at ≡ hear (drop end line) (Digits k time) end

abbrev pub DigitsAt : List ℕ → ℕ → ℕ → Result (ℕ × ℕ) LineFault → Type 0
DigitsAt line so_far at (Ok x) = DigitsRead line so_far at x.0 x.1 × (begins is_digit_part (drop x.1 line) ≡ false)
DigitsAt line so_far at (Err why) = (k : Kind) → BreaksBy why (hear (drop at line) (Digits k so_far) at)

-- a time, where the machine was in such a state
pub record TimeRead (from : Kind → State) (line : List ℕ) (at time end : ℕ) : Type 0 where
  pub inside : end ≤ length line
  pub small : time < TIME_LIMIT
  pub stops : SameStops line at end
  pub reads : (k : Kind) → hear (drop at line) (from k) at ≡ hear (drop end line) (Digits k time) end
  pub over : begins is_digit_part (drop end line) ≡ false

abbrev pub TimeGiven : (Kind → State) → List ℕ → ℕ → Result (ℕ × ℕ) LineFault → Type 0
TimeGiven from line at (Ok x) = TimeRead from line at x.0 x.1
TimeGiven from line at (Err why) = (k : Kind) → BreaksBy why (hear (drop at line) (from k) at)

-- a time that stands here, and a gap and a time, behind a mark
abbrev pub TimeAt : List ℕ → ℕ → Result (ℕ × ℕ) LineFault → Type 0
TimeAt line at result = TimeGiven (λ k. Start k) line at result

abbrev pub MarkedTimeAt : List ℕ → ℕ → Result (ℕ × ℕ) LineFault → Type 0
MarkedTimeAt line at result = TimeGiven (λ k. Mark k) line at result

-- blanks up to the end
abbrev pub EndAt : List ℕ → ℕ → Result (Unit {0}) LineFault → Type 0
EndAt line at (Ok u) = (i : Written) → hear (drop at line) (End i) at ≡ Whole i
EndAt line at (Err why) = (i : Written) → BreaksBy why (hear (drop at line) (End i) at)

-- all that stands behind the mark of a time
abbrev pub AdvanceAt : List ℕ → ℕ → Result ℕ LineFault → Type 0
AdvanceAt line at (Ok time) = hear (drop at line) (Mark OfTime) at ≡ Whole (AdvanceLine time)
AdvanceAt line at (Err why) = BreaksBy why (hear (drop at line) (Mark OfTime) at)

-- ---- when an event happened

abbrev pub when_of : Times → When
when_of (One time) = At time
when_of (Two start end place) = Between start end

-- the times are below the limit
abbrev pub AreTimes : Times → Type 0
AreTimes (One time) = time < TIME_LIMIT
AreTimes (Two start end place) = (start < TIME_LIMIT) × (end < TIME_LIMIT)

-- the second time, where there is one, stands at the place
abbrev pub SecondAt : Times → ℕ → Type 0
SecondAt (One time) at = Unit {0}
SecondAt (Two start end place) at = place ≡ at

abbrev pub SpanOf : Times → Result PlainSpan LineFault → Type 0
SpanOf times (Ok span) = span_of_when (when_of times) ≡ Some span
SpanOf times (Err (fault.Syntax place)) = (span_of_when (when_of times) ≡ None) × ((at : ℕ) → SecondAt times at → place ≡ at)
SpanOf times (Err fault.Memory) = ⊥

-- in the last time of a when
abbrev pub in_when : Way → When → State
in_when w (At time) = Digits (OfEvent w) time
in_when w (Between start end) = Digits (OfSecond w start) end

-- a gap and a when, behind a mark; what stands behind it and is no blank breaks the form off
pub record TimesRead (line : List ℕ) (at : ℕ) (times : Times) (end : ℕ) : Type 0 where
  pub inside : end ≤ length line
  pub fit : AreTimes times
  pub second : SecondAt times (behind_stops (drop at line) at)
  pub reads : (w : Way) → hear (drop at line) (Mark (OfEvent w)) at ≡ hear (drop end line) (in_when w (when_of times)) end
  pub over : begins is_blank_part (drop end line) ≡ false → (w : Way) → hear (drop end line) (in_when w (when_of times)) end ≡ Broken end

abbrev pub TimesAt : List ℕ → ℕ → Result (Times × ℕ) LineFault → Type 0
TimesAt line at (Ok x) = TimesRead line at x.0 x.1
TimesAt line at (Err why) = (w : Way) → BreaksBy why (hear (drop at line) (Mark (OfEvent w)) at)

-- ---- atoms and events

-- an atom
pub record AtomRead (line : List ℕ) (at : ℕ) (a : Atom) (end : ℕ) : Type 0 where
  pub inside : end ≤ length line
  pub reads : (w : Way) (when : When) → hear (drop at line) (Wait w when) at ≡ hear (drop end line) (End (EventLine w when a)) end

abbrev pub AtomAt : List ℕ → ℕ → Result (Atom × ℕ) LineFault → Type 0
AtomAt line at (Ok x) = AtomRead line at x.0 x.1
AtomAt line at (Err why) = (w : Way) (when : When) → BreaksBy why (hear (drop at line) (Wait w when) at)

-- what a line says by all that stands behind the mark of an event
abbrev pub event_said : List ℕ → ℕ → Way → Said
event_said line at w = said_of (behind_stops (drop at line) at) (hear (drop at line) (Mark (OfEvent w)) at)

abbrev pub EventAt : List ℕ → ℕ → Result Event LineFault → Type 0
EventAt line at (Ok e) = (w : Way) → event_said line at w ≡ Says (of_event w e.atom (span_of e))
EventAt line at (Err why) = (w : Way) → StopsBy why (event_said line at w)

-- ---- words

-- a word up to a place, from which on these bytes are left of it
pub record SpelledSoFar (line : List ℕ) (at : ℕ) (word left : List ℕ) (end : ℕ) : Type 0 where
  pub inside : end ≤ length line
  pub reads : (s : State) → hear (drop at line) (spell word s) at ≡ hear (drop end line) (spell left s) end

abbrev pub SpelledAt : List ℕ → ℕ → List ℕ → Result ℕ LineFault → Type 0
SpelledAt line at word (Ok end) = SpelledSoFar line at word [] end
SpelledAt line at word (Err why) = (s : State) → BreaksBy why (hear (drop at line) (spell word s) at)

-- a word, and blanks up to the end
abbrev pub AloneAt : List ℕ → ℕ → List ℕ → Result (Unit {0}) LineFault → Type 0
AloneAt line at word (Ok u) = (i : Written) → hear (drop at line) (spell word (End i)) at ≡ Whole i
AloneAt line at word (Err why) = (i : Written) → BreaksBy why (hear (drop at line) (spell word (End i)) at)

-- what is read of bytes that begin with a byte of no other form
abbrev pub word_heard : List ℕ → ℕ → Parsed
word_heard [] at = Broken at
word_heard (b ∷ rest) at = onward (hear rest) at (in_word b)

abbrev pub WordAt : List ℕ → ℕ → Result Input LineFault → Type 0
WordAt line at (Ok input) = (place : ℕ) → said_of place (word_heard (drop at line) at) ≡ Says input
WordAt line at (Err why) = (place : ℕ) → StopsBy why (said_of place (word_heard (drop at line) at))

-- ---- lines

abbrev pub line_said : List ℕ → Said
line_said line = said_of (behind_stops line 0) (hear line Front 0)

abbrev pub LineRead : List ℕ → Result Input LineFault → Type 0
LineRead line (Ok input) = line_said line ≡ Says input
LineRead line (Err why) = StopsBy why (line_said line)
