-- A machine that reads a line byte by byte, and what a line says by it.
use Rattle.std.specs.Prelude.{ℕ, ◌+◌, ◌*◌, ◌-◌, ◌<◌, ◌==◌, true, nat_lt, nat_le, cond, if◌then◌else◌, List, [], ◌∷◌, length, Option, Some, None}
use Rattle.std.specs.Option.{option_map}
use Rattle.event_model.specs.Bytes.{bang, hash, plus, minus, stop, digit_0}
use Rattle.event_model.specs.Presence.{Said, Says, Fails}
use Rattle.event_model.specs.declared.events.TheConstants.{TIME_LIMIT}
use Rattle.event_model.specs.declared.inputs.TheConstants.{MOST_LINE_BYTES}
use Rattle.event_model.specs.declared.inputs.Input.{Input}
use Rattle.term_reader.specs.Signs.{sign_of}
use Rattle.term_reader.specs.Grammar.{Tree, atom_value}
use Rattle.term_reader.specs.Machine as atom
use Rattle.event_reader.specs.declared.parts.Part.{Part}
use Rattle.event_reader.specs.declared.parts.Part.TheVariants.{Blank, Digit, Plus, Minus, Bang, Hash, Stop, Other}
use Rattle.event_reader.specs.EventLines.{Way, Way.Comes, Way.Retracted, When, When.At, When.Between, Written, Written.EmptyLine, Written.EventLine, Written.AdvanceLine, Written.BeginLine, Written.CommitLine}
use Rattle.event_reader.specs.EventLines.{is_blank, is_digit, begin_word, commit_word, input_of}

-- the part that a byte is
abbrev pub part_of : ℕ → Part
part_of b =
    cond (is_blank b) Blank (cond (is_digit b) (Digit (b - digit_0)) (cond (b == plus) Plus (cond (b == minus) Minus
    (cond (b == bang) Bang (cond (b == hash) Hash (cond (b == stop) Stop Other))))))

-- a digit is below ten
abbrev pub DigitFits : Part → Type 0
DigitFits (Digit d) = d < 10
DigitFits p = Unit {0}

-- what a time is: the first of an event, the second of an event whose first is given, or that of an advance
pub data Kind : Type 0 where
  OfEvent : Way → Kind
  OfSecond : Way → ℕ → Kind
  OfTime : Kind

-- where in a line the machine is: in the blanks at the front, in a comment, before this byte and these behind it, behind the mark, in
-- the gap behind it, before a time, in a time, in the gap behind that, in the atom, and in the blanks at the end
pub data State : Type 0 where
  Front : State
  Note : State
  Spell : ℕ → List ℕ → State → State
  Mark : Kind → State
  Gap : Kind → State
  Start : Kind → State
  Digits : Kind → ℕ → State
  Wait : Way → When → State
  InAtom : Way → When → atom.State → State
  End : Written → State

-- before these bytes and what comes then
abbrev pub spell : List ℕ → State → State
spell [] s = s
spell (b ∷ bytes) s = Spell b bytes s

abbrev pub spelled : ℕ → ℕ → State → Option State
spelled b c s = cond (b == c) (Some s) None

-- on with the first byte of these
abbrev pub first_of : List ℕ → State → ℕ → Option State
first_of [] s b = None
first_of (c ∷ bytes) s b = spelled b c (spell bytes s)

abbrev pub letter_c : ℕ
letter_c = 99

-- on with the first letter of a word of batches
abbrev pub in_word : ℕ → Option State
in_word b = if b == letter_c then first_of commit_word (End CommitLine) b else first_of begin_word (End BeginLine) b

abbrev pub behind_time : Kind → ℕ → State
behind_time (OfEvent w) time = Wait w (At time)
behind_time (OfSecond w start) time = Wait w (Between start time)
behind_time OfTime time = End (AdvanceLine time)

abbrev pub behind_stop : Kind → ℕ → Option State
behind_stop (OfEvent w) time = Some (Spell stop [] (Start (OfSecond w time)))
behind_stop k time = None

abbrev pub in_time : Kind → ℕ → Option State
in_time k time = cond (nat_lt time TIME_LIMIT) (Some (Digits k time)) None

abbrev pub in_atom : Way → When → Option atom.State → Option State
in_atom w when s = option_map (InAtom w when) s

-- at a part with which the atom doesn't go on
abbrev pub over : Way → When → Part → Option Tree → Option State
over w when Blank (Some t) = Some (End (EventLine w when (atom_value t)))
over w when p t = None

abbrev pub atom_on : Way → When → Part → Option Tree → Option atom.State → Option State
atom_on w when p t (Some s) = Some (InAtom w when s)
atom_on w when p t None = over w when p t

-- on with a byte and its part
abbrev pub go : State → Part → ℕ → Option State
go Front Blank b = Some Front
go Front Hash b = Some Note
go Front Plus b = Some (Mark (OfEvent Comes))
go Front Minus b = Some (Mark (OfEvent Retracted))
go Front Bang b = Some (Mark OfTime)
go Front Other b = in_word b
go Front p b = None
go Note p b = Some Note
go (Spell c bytes s) p b = spelled b c (spell bytes s)
go (Mark k) Blank b = Some (Gap k)
go (Mark k) p b = None
go (Gap k) Blank b = Some (Gap k)
go (Gap k) (Digit d) b = Some (Digits k d)
go (Gap k) p b = None
go (Start k) (Digit d) b = Some (Digits k d)
go (Start k) p b = None
go (Digits k time) Blank b = Some (behind_time k time)
go (Digits k time) (Digit d) b = in_time k (time * 10 + d)
go (Digits k time) Stop b = behind_stop k time
go (Digits k time) p b = None
go (Wait w when) Blank b = Some (Wait w when)
go (Wait w when) p b = in_atom w when (atom.step true atom.State.Begin (sign_of b))
go (InAtom w when s) p b = atom_on w when p (atom.said s) (atom.step true s (sign_of b))
go (End i) Blank b = Some (End i)
go (End i) p b = None

abbrev pub step : State → ℕ → Option State
step s b = go s (part_of b) b

-- what is written, where the line may end here
abbrev pub accepted : State → Option Written
accepted Front = Some EmptyLine
accepted Note = Some EmptyLine
accepted (Digits OfTime time) = Some (AdvanceLine time)
accepted (InAtom w when s) = option_map (λ t. EventLine w when (atom_value t)) (atom.said s)
accepted (End i) = Some i
accepted s = None

-- what a line is: what is written in it, or the place where its form breaks off
pub data Parsed : Type 0 where
  Whole : Written → Parsed
  Broken : ℕ → Parsed

abbrev pub ended : ℕ → Option Written → Parsed
ended at None = Broken at
ended at (Some i) = Whole i

abbrev pub onward : (State → ℕ → Parsed) → ℕ → Option State → Parsed
onward more at None = Broken at
onward more at (Some s) = more s (at + 1)

-- what is read of these bytes, which are left of a line from a place on
abbrev pub hear : List ℕ → State → ℕ → Parsed
hear [] s at = ended at (accepted s)
hear (b ∷ rest) s at = onward (hear rest) at (step s b)

-- the place behind the first two stops of these bytes, which are left of a line from a place on: that of the second time of a when
abbrev pub behind_stops : List ℕ → ℕ → ℕ
behind_stops [] at = at
behind_stops (b ∷ rest) at = if b == stop then at + 2 else behind_stops rest (at + 1)

-- what a line says in which this is read, with the place of its second time
abbrev pub said_by : ℕ → Option Input → Said
said_by place (Some input) = Says input
said_by place None = Fails place

abbrev pub said_of : ℕ → Parsed → Said
said_of place (Whole written) = said_by place (input_of written)
said_of place (Broken at) = Fails at

-- what a line says
unfoldable pub heard : List ℕ → Said
heard line = if nat_le (length line) MOST_LINE_BYTES then said_of (behind_stops line 0) (hear line Front 0) else Fails MOST_LINE_BYTES
