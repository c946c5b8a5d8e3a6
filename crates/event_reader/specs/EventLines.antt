-- Lines of the input: how they are written, which inputs they say, and from which place on a bad line goes on as no line.
use Rattle.std.specs.Prelude.{◌≡◌, ◌≢◌, ◌⊎◌, ℕ, ◌<◌, ◌≤◌, Bool, true, ◌||◌, ◌&&◌, ◌==◌, nat_le, if◌then◌else◌, Option, Some, None, List, [], ◌∷◌, ◌++◌, length, take, codes}
use Rattle.std.specs.List.{list_all}
use Rattle.std.specs.Option.{option_map}
use Rattle.std.specs.Str.Parse.{digits_value}
use Rattle.event_model.specs.Bytes.{tab, space, bang, hash, plus, minus, stop, digit_0, digit_9}
use Rattle.event_model.specs.Spans.{PlainSpan, instant}
use Rattle.event_model.specs.Presence.{Said, Says, Fails}
use Rattle.event_model.specs.declared.atoms.Atom.{Atom}
use Rattle.event_model.specs.declared.events.TheConstants.{TIME_LIMIT}
use Rattle.event_model.specs.declared.inputs.TheConstants.{MOST_LINE_BYTES}
use Rattle.event_model.specs.declared.inputs.Input.{Input}
use Rattle.event_model.specs.declared.inputs.Input.TheVariants.{Add, Take, Advance, Nothing, Begin, Commit}
use Rattle.term_reader.specs.Grammar as grammar
use Rattle.term_reader.specs.Grammar.{Tree, Wanted.AnAtom, atom_value, Fine}
use Rattle.term_reader.specs.Signs.{signs}

-- ---- what a line says as it is written

-- whether an event comes or is retracted
pub data Way : Type 0 where
  Comes : Way
  Retracted : Way

-- when an event happened: at a time, or from a time to a second one, which may be the smaller
pub data When : Type 0 where
  At : ℕ → When
  Between : ℕ → ℕ → When

-- nothing, an event, that no event before a time comes any more, or a word of batches
pub data Written : Type 0 where
  EmptyLine : Written
  EventLine : Way → When → Atom → Written
  AdvanceLine : ℕ → Written
  BeginLine : Written
  CommitLine : Written

-- the span of a when; none where its first time is greater than the second
abbrev pub span_of_when : When → Option PlainSpan
span_of_when (At time) = Some (instant time)
span_of_when (Between start end) = if nat_le start end then Some (record { start = start; end = end }) else None

abbrev pub of_event : Way → Atom → PlainSpan → Input
of_event Comes atom span = Add (record { span = span; atom = atom })
of_event Retracted atom span = Take (record { span = span; atom = atom })

-- the input that is said; none where the first time of a when is greater than the second
abbrev pub input_of : Written → Option Input
input_of EmptyLine = Some Nothing
input_of (EventLine way when atom) = option_map (of_event way atom) (span_of_when when)
input_of (AdvanceLine time) = Some (Advance time)
input_of BeginLine = Some Begin
input_of CommitLine = Some Commit

-- ---- parts of a line

-- a space or a tab
abbrev pub is_blank : ℕ → Bool
is_blank b = (b == space) || (b == tab)

abbrev pub all_blank : List ℕ → Bool
all_blank bytes = list_all is_blank bytes

-- one blank or more
pub record IsGap (bytes : List ℕ) : Type 0 where
  pub blank : all_blank bytes ≡ true
  pub some : bytes ≢ []

abbrev pub is_digit : ℕ → Bool
is_digit b = nat_le digit_0 b && nat_le b digit_9

-- one digit or more, with a value below the limit of times
pub record IsTime (bytes : List ℕ) (time : ℕ) : Type 0 where
  pub digits : list_all is_digit bytes ≡ true
  pub some : bytes ≢ []
  pub value : digits_value 10 bytes ≡ time
  pub small : time < TIME_LIMIT

-- a time, two stops and a second time, with no blank between them
pub record IsPair (bytes : List ℕ) (start end : ℕ) : Type 0 where
  pub first : List ℕ
  pub second : List ℕ
  pub is_first : IsTime first start
  pub is_second : IsTime second end
  pub text : bytes ≡ first ++ stop ∷ stop ∷ second

abbrev pub IsWhen : List ℕ → When → Type 0
IsWhen bytes (At time) = IsTime bytes time
IsWhen bytes (Between start end) = IsPair bytes start end

-- a text of the grammar of atoms within the limits, and the atom that it says
pub record IsAtom (bytes : List ℕ) (atom : Atom) : Type 0 where
  pub written : Tree
  pub fine : Fine true AnAtom written
  pub text : grammar.tree written [] ≡ signs bytes
  pub says : atom_value written ≡ atom

-- ---- forms of lines

-- blanks, the mark, a gap, and what stands behind it
pub record Marked (mark : ℕ) (line back : List ℕ) : Type 0 where
  pub front : List ℕ
  pub gap : List ℕ
  pub front_blank : all_blank front ≡ true
  pub is_gap : IsGap gap
  pub text : line ≡ front ++ mark ∷ (gap ++ back)

-- the mark, a when, a gap, an atom and blanks
pub record OfEvent (mark : ℕ) (line : List ℕ) (when : When) (atom : Atom) : Type 0 where
  pub times : List ℕ
  pub gap : List ℕ
  pub words : List ℕ
  pub end : List ℕ
  pub marked : Marked mark line (times ++ (gap ++ (words ++ end)))
  pub is_when : IsWhen times when
  pub is_gap : IsGap gap
  pub is_atom : IsAtom words atom
  pub end_blank : all_blank end ≡ true

-- `!`, a time and blanks
pub record OfTime (line : List ℕ) (time : ℕ) : Type 0 where
  pub digits : List ℕ
  pub end : List ℕ
  pub marked : Marked bang line (digits ++ end)
  pub is_time : IsTime digits time
  pub end_blank : all_blank end ≡ true

-- a word, with blanks before and behind it
pub record OfWord (word line : List ℕ) : Type 0 where
  pub front : List ℕ
  pub end : List ℕ
  pub front_blank : all_blank front ≡ true
  pub end_blank : all_blank end ≡ true
  pub text : line ≡ front ++ (word ++ end)

-- blanks, `#`, and any bytes
pub record IsComment (line : List ℕ) : Type 0 where
  pub front : List ℕ
  pub back : List ℕ
  pub front_blank : all_blank front ≡ true
  pub text : line ≡ front ++ hash ∷ back

abbrev pub mark_of : Way → ℕ
mark_of Comes = plus
mark_of Retracted = minus

abbrev pub begin_word : List ℕ
begin_word = codes "begin"

abbrev pub commit_word : List ℕ
commit_word = codes "commit"

-- `+` and `-` before an event, `!` before a time, the two words of batches; a line of blanks and a comment say nothing
abbrev pub HasForm : List ℕ → Written → Type 0
HasForm line EmptyLine = (all_blank line ≡ true) ⊎ IsComment line
HasForm line (EventLine way when atom) = OfEvent (mark_of way) line when atom
HasForm line (AdvanceLine time) = OfTime line time
HasForm line BeginLine = OfWord begin_word line
HasForm line CommitLine = OfWord commit_word line

-- ---- what a line says

-- the input of what is written in the line
pub record IsInput (line : List ℕ) (input : Input) : Type 0 where
  pub written : Written
  pub form : HasForm line written
  pub says : input_of written ≡ Some input

-- some line of these forms begins so
pub record Begins (front : List ℕ) : Type 0 where
  pub more : List ℕ
  pub written : Written
  pub form : HasForm (front ++ more) written

-- the length of the longest first part of the line with which some line of these forms begins
pub record IsPlace (line : List ℕ) (at : ℕ) : Type 0 where
  pub inside : at ≤ length line
  pub begins : Begins (take at line)
  pub longest : (n : ℕ) → n ≤ length line → Begins (take n line) → n ≤ at

-- the line has no form, and this is the place from which on it goes on as no line
pub record IsFormless (line : List ℕ) (at : ℕ) : Type 0 where
  pub none : (written : Written) → ¬ HasForm line written
  pub place : IsPlace line at

-- the line has the form of an event, but its first time is greater than the second, which begins at this place
pub record IsBackwards (line : List ℕ) (at : ℕ) : Type 0 where
  pub way : Way
  pub start : ℕ
  pub end : ℕ
  pub atom : Atom
  pub form : OfEvent (mark_of way) line (Between start end) atom
  pub greater : end < start
  pub place : at ≡ length (form.marked.front ++ mark_of way ∷ (form.marked.gap ++ (form.is_when.first ++ stop ∷ stop ∷ [])))

-- A line of at most `MOST_LINE_BYTES` bytes says the input of what is written in it, or fails at the place where its form breaks off or
-- at its second time; a longer line fails at `MOST_LINE_BYTES`.
abbrev pub Hears : List ℕ → Said → Type 0
Hears line (Says input) = (length line ≤ MOST_LINE_BYTES) × IsInput line input
Hears line (Fails at) =
    ((MOST_LINE_BYTES < length line) × (at ≡ MOST_LINE_BYTES))
    ⊎ ((length line ≤ MOST_LINE_BYTES) × (IsFormless line at ⊎ IsBackwards line at))
