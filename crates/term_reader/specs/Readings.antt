-- What a reading function gives, under every context.
use Rattle.std.specs.Prelude.{◌≡◌, ℕ, ◌+◌, ◌-◌, ◌<◌, ◌≤◌, Bool, true, false, List, [], ◌∷◌, ◌++◌, length, drop, Option, Some, None, Result, Ok, Err, IsUtf8}
use Rattle.std.specs.declared.alloc.Global.{Global}
use Rattle.std.specs.declared.vec.Vec.{Vec}
use Rattle.event_model.specs.declared.terms.Term.{Term}
use Rattle.event_model.specs.declared.atoms.Atom.{Atom}
use Rattle.event_model.specs.declared.terms.Term.TheVariants as made
use Rattle.event_model.specs.declared.terms.TheConstants.{MOST_ARGUMENTS}
use Rattle.term_reader.specs.declared.numbers.TheConstants.{NUMBER_LIMIT}
use Rattle.term_reader.specs.declared.faults.TermFault.{TermFault}
use Rattle.term_reader.specs.declared.faults.TermFault.TheVariants.{Syntax, TooDeep, TooWide, NumberRange, Memory}
use Rattle.term_reader.specs.declared.peeking.Mark.{Mark}
use Rattle.term_reader.specs.declared.peeking.Mark.TheVariants.{More, Last}
use Rattle.term_reader.specs.declared.signs.Sign.{Sign}
use Rattle.term_reader.specs.declared.signs.Sign.TheVariants.{Space, Tab, Digit, Lower, Upper, Open, Close, Comma, Quote, Backslash, High}
use Rattle.term_reader.specs.declared.signs.Need.{Need}
use Rattle.term_reader.specs.declared.signs.Status.{Status}
use Rattle.term_reader.specs.declared.signs.Status.TheVariants.{Wrong, Needs}
use Rattle.term_reader.specs.Signs.{sign_of, DigitFits, is_escape, escaped}
use Rattle.term_reader.specs.Grammar.{Blanks, Blanks.NoBlank, Blanks.MoreSpace, Blanks.MoreTab, Digits, Digits.OneDigit, Word, Bytes, Letter, Letters, Letters.NoLetter, Letters.MoreLetter, Tree, Tree.Number, Tree.Text, Tree.Comp, Args, Args.OneArg, Args.MoreArg, Wanted, Wanted.AnyTerm, Wanted.AnAtom, atom_value, named, number, fits, signed, decoded, texted, value, values, width, raw, status}
use Rattle.term_reader.specs.Machine.{Stack, Stack.Top, Stack.First, Stack.Next, State, State.Begin, State.Want, State.InWord, State.Negative, State.InNumber, State.InText, State.InWide, State.Behind, opened, step, start}
use Rattle.term_reader.specs.Steps.{Kind.Bad, Kind.Deep, Kind.Wide, Kind.Range, Outcome, Outcome.Reads, Outcome.Stops, run}

abbrev pub is_word : Sign → Bool
is_word (Lower b) = true
is_word (Upper b) = true
is_word (Digit d) = true
is_word s = false

abbrev pub is_lower : Sign → Bool
is_lower (Lower b) = true
is_lower s = false

abbrev pub is_digit : Sign → Bool
is_digit (Digit d) = true
is_digit s = false

abbrev pub is_open : Sign → Bool
is_open Open = true
is_open s = false

abbrev pub is_blank : Sign → Bool
is_blank Space = true
is_blank Tab = true
is_blank s = false

-- what stands behind an argument
abbrev pub is_mark : Sign → Bool
is_mark Comma = true
is_mark Close = true
is_mark s = false

abbrev pub is_high : Sign → Bool
is_high (High b) = true
is_high s = false

abbrev pub is_quote : Sign → Bool
is_quote Quote = true
is_quote s = false

-- begins no plain character of a text
abbrev pub is_special : Sign → Bool
is_special Quote = true
is_special Backslash = true
is_special (High b) = true
is_special s = false

abbrev pub MaybeEscape : Sign → Option ℕ → Type 0
MaybeEscape s None = is_escape s ≡ false
MaybeEscape s (Some b) = (is_escape s ≡ true) × (b ≡ escaped s)

abbrev pub MaybeNeed : Status → Option Need → Type 0
MaybeNeed s None = s ≡ Wrong
MaybeNeed s (Some n) = s ≡ Needs n

-- the greatest size of a number
abbrev pub most_of : Bool → ℕ
most_of true = NUMBER_LIMIT
most_of false = NUMBER_LIMIT - 1

-- this sign stands at the place
pub record SignAt (bytes : List ℕ) (at : ℕ) (s : Sign) : Type 0 where
  pub byte : ℕ
  pub next : drop at bytes ≡ byte ∷ drop (at + 1) bytes
  pub is : sign_of byte ≡ s
  pub inside : at < length bytes
  pub digit : DigitFits s

abbrev pub MaybeSign : List ℕ → ℕ → Option Sign → Type 0
MaybeSign bytes at None = drop at bytes ≡ []
MaybeSign bytes at (Some s) = SignAt bytes at s

-- whether the first sign passes the test
abbrev pub begins : (Sign → Bool) → List ℕ → Bool
begins p [] = false
begins p (b ∷ rest) = p (sign_of b)

abbrev pub MaybeMark : List ℕ → ℕ → Option Mark → Type 0
MaybeMark bytes at None = begins is_mark (drop at bytes) ≡ false
MaybeMark bytes at (Some More) = SignAt bytes at Comma
MaybeMark bytes at (Some Last) = SignAt bytes at Close

abbrev pub MaybeHigh : List ℕ → ℕ → Option ℕ → Type 0
MaybeHigh bytes at None = begins is_high (drop at bytes) ≡ false
MaybeHigh bytes at (Some b) = SignAt bytes at (High b)

-- the machine stops so
abbrev pub Fails : List ℕ → TermFault → Outcome → Type 0
Fails bytes (Syntax place) o = (place ≤ length bytes) × (o ≡ Stops Bad (drop place bytes))
Fails bytes (TooDeep place) o = (place ≤ length bytes) × (o ≡ Stops Deep (drop place bytes))
Fails bytes (TooWide place) o = (place ≤ length bytes) × (o ≡ Stops Wide (drop place bytes))
Fails bytes (NumberRange place) o = (place ≤ length bytes) × (o ≡ Stops Range (drop place bytes))
Fails bytes Memory o = Unit {0}

-- a word goes on up to a place; its letters are of one byte

abbrev pub SmallWord : Word → Type 0
SmallWord w = (rest : List ℕ) → IsUtf8 rest → IsUtf8 (named w rest)

pub record WordRead (bytes : List ℕ) (at end : ℕ) : Type 0 where
  pub ordered : at ≤ end
  pub inside : end ≤ length bytes
  pub reads : (w : Word) → SmallWord w
      → (v : Word) × SmallWord v × ((k : Stack) → run (drop at bytes) (InWord w k) ≡ run (drop end bytes) (InWord v k))
      × (named w (drop at bytes) ≡ named v (drop end bytes))

-- blanks go on up to a place
pub record BlanksRead (bytes : List ℕ) (at end : ℕ) : Type 0 where
  pub ordered : at ≤ end
  pub inside : end ≤ length bytes
  pub reads : (b : Blanks) → (c : Blanks) × ((f : Blanks → State)
      → ((b : Blanks) → step true (f b) Space ≡ Some (f (MoreSpace b))) → ((b : Blanks) → step true (f b) Tab ≡ Some (f (MoreTab b)))
      → run (drop at bytes) (f b) ≡ run (drop end bytes) (f c))

-- a whole name, and what stands behind it
pub record NameRead (bytes : List ℕ) (at : ℕ) (name : List ℕ) (end : ℕ) : Type 0 where
  pub word : Word
  pub is : named word [] ≡ name
  pub ordered : at < end
  pub inside : end ≤ length bytes
  pub reads : (k : Stack) → run (drop at bytes) (Want k) ≡ run (drop end bytes) (InWord word k)
  pub starts : run (drop at bytes) Begin ≡ run (drop end bytes) (InWord word (Top AnAtom))
  pub over : begins is_word (drop end bytes) ≡ false

-- a number goes on up to a place, with this size
pub record DigitsRead (bytes : List ℕ) (negative : Bool) (so_far at size end : ℕ) : Type 0 where
  pub ordered : at ≤ end
  pub inside : end ≤ length bytes
  pub fits : fits negative size ≡ true
  pub reads : (ds : Digits) → number ds ≡ so_far → (es : Digits) × (number es ≡ size)
      × ((k : Stack) → run (drop at bytes) (InNumber negative ds k) ≡ run (drop end bytes) (InNumber negative es k))

abbrev pub DigitsAt : List ℕ → Bool → ℕ → ℕ → Result (ℕ × ℕ) TermFault → Type 0
DigitsAt bytes negative so_far at (Ok x) = DigitsRead bytes negative so_far at x.0 x.1 × (begins is_digit (drop x.1 bytes) ≡ false)
DigitsAt bytes negative so_far at (Err fault) =
    (ds : Digits) → number ds ≡ so_far → (k : Stack) → Fails bytes fault (run (drop at bytes) (InNumber negative ds k))

-- a tree stands here, with this value
pub record TreeRead (bytes : List ℕ) (at depth : ℕ) (v : Term) (end : ℕ) : Type 0 where
  pub tree : Tree
  pub says : value tree ≡ v
  pub ordered : at < end
  pub inside : end ≤ length bytes
  pub reads : (k : Stack) → opened k ≡ depth → run (drop at bytes) (Want k) ≡ run (drop end bytes) (Behind tree k NoBlank)

-- a function's result, where a term of this depth is wanted
abbrev pub TreeAt : List ℕ → ℕ → ℕ → Result (Term × ℕ) TermFault → Type 0
TreeAt bytes at depth (Ok x) = TreeRead bytes at depth x.0 x.1
TreeAt bytes at depth (Err fault) = (k : Stack) → opened k ≡ depth → Fails bytes fault (run (drop at bytes) (Want k))

-- a number, behind its first digit, and behind its minus
pub record NumberRead (bytes : List ℕ) (at : ℕ) (negative : Bool) (first : ℕ) (v : Term) (end : ℕ) : Type 0 where
  pub digits : Digits
  pub says : made.Num (signed negative (number digits)) ≡ v
  pub ordered : at ≤ end
  pub inside : end ≤ length bytes
  pub reads : (k : Stack)
      → run (drop at bytes) (InNumber negative (OneDigit first) k) ≡ run (drop end bytes) (Behind (Number negative digits) k NoBlank)

abbrev pub NumberAt : List ℕ → ℕ → Bool → ℕ → Result (Term × ℕ) TermFault → Type 0
NumberAt bytes at negative first (Ok x) = NumberRead bytes at negative first x.0 x.1
NumberAt bytes at negative first (Err fault) = (k : Stack) → Fails bytes fault (run (drop at bytes) (InNumber negative (OneDigit first) k))

pub record NegativeRead (bytes : List ℕ) (at : ℕ) (v : Term) (end : ℕ) : Type 0 where
  pub digits : Digits
  pub says : made.Num (signed true (number digits)) ≡ v
  pub ordered : at ≤ end
  pub inside : end ≤ length bytes
  pub reads : (k : Stack) → run (drop at bytes) (Negative k) ≡ run (drop end bytes) (Behind (Number true digits) k NoBlank)

abbrev pub NegativeAt : List ℕ → ℕ → Result (Term × ℕ) TermFault → Type 0
NegativeAt bytes at (Ok x) = NegativeRead bytes at x.0 x.1
NegativeAt bytes at (Err fault) = (k : Stack) → Fails bytes fault (run (drop at bytes) (Negative k))

-- a term without arguments, at any depth
abbrev pub LeafAt : List ℕ → ℕ → Result (Term × ℕ) TermFault → Type 0
LeafAt bytes at (Ok x) = (depth : ℕ) → TreeRead bytes at depth x.0 x.1
LeafAt bytes at (Err fault) = (k : Stack) → Fails bytes fault (run (drop at bytes) (Want k))

-- a letter of a text
pub record LetterRead (bytes : List ℕ) (at end : ℕ) (old new : List ℕ) : Type 0 where
  pub letter : Letter
  pub says : new ≡ old ++ decoded letter []
  pub text : IsUtf8 (decoded letter [])
  pub ordered : at < end
  pub inside : end ≤ length bytes
  pub reads : (l : Letters) (k : Stack) → run (drop at bytes) (InText l k) ≡ run (drop end bytes) (InText (MoreLetter l letter) k)

abbrev pub LetterAt : List ℕ → ℕ → List ℕ → List ℕ → Result ℕ TermFault → Type 0
LetterAt bytes at old new (Ok end) = LetterRead bytes at end old new
LetterAt bytes at old new (Err fault) = (l : Letters) (k : Stack) → Fails bytes fault (run (drop at bytes) (InText l k))

-- the bytes so far of a character
pub record WideRead (bytes : List ℕ) (at end : ℕ) (need : Need) : Type 0 where
  pub so_far : Bytes
  pub status : status so_far ≡ Needs need
  pub raw : drop at bytes ≡ raw so_far (drop end bytes)
  pub ordered : at < end
  pub inside : end ≤ length bytes
  pub reads : (l : Letters) (k : Stack) → run (drop at bytes) (InText l k) ≡ run (drop end bytes) (InWide l so_far k)

-- letters up to a place
pub record LettersRead (bytes : List ℕ) (at end : ℕ) (text : List ℕ) : Type 0 where
  pub letters : Letters
  pub says : text ≡ texted letters []
  pub utf8 : IsUtf8 text
  pub inside : end ≤ length bytes
  pub ordered : at ≤ end
  pub reads : (k : Stack) → run (drop at bytes) (InText NoLetter k) ≡ run (drop end bytes) (InText letters k)

-- the rest of a text, behind its quote
pub record TextRead (bytes : List ℕ) (at : ℕ) (text : List ℕ) (end : ℕ) : Type 0 where
  pub letters : Letters
  pub says : texted letters [] ≡ text
  pub ordered : at < end
  pub inside : end ≤ length bytes
  pub reads : (k : Stack) → run (drop at bytes) (InText NoLetter k) ≡ run (drop end bytes) (Behind (Text letters) k NoBlank)

abbrev pub TextAt : List ℕ → ℕ → Result (List ℕ × ℕ) TermFault → Type 0
TextAt bytes at (Ok x) = TextRead bytes at x.0 x.1
TextAt bytes at (Err fault) = (k : Stack) → Fails bytes fault (run (drop at bytes) (InText NoLetter k))

-- a compound that is open: no argument so far, or some
abbrev pub frame : Word → Option Args → Blanks → Stack → Stack
frame w None b k = First w b k
frame w (Some xs) b k = Next w xs b k

abbrev pub with_arg : Option Args → Blanks → Tree → Blanks → Args
with_arg None b t c = OneArg b t c
with_arg (Some xs) b t c = MoreArg xs b t c

-- an argument with its blanks
pub record ArgRead (bytes : List ℕ) (at depth : ℕ) (v : Term) (end : ℕ) : Type 0 where
  pub before : Blanks
  pub tree : Tree
  pub after : Blanks
  pub says : value tree ≡ v
  pub ordered : at ≤ end
  pub inside : end ≤ length bytes
  pub reads : (w : Word) (o : Option Args) (k : Stack) → opened k + 1 ≡ depth
      → run (drop at bytes) (Want (frame w o NoBlank k)) ≡ run (drop end bytes) (Behind tree (frame w o before k) after)

abbrev pub ArgAt : List ℕ → ℕ → ℕ → Result (Term × ℕ) TermFault → Type 0
ArgAt bytes at depth (Ok x) = ArgRead bytes at depth x.0 x.1
ArgAt bytes at depth (Err fault) =
    (w : Word) (o : Option Args) (k : Stack) → opened k + 1 ≡ depth → Fails bytes fault (run (drop at bytes) (Want (frame w o NoBlank k)))

-- the arguments so far, where the next one is wanted
abbrev pub values_of : Option Args → List Term
values_of None = []
values_of (Some xs) = values xs []

abbrev pub width_of : Option Args → ℕ
width_of None = 0
width_of (Some xs) = width xs

pub record ArgsSoFar (bytes : List ℕ) (at depth : ℕ) (items : List Term) (next : ℕ) : Type 0 where
  pub some : Option Args
  pub says : values_of some ≡ items
  pub width : width_of some ≡ length items
  pub narrow : length items < MOST_ARGUMENTS
  pub ordered : at ≤ next
  pub inside : next ≤ length bytes
  pub reads : (w : Word) (k : Stack) → opened k ≡ depth
      → run (drop at bytes) (InWord w k) ≡ run (drop next bytes) (Want (frame w some NoBlank k))

-- brackets with arguments
pub record ArgsRead (bytes : List ℕ) (at depth : ℕ) (items : List Term) (end : ℕ) : Type 0 where
  pub args : Args
  pub says : values args [] ≡ items
  pub ordered : at < end
  pub inside : end ≤ length bytes
  pub reads : (w : Word) (k : Stack) → opened k ≡ depth
      → run (drop at bytes) (InWord w k) ≡ run (drop end bytes) (Behind (Comp w args) k NoBlank)

abbrev pub ArgsAt : List ℕ → ℕ → ℕ → Result (Vec Term Global × ℕ) TermFault → Type 0
ArgsAt bytes at depth (Ok x) = ArgsRead bytes at depth x.0.items x.1
ArgsAt bytes at depth (Err fault) = (w : Word) (k : Stack) → opened k ≡ depth → Fails bytes fault (run (drop at bytes) (InWord w k))

-- a whole term or atom from one place up to another
pub record WholeRead (wanted : Wanted) (bytes : List ℕ) (at : ℕ) (t : Tree) (end : ℕ) : Type 0 where
  pub ordered : at ≤ end
  pub inside : end ≤ length bytes
  pub reads : run (drop at bytes) (start wanted) ≡ Reads t (drop end bytes)

abbrev pub TermGiven : List ℕ → ℕ → Result (Term × ℕ) TermFault → Type 0
TermGiven bytes at (Ok x) = (t : Tree) × WholeRead AnyTerm bytes at t x.1 × (value t ≡ x.0)
TermGiven bytes at (Err fault) = Fails bytes fault (run (drop at bytes) (start AnyTerm))

abbrev pub AtomGiven : List ℕ → ℕ → Result (Atom × ℕ) TermFault → Type 0
AtomGiven bytes at (Ok x) = (t : Tree) × WholeRead AnAtom bytes at t x.1 × (atom_value t ≡ x.0)
AtomGiven bytes at (Err fault) = Fails bytes fault (run (drop at bytes) (start AnAtom))
