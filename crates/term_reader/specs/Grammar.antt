-- Terms as they are written: trees of the grammar, the signs and the value of a tree, and which trees are within the limits.
use Rattle.std.specs.Prelude.{◌≡◌, ◌≢◌, length, ℕ, ◌+◌, ◌*◌, ◌-◌, ◌≤◌, Bool, true, false, List, [], ◌∷◌, ◌++◌, nat_le, nat_lt, zero, suc, ℤ, pos, negsuc, take, drop, ◌==◌, ◌&&◌, Result, Ok, Err}
use Rattle.event_model.specs.Bytes.{open_round, comma, digit_0, digit_9}
use Rattle.event_model.specs.declared.terms.TheConstants.{MOST_ARGUMENTS, MOST_DEPTH}
use Rattle.term_reader.specs.declared.numbers.TheConstants.{NUMBER_LIMIT}
use Rattle.term_reader.specs.declared.signs.Sign.{Sign}
use Rattle.term_reader.specs.declared.signs.Sign.TheVariants.{Space, Tab, Digit, Lower, Upper, Open, Close, Comma, Quote, Backslash, Minus, High}
use Rattle.term_reader.specs.declared.signs.Status.{Status}
use Rattle.term_reader.specs.declared.faults.TermFault.{TermFault}
use Rattle.term_reader.specs.declared.faults.TermFault.TheVariants.{Syntax, TooDeep, TooWide, NumberRange, Memory}
use Rattle.term_reader.specs.Signs.{byte_of, signs, is_plain, is_escape, escaped, status_first, status_more, is_whole}
use Rattle.event_model.specs.declared.terms.Term.{Term}
use Rattle.event_model.specs.declared.terms.Term.TheVariants as made
use Rattle.event_model.specs.declared.atoms.Atom.{Atom}

-- Each list grows at its end, as it is read.

pub data Blanks : Type 0 where
  NoBlank : Blanks
  MoreSpace : Blanks → Blanks
  MoreTab : Blanks → Blanks

pub data Digits : Type 0 where
  OneDigit : ℕ → Digits
  MoreDigit : Digits → ℕ → Digits

pub data Word : Type 0 where
  OneLower : ℕ → Word
  MoreLower : Word → ℕ → Word
  MoreUpper : Word → ℕ → Word
  MoreNumber : Word → ℕ → Word

pub data Bytes : Type 0 where
  OneByte : ℕ → Bytes
  MoreByte : Bytes → ℕ → Bytes

-- a character of a text: a sign, an escape, or a first byte with those behind it
pub data Letter : Type 0 where
  Plain : Sign → Letter
  Escape : Sign → Letter
  Wide : Bytes → Letter

pub data Letters : Type 0 where
  NoLetter : Letters
  MoreLetter : Letters → Letter → Letters

mutual
  pub data Tree : Type 0 where
    Number : Bool → Digits → Tree
    Name : Word → Tree
    Text : Letters → Tree
    Comp : Word → Args → Tree

  -- each argument with the blanks before and after it
  pub data Args : Type 0 where
    OneArg : Blanks → Tree → Blanks → Args
    MoreArg : Args → Blanks → Tree → Blanks → Args

-- the signs of each, and then rest

abbrev pub blanks : Blanks → List Sign → List Sign
blanks NoBlank rest = rest
blanks (MoreSpace b) rest = blanks b (Space ∷ rest)
blanks (MoreTab b) rest = blanks b (Tab ∷ rest)

abbrev pub digits : Digits → List Sign → List Sign
digits (OneDigit d) rest = Digit d ∷ rest
digits (MoreDigit ds d) rest = digits ds (Digit d ∷ rest)

abbrev pub word : Word → List Sign → List Sign
word (OneLower b) rest = Lower b ∷ rest
word (MoreLower w b) rest = word w (Lower b ∷ rest)
word (MoreUpper w b) rest = word w (Upper b ∷ rest)
word (MoreNumber w d) rest = word w (Digit d ∷ rest)

abbrev pub bytes : Bytes → List Sign → List Sign
bytes (OneByte x) rest = High x ∷ rest
bytes (MoreByte bs x) rest = bytes bs (High x ∷ rest)

abbrev pub letter : Letter → List Sign → List Sign
letter (Plain s) rest = s ∷ rest
letter (Escape s) rest = Backslash ∷ s ∷ rest
letter (Wide bs) rest = bytes bs rest

abbrev pub letters : Letters → List Sign → List Sign
letters NoLetter rest = rest
letters (MoreLetter l c) rest = letters l (letter c rest)

abbrev pub minus : Bool → List Sign → List Sign
minus true rest = Minus ∷ rest
minus false rest = rest

abbrev mutual
  pub tree : Tree → List Sign → List Sign
  tree (Number m ds) rest = minus m (digits ds rest)
  tree (Name w) rest = word w rest
  tree (Text l) rest = Quote ∷ letters l (Quote ∷ rest)
  tree (Comp w xs) rest = word w (Open ∷ args xs (Close ∷ rest))

  pub args : Args → List Sign → List Sign
  args (OneArg b t c) rest = blanks b (tree t (blanks c rest))
  args (MoreArg xs b t c) rest = args xs (Comma ∷ blanks b (tree t (blanks c rest)))

-- the value of each, and then rest: a name and a text as bytes

abbrev pub number : Digits → ℕ
number (OneDigit d) = d
number (MoreDigit ds d) = number ds * 10 + d

abbrev pub negated : ℕ → ℤ
negated zero = pos 0
negated (suc n) = negsuc n

abbrev pub signed : Bool → ℕ → ℤ
signed true n = negated n
signed false n = pos n

abbrev pub named : Word → List ℕ → List ℕ
named (OneLower b) rest = b ∷ rest
named (MoreLower w b) rest = named w (b ∷ rest)
named (MoreUpper w b) rest = named w (b ∷ rest)
named (MoreNumber w d) rest = named w ((d + digit_0) ∷ rest)

abbrev pub raw : Bytes → List ℕ → List ℕ
raw (OneByte x) rest = x ∷ rest
raw (MoreByte bs x) rest = raw bs (x ∷ rest)

abbrev pub decoded : Letter → List ℕ → List ℕ
decoded (Plain s) rest = byte_of s ∷ rest
decoded (Escape s) rest = escaped s ∷ rest
decoded (Wide bs) rest = raw bs rest

abbrev pub texted : Letters → List ℕ → List ℕ
texted NoLetter rest = rest
texted (MoreLetter l c) rest = texted l (decoded c rest)

abbrev mutual
  pub value : Tree → Term
  value (Number m ds) = made.Num (signed m (number ds))
  value (Name w) = made.Sym (named w [])
  value (Text l) = made.Text (texted l [])
  value (Comp w xs) = made.Comp (named w []) (values xs [])

  pub values : Args → List Term → List Term
  values (OneArg b t c) rest = value t ∷ rest
  values (MoreArg xs b t c) rest = values xs (value t ∷ rest)

abbrev pub atom_value : Tree → Atom
atom_value (Number m ds) = record { name = []; args = [] }
atom_value (Name w) = record { name = named w []; args = [] }
atom_value (Text l) = record { name = []; args = [] }
atom_value (Comp w xs) = record { name = named w []; args = values xs [] }

-- The limits of numbers, depth and width hold where the first argument is true; texts are well-formed in any case.

-- an i64
abbrev pub fits : Bool → ℕ → Bool
fits true n = nat_le n NUMBER_LIMIT
fits false n = nat_lt n NUMBER_LIMIT

abbrev pub in_range : Bool → Bool → ℕ → Bool
in_range true m n = fits m n
in_range false m n = true

-- whether one more goes where there are so many
abbrev pub has_room : Bool → ℕ → ℕ → Bool
has_room true most n = nat_lt n most
has_room false most n = true

abbrev pub status : Bytes → Status
status (OneByte b) = status_first b
status (MoreByte bs b) = status_more (status bs) b

abbrev pub FineLetters : Letters → Type 0
FineLetters NoLetter = Unit {0}
FineLetters (MoreLetter l (Plain s)) = FineLetters l × (is_plain s ≡ true)
FineLetters (MoreLetter l (Escape s)) = FineLetters l × (is_escape s ≡ true)
FineLetters (MoreLetter l (Wide bs)) = FineLetters l × (is_whole (status bs) ≡ true)

abbrev pub width : Args → ℕ
width (OneArg b t c) = 1
width (MoreArg xs b t c) = width xs + 1

-- within the limits, with the depth that a term here has at least
abbrev mutual
  pub FineTree : Bool → Tree → ℕ → Type 0
  FineTree lim (Number m ds) n = in_range lim m (number ds) ≡ true
  FineTree lim (Name w) n = Unit {0}
  FineTree lim (Text l) n = FineLetters l
  FineTree lim (Comp w xs) n = (has_room lim MOST_DEPTH n ≡ true) × FineArgs lim xs (n + 1)

  pub FineArgs : Bool → Args → ℕ → Type 0
  FineArgs lim (OneArg b t c) n = FineTree lim t n
  FineArgs lim (MoreArg xs b t c) n = FineArgs lim xs n × (has_room lim MOST_ARGUMENTS (width xs) ≡ true) × FineTree lim t n

-- what is read: a term, or an atom, whose depth isn't counted
pub data Wanted : Type 0 where
  AnyTerm : Wanted
  AnAtom : Wanted

abbrev pub Suits : Wanted → Tree → Type 0
Suits AnyTerm t = Unit {0}
Suits AnAtom (Name w) = Unit {0}
Suits AnAtom (Comp w xs) = Unit {0}
Suits AnAtom t = ⊥

abbrev pub first_depth : Wanted → ℕ
first_depth AnyTerm = 1
first_depth AnAtom = 0

abbrev pub Fine : Bool → Wanted → Tree → Type 0
Fine lim wanted t = Suits wanted t × FineTree lim t (first_depth wanted)

-- Places of a list of bytes.

-- some tree begins with these bytes
abbrev pub Viable : Bool → Wanted → List ℕ → Type 0
Viable lim wanted front = (t : Tree) × (more : List ℕ) × Fine lim wanted t × (tree t [] ≡ signs (front ++ more))

-- these bytes are the whole of no tree
abbrev pub NoneEnds : Wanted → List ℕ → Type 0
NoneEnds wanted front = (t : Tree) → Fine true wanted t → tree t [] ≢ signs front

-- no tree goes on with the next byte
abbrev pub NoneGoesOn : Bool → Wanted → List ℕ → List ℕ → Type 0
NoneGoesOn lim wanted front [] = Unit {0}
NoneGoesOn lim wanted front (b ∷ rest) = ¬ Viable lim wanted (front ++ b ∷ [])

abbrev pub between : ℕ → ℕ → List ℕ → List ℕ
between at end bytes = take (end - at) (drop at bytes)

-- a tree within the limits stands from one place up to another, and nothing goes on behind it, not even past the limits
pub record Stands (wanted : Wanted) (bytes : List ℕ) (at end : ℕ) (t : Tree) : Type 0 where
  pub ordered : at ≤ end
  pub inside : end ≤ length bytes
  pub fine : Fine true wanted t
  pub written : tree t [] ≡ signs (between at end bytes)
  pub longest : NoneGoesOn false wanted (between at end bytes) (drop end bytes)

-- the first place with whose byte no tree within the limits goes on, or the end
pub record StopsAt (wanted : Wanted) (bytes : List ℕ) (at place : ℕ) : Type 0 where
  pub ordered : at ≤ place
  pub inside : place ≤ length bytes
  pub viable : Viable true wanted (between at place bytes)
  pub none : NoneGoesOn true wanted (between at place bytes) (drop place bytes)

-- at such a place no tree ends, and none goes on past the limits
pub record BadAt (wanted : Wanted) (bytes : List ℕ) (at place : ℕ) : Type 0 where
  pub stops : StopsAt wanted bytes at place
  pub unfinished : NoneEnds wanted (between at place bytes)
  pub lost : NoneGoesOn false wanted (between at place bytes) (drop place bytes)

-- at such a place stands a byte of this kind, with which a tree goes on past the limits
pub record PastLimit (kind : ℕ → Bool) (wanted : Wanted) (bytes : List ℕ) (at place : ℕ) : Type 0 where
  pub stops : StopsAt wanted bytes at place
  pub byte : ℕ
  pub rest : List ℕ
  pub next : drop place bytes ≡ byte ∷ rest
  pub is_kind : kind byte ≡ true
  pub viable : Viable false wanted (between at place bytes ++ byte ∷ [])

abbrev pub is_open : ℕ → Bool
is_open b = b == open_round

abbrev pub is_comma : ℕ → Bool
is_comma b = b == comma

abbrev pub is_digit : ℕ → Bool
is_digit b = nat_le digit_0 b && nat_le b digit_9

abbrev pub FaultAt : Wanted → List ℕ → ℕ → TermFault → Type 0
FaultAt wanted bytes at (Syntax place) = BadAt wanted bytes at place
FaultAt wanted bytes at (TooDeep place) = PastLimit is_open wanted bytes at place
FaultAt wanted bytes at (TooWide place) = PastLimit is_comma wanted bytes at place
FaultAt wanted bytes at (NumberRange place) = PastLimit is_digit wanted bytes at place
FaultAt wanted bytes at Memory = Unit {0}

-- what reading from a place gives: a term or an atom with the place behind it, or a fault
abbrev pub TermRead : List ℕ → ℕ → Result (Term × ℕ) TermFault → Type 0
TermRead bytes at (Ok x) = (t : Tree) × Stands AnyTerm bytes at x.1 t × (value t ≡ x.0)
TermRead bytes at (Err fault) = FaultAt AnyTerm bytes at fault

abbrev pub AtomRead : List ℕ → ℕ → Result (Atom × ℕ) TermFault → Type 0
AtomRead bytes at (Ok x) = (t : Tree) × Stands AnAtom bytes at x.1 t × (atom_value t ≡ x.0)
AtomRead bytes at (Err fault) = FaultAt AnAtom bytes at fault
