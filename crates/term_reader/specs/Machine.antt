-- A machine that reads a tree sign by sign. A state is what has been read, held as trees.
use Rattle.std.specs.Prelude.{ℕ, ◌+◌, Bool, true, false, List, ◌∷◌, cond, Option, Some, None}
use Rattle.event_model.specs.declared.terms.TheConstants.{MOST_ARGUMENTS, MOST_DEPTH}
use Rattle.term_reader.specs.declared.signs.Sign.{Sign}
use Rattle.term_reader.specs.declared.signs.Sign.TheVariants.{Space, Tab, Digit, Lower, Upper, Open, Close, Comma, Quote, Backslash, Minus, High}
use Rattle.term_reader.specs.declared.signs.Status.{Status}
use Rattle.term_reader.specs.declared.signs.Status.TheVariants.{Wrong, Whole, Needs}
use Rattle.term_reader.specs.Signs.{is_plain, is_escape}
use Rattle.term_reader.specs.Grammar.{Blanks, Blanks.NoBlank, Blanks.MoreSpace, Blanks.MoreTab, Digits, Digits.OneDigit, Digits.MoreDigit, Word, Word.OneLower, Word.MoreLower, Word.MoreUpper, Word.MoreNumber}
use Rattle.term_reader.specs.Grammar.{Bytes, Bytes.OneByte, Bytes.MoreByte, Letter.Plain, Letter.Escape, Letter.Wide, Letters, Letters.NoLetter, Letters.MoreLetter, Tree, Tree.Number, Tree.Name, Tree.Text, Tree.Comp, Args, Args.OneArg, Args.MoreArg, Wanted, Wanted.AnyTerm, Wanted.AnAtom}
use Rattle.term_reader.specs.Grammar.{status, in_range, has_room, number, width, first_depth, blanks, digits, word, bytes, letters, minus, tree, args}

-- the compounds that are open, the innermost first, each with the blanks before the argument that comes
pub data Stack : Type 0 where
  Top : Wanted → Stack
  First : Word → Blanks → Stack → Stack
  Next : Word → Args → Blanks → Stack → Stack

pub data State : Type 0 where
  Begin : State
  Want : Stack → State
  InWord : Word → Stack → State
  Negative : Stack → State
  InNumber : Bool → Digits → Stack → State
  InText : Letters → Stack → State
  InEscape : Letters → Stack → State
  InWide : Letters → Bytes → Stack → State
  Behind : Tree → Stack → Blanks → State

abbrev pub start : Wanted → State
start AnyTerm = Want (Top AnyTerm)
start AnAtom = Begin

-- the depth that a term here has at least
abbrev pub opened : Stack → ℕ
opened (Top a) = first_depth a
opened (First w b k) = opened k + 1
opened (Next w xs b k) = opened k + 1

abbrev pub guard : Bool → State → Option State
guard b s = cond b (Some s) None

-- one more blank before an argument
abbrev pub blank : Stack → (Blanks → Blanks) → Option State
blank (Top a) f = None
blank (First w b k) f = Some (Want (First w (f b) k))
blank (Next w xs b k) f = Some (Want (Next w xs (f b) k))

-- a sign behind a term and blanks
abbrev pub behind : Bool → Stack → Tree → Blanks → Sign → Option State
behind lim (Top a) t c s = None
behind lim (First w b k) t c Space = Some (Behind t (First w b k) (MoreSpace c))
behind lim (First w b k) t c Tab = Some (Behind t (First w b k) (MoreTab c))
behind lim (First w b k) t c Comma = Some (Want (Next w (OneArg b t c) NoBlank k))
behind lim (First w b k) t c Close = Some (Behind (Comp w (OneArg b t c)) k NoBlank)
behind lim (First w b k) t c s = None
behind lim (Next w xs b k) t c Space = Some (Behind t (Next w xs b k) (MoreSpace c))
behind lim (Next w xs b k) t c Tab = Some (Behind t (Next w xs b k) (MoreTab c))
behind lim (Next w xs b k) t c Comma = guard (has_room lim MOST_ARGUMENTS (width xs + 1)) (Want (Next w (MoreArg xs b t c) NoBlank k))
behind lim (Next w xs b k) t c Close = Some (Behind (Comp w (MoreArg xs b t c)) k NoBlank)
behind lim (Next w xs b k) t c s = None

-- on with the bytes of a character
abbrev pub character : Letters → Bytes → Stack → Status → Option State
character l bs k Wrong = None
character l bs k Whole = Some (InText (MoreLetter l (Wide bs)) k)
character l bs k (Needs n) = Some (InWide l bs k)

-- the first argument says whether the limits hold
abbrev pub step : Bool → State → Sign → Option State
step lim Begin (Lower x) = Some (InWord (OneLower x) (Top AnAtom))
step lim Begin s = None
step lim (Want k) Space = blank k MoreSpace
step lim (Want k) Tab = blank k MoreTab
step lim (Want k) (Lower x) = Some (InWord (OneLower x) k)
step lim (Want k) (Digit d) = guard (in_range lim false d) (InNumber false (OneDigit d) k)
step lim (Want k) Minus = Some (Negative k)
step lim (Want k) Quote = Some (InText NoLetter k)
step lim (Want k) s = None
step lim (Negative k) (Digit d) = guard (in_range lim true d) (InNumber true (OneDigit d) k)
step lim (Negative k) s = None
step lim (InNumber m ds k) (Digit d) = guard (in_range lim m (number (MoreDigit ds d))) (InNumber m (MoreDigit ds d) k)
step lim (InNumber m ds k) s = behind lim k (Number m ds) NoBlank s
step lim (InWord w k) (Lower x) = Some (InWord (MoreLower w x) k)
step lim (InWord w k) (Upper x) = Some (InWord (MoreUpper w x) k)
step lim (InWord w k) (Digit x) = Some (InWord (MoreNumber w x) k)
step lim (InWord w k) Open = guard (has_room lim MOST_DEPTH (opened k)) (Want (First w NoBlank k))
step lim (InWord w k) s = behind lim k (Name w) NoBlank s
step lim (InText l k) Quote = Some (Behind (Text l) k NoBlank)
step lim (InText l k) Backslash = Some (InEscape l k)
step lim (InText l k) (High x) = character l (OneByte x) k (status (OneByte x))
step lim (InText l k) s = guard (is_plain s) (InText (MoreLetter l (Plain s)) k)
step lim (InEscape l k) s = guard (is_escape s) (InText (MoreLetter l (Escape s)) k)
step lim (InWide l bs k) (High x) = character l (MoreByte bs x) k (status (MoreByte bs x))
step lim (InWide l bs k) s = None
step lim (Behind t k c) s = behind lim k t c s

-- the whole tree that was read, where it is one
abbrev pub said : State → Option Tree
said (InWord w (Top a)) = Some (Name w)
said (InNumber m ds (Top a)) = Some (Number m ds)
said (Behind t (Top a) c) = Some t
said s = None

-- all that was read up to a state, and then rest
abbrev pub stack : Stack → List Sign → List Sign
stack (Top a) rest = rest
stack (First w b k) rest = stack k (word w (Open ∷ blanks b rest))
stack (Next w xs b k) rest = stack k (word w (Open ∷ args xs (Comma ∷ blanks b rest)))

abbrev pub so_far : State → List Sign → List Sign
so_far Begin rest = rest
so_far (Want k) rest = stack k rest
so_far (InWord w k) rest = stack k (word w rest)
so_far (Negative k) rest = stack k (Minus ∷ rest)
so_far (InNumber m ds k) rest = stack k (minus m (digits ds rest))
so_far (InText l k) rest = stack k (Quote ∷ letters l rest)
so_far (InEscape l k) rest = stack k (Quote ∷ letters l (Backslash ∷ rest))
so_far (InWide l bs k) rest = stack k (Quote ∷ letters l (bytes bs rest))
so_far (Behind t k c) rest = stack k (tree t (blanks c rest))
