-- What goes on within the limits goes on without them, in the same way.
use Rattle.std.proofs.Common.{◌≡◌, ℕ, ◌+◌, Bool, true, false, Option, Some, None, refl}
use Rattle.event_model.specs.declared.terms.TheConstants.{MOST_ARGUMENTS, MOST_DEPTH}
use Rattle.term_reader.specs.declared.signs.Sign.{Sign}
use Rattle.term_reader.specs.declared.signs.Sign.TheVariants.{Space, Tab, Digit, Lower, Upper, Open, Close, Comma, Quote, Backslash, Minus, High}
use Rattle.term_reader.specs.Signs.{is_plain, is_escape}
use Rattle.term_reader.specs.Grammar.{Blanks, Blanks.MoreSpace, Blanks.MoreTab, Bytes.OneByte, Bytes.MoreByte, Letter.Plain, Letter.Escape, Letters.MoreLetter, Tree, Tree.Number, Tree.Name, Tree.Text, Tree.Comp, Args, Args.OneArg, Args.MoreArg, Wanted, Digits.MoreDigit}
use Rattle.term_reader.specs.Grammar.{status, in_range, has_room, number, width, FineTree, FineArgs, Fine}
use Rattle.term_reader.specs.Machine.{Stack, Stack.Top, Stack.First, Stack.Next, opened, guard, blank, behind, character, step}
use Rattle.term_reader.specs.Machine.{State, State.Begin, State.Want, State.InWord, State.Negative, State.InNumber, State.InText, State.InEscape, State.InWide, State.Behind}
use Rattle.term_reader.proofs.Walks.{FineStack, FineState}

-- the signs that can pass a limit
abbrev pub PassesLimit : Sign → Type 0
PassesLimit Open = Unit {0}
PassesLimit Comma = Unit {0}
PassesLimit (Digit d) = Unit {0}
PassesLimit s = ⊥

-- a step within the limits, and the same step without them
abbrev pub Loosens : Sign → Option State → Option State → Type 0
Loosens x (Some s) o = o ≡ Some s
Loosens x None None = Unit {0}
Loosens x None (Some s) = PassesLimit x

same : (x : Sign) (o : Option State) → Loosens x o o
same x (Some s) = refl
same x None = tt

guarded : (x : Sign) (b : Bool) (s : State) → PassesLimit x → Loosens x (guard b s) (Some s)
guarded x true s h = refl
guarded x false s h = h

behind_loosens : (k : Stack) (t : Tree) (c : Blanks) (x : Sign) → Loosens x (behind true k t c x) (behind false k t c x)
behind_loosens (Top a) t c x = tt
behind_loosens (First w b k) t c Space = refl
behind_loosens (First w b k) t c Tab = refl
behind_loosens (First w b k) t c Comma = refl
behind_loosens (First w b k) t c Close = refl
behind_loosens (First w b k) t c x = tt
behind_loosens (Next w xs b k) t c Space = refl
behind_loosens (Next w xs b k) t c Tab = refl
behind_loosens (Next w xs b k) t c Comma = guarded Comma (has_room true MOST_ARGUMENTS (width xs + 1)) _ tt
behind_loosens (Next w xs b k) t c Close = refl
behind_loosens (Next w xs b k) t c x = tt

pub step_loosens : (s : State) (x : Sign) → Loosens x (step true s x) (step false s x)
step_loosens Begin (Lower x) = refl
step_loosens Begin s = tt
step_loosens (Want k) Space = same Space (blank k MoreSpace)
step_loosens (Want k) Tab = same Tab (blank k MoreTab)
step_loosens (Want k) (Lower x) = refl
step_loosens (Want k) (Digit d) = guarded (Digit d) (in_range true false d) _ tt
step_loosens (Want k) Minus = refl
step_loosens (Want k) Quote = refl
step_loosens (Want k) s = tt
step_loosens (Negative k) (Digit d) = guarded (Digit d) (in_range true true d) _ tt
step_loosens (Negative k) s = tt
step_loosens (InNumber m ds k) (Digit d) = guarded (Digit d) (in_range true m (number (MoreDigit ds d))) _ tt
step_loosens (InNumber m ds k) s = behind_loosens k _ _ s
step_loosens (InWord w k) (Lower x) = refl
step_loosens (InWord w k) (Upper x) = refl
step_loosens (InWord w k) (Digit x) = refl
step_loosens (InWord w k) Open = guarded Open (has_room true MOST_DEPTH (opened k)) _ tt
step_loosens (InWord w k) s = behind_loosens k _ _ s
step_loosens (InText l k) Quote = refl
step_loosens (InText l k) Backslash = refl
step_loosens (InText l k) (High x) = same (High x) (character l (OneByte x) k (status (OneByte x)))
step_loosens (InText l k) s = same s (guard (is_plain s) (InText (MoreLetter l (Plain s)) k))
step_loosens (InEscape l k) s = same s (guard (is_escape s) (InText (MoreLetter l (Escape s)) k))
step_loosens (InWide l bs k) (High x) = same (High x) (character l (MoreByte bs x) k (status (MoreByte bs x)))
step_loosens (InWide l bs k) s = tt
step_loosens (Behind t k c) s = behind_loosens k t c s

-- A tree within the limits is one without them.

mutual
  loose_tree : (t : Tree) (n : ℕ) → FineTree true t n → FineTree false t n
  loose_tree (Number m ds) n f = refl
  loose_tree (Name w) n f = tt
  loose_tree (Text l) n f = f
  loose_tree (Comp w xs) n f = (refl, loose_args xs (n + 1) f.1)

  loose_args : (xs : Args) (n : ℕ) → FineArgs true xs n → FineArgs false xs n
  loose_args (OneArg b t c) n f = loose_tree t n f
  loose_args (MoreArg xs b t c) n f = (loose_args xs n f.0, refl, loose_tree t n f.2)

pub loose_fine : (a : Wanted) (t : Tree) → Fine true a t → Fine false a t
loose_fine a t f = (f.0, loose_tree t _ f.1)

loose_stack : (a : Wanted) (k : Stack) → FineStack true a k → FineStack false a k
loose_stack a (Top b) f = f
loose_stack a (First w b k) f = (refl, loose_stack a k f.1)
loose_stack a (Next w xs b k) f = (refl, loose_stack a k f.1, loose_args xs _ f.2, refl)

pub loose_state : (a : Wanted) (s : State) → FineState true a s → FineState false a s
loose_state a Begin f = f
loose_state a (Want k) f = (f.0, loose_stack a k f.1)
loose_state a (InWord w k) f = loose_stack a k f
loose_state a (Negative k) f = (f.0, loose_stack a k f.1)
loose_state a (InNumber m ds k) f = (f.0, loose_stack a k f.1, refl)
loose_state a (InText l k) f = (f.0, loose_stack a k f.1, f.2)
loose_state a (InEscape l k) f = (f.0, loose_stack a k f.1, f.2)
loose_state a (InWide l bs k) f = (f.0, loose_stack a k f.1, f.2, f.3)
loose_state a (Behind t k c) f = (f.0, f.1, loose_stack a k f.2, loose_tree t _ f.3)
