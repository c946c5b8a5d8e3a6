-- A machine that reads lists of arguments token by token. W is what may stand for a term, O what the outermost list stands in.
use Rattle.std.specs.Prelude.{ℕ, ◌+◌, List, ◌∷◌, Option, Some, None}
use Rattle.rule_lexer.specs.declared.terminals.Terminal.{Terminal}
use Rattle.rule_lexer.specs.declared.terminals.Terminal.TheVariants as t
use Rattle.rule_grammar.specs.Trees.{Literal.Digits, Literal.Minus, Literal.Least, Literal.Symbol, Literal.Quoted, Term, Term.Leaf, Term.Lone, Term.Compound, Arguments, Arguments.First, Arguments.Next}
use Rattle.rule_grammar.specs.Marks.{Role, Marked}
use Rattle.rule_grammar.specs.Marks.{Role.Quiet, Role.Deepens, Role.Counts}
use Rattle.rule_grammar.specs.Tokens.{quiet, count_of, arguments}

-- what stands before an argument in its list
pub data Before (W : Type 0) : Type 0 where
  Start : Before W
  Behind : Arguments W → Before W

abbrev pub put_term : {W : Type 0} → Before W → Term W → Arguments W
put_term Start a = First a
put_term (Behind as') a = Next as' a

-- the open lists: the outermost, or that of a compound inside of another one
pub data Nest (W O : Type 0) : Type 0 where
  Outside : O → Nest W O
  Inside : Nest W O → Before W → List ℕ → Nest W O

pub data ListState (W O : Type 0) : Type 0 where
  WantTerm : Nest W O → Before W → ListState W O
  WantDigits : Nest W O → Before W → ListState W O
  HaveName : Nest W O → Before W → List ℕ → ListState W O
  HaveTerms : Nest W O → Arguments W → ListState W O

-- a step stays in the lists, leaves the outermost one, or is none
pub data Turn (W O : Type 0) : Type 0 where
  Stay : Role → ListState W O → Turn W O
  Leave : O → Arguments W → Turn W O
  Stuck : Turn W O

-- the depth of the arguments of the innermost list, where those of the outermost have depth `base`
abbrev pub level : {W O : Type 0} → ℕ → Nest W O → ℕ
level base (Outside o) = base
level base (Inside n b name) = level base n + 1

abbrev pub have : {W O : Type 0} → Nest W O → Before W → Term W → Turn W O
have n b a = Stay Quiet (HaveTerms n (put_term b a))

abbrev pub have_leaf : {W O : Type 0} → Nest W O → Before W → Option W → Turn W O
have_leaf n b None = Stuck
have_leaf n b (Some w) = have n b (Leaf w)

-- a token behind an argument
abbrev pub behind_terms : {W O : Type 0} → Nest W O → Arguments W → Terminal → Turn W O
behind_terms n as' t.Comma = Stay (Counts (count_of as' + 1)) (WantTerm n (Behind as'))
behind_terms (Outside o) as' t.Close = Leave o as'
behind_terms (Inside n b name) as' t.Close = have n b (Compound name as')
behind_terms n as' x = Stuck

abbrev pub list_step : {W O : Type 0} → (Terminal → Option W) → ℕ → ListState W O → Terminal → Turn W O
list_step reads base (WantTerm n b) (t.Number k) = have n b (Lone (Digits k))
list_step reads base (WantTerm n b) t.Minus = Stay Quiet (WantDigits n b)
list_step reads base (WantTerm n b) (t.Text text) = have n b (Lone (Quoted text))
list_step reads base (WantTerm n b) (t.Name name) = Stay Quiet (HaveName n b name)
list_step reads base (WantTerm n b) x = have_leaf n b (reads x)
list_step reads base (WantDigits n b) (t.Number k) = have n b (Lone (Minus k))
list_step reads base (WantDigits n b) t.Huge = have n b (Lone Least)
list_step reads base (WantDigits n b) x = Stuck
list_step reads base (HaveName n b name) t.Open = Stay (Deepens (level base n + 1)) (WantTerm (Inside n b name) Start)
list_step reads base (HaveName n b name) x = behind_terms n (put_term b (Lone (Symbol name))) x
list_step reads base (HaveTerms n as') x = behind_terms n as' x

-- all that was read, and then rest; `spell` is the token of what stands for a term, `out` what stands before the outermost list
abbrev pub before : {W : Type 0} → (W → Terminal) → ℕ → Before W → List Marked → List Marked
before spell d Start rest = rest
before spell d (Behind as') rest = arguments spell d as' ((Counts (count_of as' + 1), t.Comma) ∷ rest)

abbrev pub nest : {W O : Type 0} → (W → Terminal) → ℕ → (O → List Marked → List Marked) → Nest W O → List Marked → List Marked
nest spell base out (Outside o) rest = out o rest
nest spell base out (Inside n b name) rest =
    nest spell base out n (before spell (level base n) b (quiet (t.Name name) ((Deepens (level base n + 1), t.Open) ∷ rest)))

abbrev pub list_so_far : {W O : Type 0} → (W → Terminal) → ℕ → (O → List Marked → List Marked) → ListState W O → List Marked → List Marked
list_so_far spell base out (WantTerm n b) rest = nest spell base out n (before spell (level base n) b rest)
list_so_far spell base out (WantDigits n b) rest = nest spell base out n (before spell (level base n) b (quiet t.Minus rest))
list_so_far spell base out (HaveName n b name) rest = nest spell base out n (before spell (level base n) b (quiet (t.Name name) rest))
list_so_far spell base out (HaveTerms n as') rest = nest spell base out n (arguments spell (level base n) as' rest)
