-- Which tokens are a text of the grammar within the limits, and where other tokens go wrong.
use Rattle.std.specs.Prelude.{◌≡◌, ◌≢◌, ℕ, List, [], ◌∷◌, ◌++◌, length, Some, None, Result, Ok, Err}
use Rattle.rule_lexer.specs.declared.terminals.Terminal.{Terminal}
use Rattle.rule_grammar.specs.declared.faults.Which.{Which}
use Rattle.rule_grammar.specs.declared.faults.Fault.{Fault}
use Rattle.rule_grammar.specs.declared.faults.Fault.TheVariants.{Syntax, Limit}
use Rattle.rule_grammar.specs.Trees.{Statements}
use Rattle.rule_grammar.specs.Marks.{Marked, Counted, nothing_counted, count, count_all, passed}
use Rattle.rule_grammar.specs.Tokens.{text, bare}

-- no token passes a limit
abbrev pub IsWithin : Counted → List Marked → Type 0
IsWithin g [] = Unit {0}
IsWithin g (m ∷ ms) = (passed (count g m) m.0 ≡ None) × IsWithin (count g m) ms

-- the tokens are a text with this tree, within the limits
pub record Reads (ts : List Terminal) (ss : Statements) : Type 0 where
  pub tokens : bare (text ss) ≡ ts
  pub within : IsWithin nothing_counted (text ss)

-- some text of the grammar begins so
abbrev pub Viable : List Marked → Type 0
Viable front = (ss : Statements) × (more : List Marked) × (text ss ≡ front ++ more)

-- no text goes on behind front with the first token of rest, or ends there where rest has none
abbrev pub NoneGoesOn : List Terminal → List Terminal → Type 0
NoneGoesOn front [] = (ss : Statements) → bare (text ss) ≢ front
NoneGoesOn front (t ∷ rest) = (ss : Statements) (more : List Terminal) → bare (text ss) ≢ front ++ t ∷ more

-- bad syntax, with so many tokens left; what stands before it begins a text and passes no limit
pub record SyntaxAt (ts : List Terminal) (left : ℕ) : Type 0 where
  pub front : List Marked
  pub rest : List Terminal
  pub whole : ts ≡ bare front ++ rest
  pub place : length rest ≡ left
  pub viable : Viable front
  pub within : IsWithin nothing_counted front
  pub none : NoneGoesOn (bare front) rest

-- a token of good syntax passes a limit, with so many tokens left from it on; no token before it does
pub record LimitAt (ts : List Terminal) (which : Which) (left : ℕ) : Type 0 where
  pub front : List Marked
  pub token : Marked
  pub rest : List Terminal
  pub whole : ts ≡ bare front ++ token.1 ∷ rest
  pub place : length (token.1 ∷ rest) ≡ left
  pub viable : Viable (front ++ token ∷ [])
  pub within : IsWithin nothing_counted front
  pub passes : passed (count (count_all nothing_counted front) token) token.0 ≡ Some which

-- what the answers of a reader of tokens say
abbrev pub Means : List Terminal → Result Statements Fault → Type 0
Means ts (Ok ss) = Reads ts ss
Means ts (Err (Syntax left)) = SyntaxAt ts left
Means ts (Err (Limit which left)) = LimitAt ts which left
