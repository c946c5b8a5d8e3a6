-- What a token of a text counts as, and which token passes a limit.
use Rattle.std.specs.Prelude.{ℕ, ◌+◌, cond, nat_lt, List, [], ◌∷◌, ◌++◌, length, Option, Some, None}
use Rattle.std.specs.List.{list_any}
use Rattle.std.specs.Str.{bytes_eq}
use Rattle.event_model.specs.declared.terms.TheConstants.{MOST_ARGUMENTS, MOST_DEPTH, MOST_SLOTS}
use Rattle.rule_ast.specs.declared.limits.TheConstants.{MOST_STATEMENTS, MOST_TICKS}
use Rattle.rule_lexer.specs.declared.terminals.Terminal.{Terminal}
use Rattle.rule_grammar.specs.declared.limits.TheConstants.{MOST_PARTS, MOST_BRACKETS}
use Rattle.rule_lexer.specs.declared.terminals.Terminal.TheVariants.{Var}
use Rattle.rule_grammar.specs.declared.faults.Which.{Which}
use Rattle.rule_grammar.specs.declared.faults.Which.TheVariants.{Statements, Parts, Depth, Variables, TermDepth, TermWidth, Length}

pub data Role : Type 0 where
  Quiet : Role  -- nothing
  Starts : ℕ → Role  -- it begins the n-th statement
  Single : Role  -- a part of a rule
  Binary : Role  -- a part that stands between two others
  Nests : ℕ → Role  -- it opens a bracket, the n-th that is open
  Deepens : ℕ → Role  -- it gives a term depth n
  Counts : ℕ → Role  -- it stands before the n-th argument
  Lists : Role  -- it stands before a further shown name
  Lasts : ℕ → Role  -- a length
  HasArity : ℕ → Role  -- the number of arguments of a shown name

-- a token with its role
abbrev pub Marked : Type 0
Marked = Role × Terminal

-- the parts of a rule so far, and its variables in the order of first occurrence
pub record Counted : Type 0 where
  pub parts : ℕ
  pub names : List (List ℕ)

abbrev pub nothing_counted : Counted
nothing_counted = record { parts = 0; names = [] }

-- a name at the end of a list, where it isn't in it
abbrev pub with_name : List (List ℕ) → List ℕ → List (List ℕ)
with_name names name = cond (list_any (bytes_eq name) names) names (names ++ name ∷ [])

abbrev pub with_token : List (List ℕ) → Terminal → List (List ℕ)
with_token names (Var name) = with_name names name
with_token names t = names

abbrev pub with_parts : Counted → ℕ → Terminal → Counted
with_parts g n t = record { parts = n; names = with_token g.names t }

abbrev pub count : Counted → Marked → Counted
count g (Starts n, t) = nothing_counted
count g (Single, t) = with_parts g (g.parts + 1) t
count g (Binary, t) = with_parts g (g.parts + 1) t
count g (r, t) = with_parts g g.parts t

abbrev pub count_all : Counted → List Marked → Counted
count_all g [] = g
count_all g (m ∷ ms) = count_all (count g m) ms

-- the limit that a token of a role passes, by the counts with it: the first in order
abbrev pub over : ℕ → ℕ → Which → Option Which → Option Which
over most n w o = cond (nat_lt most n) (Some w) o

abbrev pub by_role : Role → Option Which
by_role (Starts n) = over MOST_STATEMENTS n Statements None
by_role (Nests n) = over MOST_BRACKETS n Depth None
by_role (Deepens n) = over MOST_DEPTH n TermDepth None
by_role (Counts n) = over MOST_ARGUMENTS n TermWidth None
by_role (HasArity n) = over MOST_ARGUMENTS n TermWidth None
by_role (Lasts q) = over MOST_TICKS q Length None
by_role r = None

abbrev pub passed : Counted → Role → Option Which
passed g r = over MOST_PARTS g.parts Parts (over MOST_SLOTS (length g.names) Variables (by_role r))
