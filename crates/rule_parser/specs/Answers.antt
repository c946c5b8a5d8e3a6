-- What is said of a text: its rules, or where it goes wrong.
use Rattle.std.specs.Prelude.{◌≡◌, ℕ, ◌-◌, ◌⊎◌, Bool, true, false, List, [], ◌∷◌, length, drop, Result, Ok, Err}
use Rattle.rule_ast.specs.Trees.{PlainStatement}
use Rattle.rule_ast.specs.Plain.{plain_rules}
use Rattle.rule_ast.specs.declared.statements.RuleSet.{RuleSet}
use Rattle.rule_lexer.specs.declared.terminals.Terminal.{Terminal}
use Rattle.rule_lexer.specs.Lexing.{Lexing}
use Rattle.rule_grammar.specs.declared.faults.Which.{Which}
use Rattle.rule_grammar.specs.declared.faults.Fault.TheVariants as fault
use Rattle.rule_grammar.specs.Trees.{Statements, Statements.Empty}
use Rattle.rule_grammar.specs.Machine.{run, State.Between}
use Rattle.rule_grammar.specs.Marks.{Marked, nothing_counted}
use Rattle.rule_grammar.specs.Tokens.{bare}
use Rattle.rule_grammar.specs.Texts.{IsWithin, Viable, SyntaxAt, LimitAt}
use Rattle.rule_grammar.specs.Files.{Holds}
use Rattle.rule_grammar.specs.Values.{text_value}
use Rattle.rule_parser.specs.declared.faults.ParseFault.{ParseFault}
use Rattle.rule_parser.specs.declared.faults.ParseFault.TheVariants.{Syntax, Limit, Memory}

-- the first element, or another value where there is none
abbrev pub first_or : ℕ → List ℕ → ℕ
first_or n [] = n
first_or n (x ∷ xs) = x

-- the place of the token with which so many are left, or of the end
abbrev pub place_of : List ℕ → ℕ → ℕ → ℕ
place_of places end left = first_or end (drop (length places - left) places)

-- a text of the grammar begins with all these tokens, and none of them passes a limit
pub record Begins (terminals : List Terminal) : Type 0 where
  pub marks : List Marked
  pub tokens : bare marks ≡ terminals
  pub viable : Viable marks
  pub within : IsWithin nothing_counted marks

-- bad syntax at a token or at the end of the tokens; or all tokens are well and no token begins where they end
abbrev pub Wrong : List Terminal → Bool → ℕ → Type 0
Wrong terminals true left = SyntaxAt terminals left
Wrong terminals false left = SyntaxAt terminals left ⊎ ((left ≡ 0) × Begins terminals)

-- the first place with which no text of the grammar goes on
pub record SyntaxIn (text : List ℕ) (at : ℕ) : Type 0 where
  pub terminals : List Terminal
  pub places : List ℕ
  pub end : ℕ
  pub whole : Bool
  pub lexing : Lexing text 0 terminals places end whole
  pub left : ℕ
  pub wrong : Wrong terminals whole left
  pub place : at ≡ place_of places end left

-- the place of the first token that passes a limit, in a text that is good so far
pub record LimitIn (text : List ℕ) (which : Which) (at : ℕ) : Type 0 where
  pub terminals : List Terminal
  pub places : List ℕ
  pub end : ℕ
  pub whole : Bool
  pub lexing : Lexing text 0 terminals places end whole
  pub left : ℕ
  pub passed : LimitAt terminals which left
  pub place : at ≡ place_of places end left

abbrev pub Answers : List ℕ → Result RuleSet ParseFault → Type 0
Answers text (Ok r) = Holds text (plain_rules r)
Answers text (Err (Syntax at)) = SyntaxIn text at
Answers text (Err (Limit which at)) = LimitIn text which at
Answers text (Err Memory) = Unit {0}

-- these rules, unless memory ran out
abbrev pub Gives : List PlainStatement → Result RuleSet ParseFault → Type 0
Gives rules (Ok r) = plain_rules r ≡ rules
Gives rules (Err (Syntax at)) = ⊥
Gives rules (Err (Limit which at)) = ⊥
Gives rules (Err Memory) = Unit {0}

-- the same, by what a run over the tokens says
pub record Fits (terminals : List Terminal) (rules : List PlainStatement) : Type 0 where
  pub tree : Statements
  pub runs : run terminals nothing_counted (Between Empty) ≡ Ok tree
  pub says : text_value tree ≡ rules

pub record Misfits (terminals : List Terminal) (places : List ℕ) (end : ℕ) (whole : Bool) (at : ℕ) : Type 0 where
  pub left : ℕ
  pub place : at ≡ place_of places end left
  pub runs : (run terminals nothing_counted (Between Empty) ≡ Err (fault.Syntax left))
      ⊎ ((whole ≡ false) × (left ≡ 0) × (tree : Statements) × (run terminals nothing_counted (Between Empty) ≡ Ok tree))

pub record Passes (terminals : List Terminal) (places : List ℕ) (end : ℕ) (which : Which) (at : ℕ) : Type 0 where
  pub left : ℕ
  pub place : at ≡ place_of places end left
  pub runs : run terminals nothing_counted (Between Empty) ≡ Err (fault.Limit which left)

abbrev pub Parsed : List Terminal → List ℕ → ℕ → Bool → Result RuleSet ParseFault → Type 0
Parsed terminals places end whole (Ok r) = (whole ≡ true) × Fits terminals (plain_rules r)
Parsed terminals places end whole (Err (Syntax at)) = Misfits terminals places end whole at
Parsed terminals places end whole (Err (Limit which at)) = Passes terminals places end which at
Parsed terminals places end whole (Err Memory) = Unit {0}
