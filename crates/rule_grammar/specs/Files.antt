-- Which rules the bytes of a rule file hold.
use Rattle.std.specs.Prelude.{◌≡◌, ℕ, true, List}
use Rattle.rule_ast.specs.Trees.{PlainStatement}
use Rattle.rule_lexer.specs.declared.terminals.Terminal.{Terminal}
use Rattle.rule_lexer.specs.Lexing.{Lexing}
use Rattle.rule_grammar.specs.Trees.{Statements}
use Rattle.rule_grammar.specs.Texts.{Reads}
use Rattle.rule_grammar.specs.Values.{text_value}

-- the tokens of the whole text are a text of the grammar within the limits, and it says these rules
pub record Holds (text : List ℕ) (rules : List PlainStatement) : Type 0 where
  pub terminals : List Terminal
  pub places : List ℕ
  pub end : ℕ
  pub lexing : Lexing text 0 terminals places end true
  pub tree : Statements
  pub reads : Reads terminals tree
  pub says : text_value tree ≡ rules
