-- The canonical text of what a rule file says. A statement stands on a line, which ends behind its stop. One blank stands on each side
-- of `<-`, of each operator between two operands, of `WHERE` and of `WITHIN`, behind `show`, and behind each comma between shown names;
-- no other blank stands anywhere.
use Rattle.std.specs.Prelude.{ℕ, List, [], ◌∷◌, map}
use Rattle.event_model.specs.Bytes.{feed, space}
use Rattle.rule_ast.specs.Trees.{PlainStatement}
use Rattle.rule_lexer.specs.declared.terminals.Terminal.{Terminal}
use Rattle.rule_lexer.specs.declared.terminals.Terminal.TheVariants.{Arrow, Show, End}
use Rattle.rule_lexer.specs.Writing.{Piece, written}
use Rattle.rule_grammar.specs.Marks.{Marked, Role.Binary, Role.Lists}
use Rattle.rule_grammar.specs.Tokens.{text}
use Rattle.rule_writer.specs.Forms.{text_form}

-- a token with a blank, or the end of a line, behind it; with a blank on each side; alone
abbrev pub ends_with : ℕ → Terminal → Piece
ends_with blank x = record { before = []; terminal = x; after = blank ∷ [] }

abbrev pub spaced : Terminal → Piece
spaced x = record { before = space ∷ []; terminal = x; after = space ∷ [] }

abbrev pub alone : Terminal → Piece
alone x = record { before = []; terminal = x; after = [] }

-- a token that stands between no two operands
abbrev pub by_token : Terminal → Piece
by_token Arrow = spaced Arrow
by_token Show = ends_with space Show
by_token End = ends_with feed End
by_token x = alone x

abbrev pub piece_of : Marked → Piece
piece_of (Binary, x) = spaced x
piece_of (Lists, x) = ends_with space x
piece_of (r, x) = by_token x

-- the text of tokens
abbrev pub bytes_of : List Marked → List ℕ
bytes_of ms = written (map piece_of ms)

abbrev pub canonical : List PlainStatement → List ℕ
canonical statements = bytes_of (text (text_form statements))
