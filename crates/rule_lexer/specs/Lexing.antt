-- What the tokens of a whole text are, and where they begin.
use Rattle.std.specs.Prelude.{◌≡◌, ℕ, ◌-◌, ◌<◌, Bool, true, false, cond, if◌then◌else◌, ◌==◌, List, [], ◌∷◌, length, slice_range}
use Rattle.event_model.specs.declared.operators.Op.TheVariants as op
use Rattle.rule_ast.specs.declared.conditions.Cmp.TheVariants as cmp
use Rattle.event_model.specs.Bytes.{tab, feed, backslash}
use Rattle.rule_lexer.specs.SignBytes.{letter_n, letter_t}
use Rattle.rule_lexer.specs.declared.tokens.TheConstants.{NUMBER_LIMIT}
use Rattle.rule_lexer.specs.declared.tokens.TokenKind.{TokenKind}
use Rattle.rule_lexer.specs.declared.tokens.TokenKind.TheVariants as kinds
use Rattle.rule_lexer.specs.declared.tokens.Word.{Word}
use Rattle.rule_lexer.specs.declared.tokens.Word.TheVariants as words
use Rattle.rule_lexer.specs.declared.tokens.Mark.{Mark}
use Rattle.rule_lexer.specs.declared.tokens.Mark.TheVariants as marks
use Rattle.rule_lexer.specs.Places.{first_place, IsLongest, NoneFrom}
use Rattle.rule_lexer.specs.declared.terminals.Terminal.{Terminal}
use Rattle.rule_lexer.specs.declared.terminals.Terminal.TheVariants as made

-- what a byte behind a backslash stands for
abbrev pub escaped_byte : ℕ → ℕ
escaped_byte b = if b == letter_n then feed else (if b == letter_t then tab else b)

-- characters of a text with the escapes read; `escaped` says that a backslash stands before them
abbrev pub unescaped : Bool → List ℕ → List ℕ
unescaped escaped [] = []
unescaped true (b ∷ bytes) = escaped_byte b ∷ unescaped false bytes
unescaped false (b ∷ bytes) = cond (b == backslash) (unescaped true bytes) (b ∷ unescaped false bytes)

-- what a text says: the characters between its quotes
abbrev pub text_content : List ℕ → List ℕ
text_content bytes = unescaped false (slice_range bytes 1 (length bytes - 1))

abbrev pub word_terminal : Word → Terminal
word_terminal words.Seq = made.Op op.Seq
word_terminal words.And = made.Op op.And
word_terminal words.Par = made.Op op.Par
word_terminal words.Or = made.Or
word_terminal words.Equals = made.Op op.Equals
word_terminal words.Meets = made.Op op.Meets
word_terminal words.During = made.Op op.During
word_terminal words.Starts = made.Op op.Starts
word_terminal words.Finishes = made.Op op.Finishes
word_terminal words.Not = made.Not
word_terminal words.Where = made.Where
word_terminal words.Within = made.Within
word_terminal words.Show = made.Show

abbrev pub mark_terminal : Mark → Terminal
mark_terminal marks.OpenRound = made.Open
mark_terminal marks.CloseRound = made.Close
mark_terminal marks.OpenSquare = made.Stray
mark_terminal marks.CloseSquare = made.Square
mark_terminal marks.Comma = made.Comma
mark_terminal marks.Arrow = made.Arrow
mark_terminal marks.Plus = made.Plus
mark_terminal marks.Minus = made.Minus
mark_terminal marks.Star = made.Star
mark_terminal marks.Slash = made.Slash
mark_terminal marks.Percent = made.Percent
mark_terminal marks.Equal = made.Compare cmp.Eq
mark_terminal marks.NotEqual = made.Compare cmp.Ne
mark_terminal marks.Less = made.Compare cmp.Lt
mark_terminal marks.LessEqual = made.Compare cmp.Le
mark_terminal marks.Greater = made.Compare cmp.Gt
mark_terminal marks.GreaterEqual = made.Compare cmp.Ge
mark_terminal marks.Both = made.Both
mark_terminal marks.Either = made.Either
mark_terminal marks.Bang = made.Bang
mark_terminal marks.Limits = made.Limits
mark_terminal marks.Length = made.Length
mark_terminal marks.End = made.End

-- the terminal that a token is, by its kind and its lexeme
abbrev pub terminal_of : TokenKind → List ℕ → Terminal
terminal_of kinds.Name bytes = made.Name bytes
terminal_of kinds.Var bytes = made.Var bytes
terminal_of (kinds.Word w) bytes = word_terminal w
terminal_of kinds.Wild bytes = made.Wild
terminal_of (kinds.Number n) bytes = if n == NUMBER_LIMIT then made.Huge else made.Number n
terminal_of kinds.Text bytes = made.Text (text_content bytes)
terminal_of (kinds.Mark m) bytes = mark_terminal m

-- the longest token from one place on ends at another, and is this terminal
pub record TerminalAt (text : List ℕ) (terminal : Terminal) (from to : ℕ) : Type 0 where
  pub kind : TokenKind
  pub longest : IsLongest text kind from to
  pub says : terminal ≡ terminal_of kind (slice_range text from to)

-- from a place on, a text has these terminals, which begin at these places, one behind the other. They are all where `whole`:
-- only blanks and comments are left, and `end` is the text's end. Else no token begins at `end`
abbrev pub Lexing : List ℕ → ℕ → List Terminal → List ℕ → ℕ → Bool → Type 0
Lexing text at [] [] end true = (first_place text at ≡ length text) × (end ≡ length text)
Lexing text at [] [] end false = (end ≡ first_place text at) × (end < length text) × NoneFrom text end
Lexing text at [] (p ∷ ps) end whole = ⊥
Lexing text at (t ∷ ts) [] end whole = ⊥
Lexing text at (t ∷ ts) (p ∷ ps) end whole =
    (to : ℕ) × ((p ≡ first_place text at) × TerminalAt text t p to × Lexing text to ts ps end whole)
