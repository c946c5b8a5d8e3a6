-- How tokens are written, and what must stand between them so that they are read again.
use Rattle.std.specs.Prelude.{ℕ, Bool, true, not, ◌&&◌, ◌||◌, ◌==◌, nat_le, nat_lt, List, [], ◌∷◌, ◌++◌, codes}
use Rattle.std.specs.Char.{is_ascii_digit, is_ascii_lowercase, is_ascii_uppercase}
use Rattle.std.specs.Fmt.{decimal}
use Rattle.std.specs.List.{list_all}
use Rattle.std.specs.Option.{is_none}
use Rattle.event_model.specs.Text.{quoted}
use Rattle.event_model.specs.declared.operators.Op.{Op}
use Rattle.event_model.specs.declared.operators.Op.TheVariants as op
use Rattle.rule_ast.specs.declared.conditions.Cmp.{Cmp}
use Rattle.rule_ast.specs.declared.conditions.Cmp.TheVariants as cmp
use Rattle.event_model.specs.Bytes.{tab, feed, space, minus}
use Rattle.rule_lexer.specs.SignBytes.{equal}
use Rattle.rule_lexer.specs.declared.tokens.TheConstants.{NUMBER_LIMIT}
use Rattle.rule_lexer.specs.declared.tokens.TokenKind.{TokenKind}
use Rattle.rule_lexer.specs.declared.tokens.TokenKind.TheVariants as kinds
use Rattle.rule_lexer.specs.declared.tokens.Word.{Word}
use Rattle.rule_lexer.specs.declared.tokens.Word.TheVariants as words
use Rattle.rule_lexer.specs.declared.tokens.Mark.{Mark}
use Rattle.rule_lexer.specs.declared.tokens.Mark.TheVariants as marks
use Rattle.rule_lexer.specs.Sorts.{is_word, is_blank, is_open_square, begins}
use Rattle.rule_lexer.specs.Spelling.{word_bytes, mark_bytes}
use Rattle.rule_lexer.specs.Reading.{word_of}
use Rattle.rule_lexer.specs.declared.terminals.Terminal.{Terminal}
use Rattle.rule_lexer.specs.declared.terminals.Terminal.TheVariants as made

abbrev pub op_word : Op → Word
op_word op.Seq = words.Seq
op_word op.And = words.And
op_word op.Par = words.Par
op_word op.Equals = words.Equals
op_word op.Meets = words.Meets
op_word op.During = words.During
op_word op.Starts = words.Starts
op_word op.Finishes = words.Finishes

abbrev pub cmp_mark : Cmp → Mark
cmp_mark cmp.Eq = marks.Equal
cmp_mark cmp.Ne = marks.NotEqual
cmp_mark cmp.Lt = marks.Less
cmp_mark cmp.Le = marks.LessEqual
cmp_mark cmp.Gt = marks.Greater
cmp_mark cmp.Ge = marks.GreaterEqual

-- the kind of the token that a terminal is written as
abbrev pub kind_of : Terminal → TokenKind
kind_of (made.Name word) = kinds.Name
kind_of (made.Var word) = kinds.Var
kind_of (made.Text text) = kinds.Text
kind_of (made.Number n) = kinds.Number n
kind_of made.Huge = kinds.Number NUMBER_LIMIT
kind_of made.Wild = kinds.Wild
kind_of (made.Op o) = kinds.Word (op_word o)
kind_of made.Or = kinds.Word words.Or
kind_of made.Not = kinds.Word words.Not
kind_of made.Where = kinds.Word words.Where
kind_of made.Within = kinds.Word words.Within
kind_of made.Show = kinds.Word words.Show
kind_of made.Open = kinds.Mark marks.OpenRound
kind_of made.Close = kinds.Mark marks.CloseRound
kind_of made.Stray = kinds.Mark marks.OpenSquare
kind_of made.Square = kinds.Mark marks.CloseSquare
kind_of made.Comma = kinds.Mark marks.Comma
kind_of made.Arrow = kinds.Mark marks.Arrow
kind_of made.Plus = kinds.Mark marks.Plus
kind_of made.Minus = kinds.Mark marks.Minus
kind_of made.Star = kinds.Mark marks.Star
kind_of made.Slash = kinds.Mark marks.Slash
kind_of made.Percent = kinds.Mark marks.Percent
kind_of (made.Compare c) = kinds.Mark (cmp_mark c)
kind_of made.Both = kinds.Mark marks.Both
kind_of made.Either = kinds.Mark marks.Either
kind_of made.Bang = kinds.Mark marks.Bang
kind_of made.Limits = kinds.Mark marks.Limits
kind_of made.Length = kinds.Mark marks.Length
kind_of made.End = kinds.Mark marks.End

-- the bytes of a kind of tokens that has one spelling, and none of another kind
abbrev pub fixed_bytes : TokenKind → List ℕ
fixed_bytes (kinds.Word w) = word_bytes w
fixed_bytes (kinds.Mark m) = mark_bytes m
fixed_bytes kinds.Wild = codes "_"
fixed_bytes kind = []

-- how a terminal is written: a text with its escapes, a number in decimal
abbrev pub spelling : Terminal → List ℕ
spelling (made.Name word) = word
spelling (made.Var word) = word
spelling (made.Text text) = quoted text
spelling (made.Number n) = decimal n
spelling made.Huge = codes "9223372036854775808"
spelling t = fixed_bytes (kind_of t)

-- a first byte of some sort, and then letters, digits and `_`; and no reserved word
abbrev pub is_free_word : (ℕ → Bool) → List ℕ → Bool
is_free_word first word = begins first word && (list_all is_word word && is_none (word_of word))

-- a byte that a text may have: no control byte but tab and line feed
abbrev pub is_text_byte : ℕ → Bool
is_text_byte b = nat_le space b || (b == tab || b == feed)

-- what a terminal holds can be written
abbrev pub is_proper : Terminal → Bool
is_proper (made.Name word) = is_free_word is_ascii_lowercase word
is_proper (made.Var word) = is_free_word is_ascii_uppercase word
is_proper (made.Text text) = list_all is_text_byte text
is_proper (made.Number n) = nat_lt n NUMBER_LIMIT
is_proper t = true

-- a byte that makes one sign with `<`
abbrev pub is_less_end : ℕ → Bool
is_less_end b = b == equal || b == minus

abbrev pub is_equal_sign : ℕ → Bool
is_equal_sign b = b == equal

-- what may stand directly behind a sign
abbrev pub mark_precedes : Mark → List ℕ → Bool
mark_precedes marks.Less rest = not (begins is_less_end rest)
mark_precedes marks.Greater rest = not (begins is_equal_sign rest)
mark_precedes marks.Bang rest = not (begins is_equal_sign rest)
mark_precedes marks.Length rest = begins is_ascii_digit rest
mark_precedes marks.End rest = not (begins is_ascii_digit rest) && not (begins is_open_square rest)
mark_precedes m rest = true

-- and behind a token
abbrev pub kind_precedes : TokenKind → List ℕ → Bool
kind_precedes kinds.Text rest = true
kind_precedes (kinds.Number n) rest = not (begins is_ascii_digit rest)
kind_precedes (kinds.Mark m) rest = mark_precedes m rest
kind_precedes kind rest = not (begins is_word rest)

-- the bytes may stand directly behind the terminal
abbrev pub may_precede : Terminal → List ℕ → Bool
may_precede t rest = kind_precedes (kind_of t) rest

-- a terminal with what stands before and behind it
pub record Piece : Type 0 where
  pub before : List ℕ
  pub terminal : Terminal
  pub after : List ℕ

-- the text of pieces
abbrev pub written : List Piece → List ℕ
written [] = []
written (p ∷ ps) = p.before ++ (spelling p.terminal ++ (p.after ++ written ps))

-- only blanks stand around terminals, each can be written, and what follows it doesn't lengthen it
abbrev pub Parted : List Piece → Bool
Parted [] = true
Parted (p ∷ ps) =
    list_all is_blank p.before && (is_proper p.terminal
    && (may_precede p.terminal (p.after ++ written ps) && (list_all is_blank p.after && Parted ps)))
