-- How tokens are read, from the bytes that begin at a token's place.
use Rattle.std.specs.Prelude.{ℕ, Bool, true, false, cond, ◌==◌, ◌≤◌, ◌<◌, List, [], ◌∷◌, length, take, drop, codes, Option, Some, None, Result, Ok, Err, suc, bytes_eq}
use Rattle.std.specs.Char.{is_ascii_digit}
use Rattle.event_model.specs.Bytes.{bang, quote, open_round, close_round, plus, comma, minus, stop}
use Rattle.rule_lexer.specs.SignBytes.{percent, ampersand, star, slash, less, equal, greater, open_square, close_square, bar}
use Rattle.rule_lexer.specs.declared.tokens.TokenKind.{TokenKind}
use Rattle.rule_lexer.specs.declared.tokens.LexKind.{LexKind}
use Rattle.rule_lexer.specs.declared.tokens.LexKind.TheVariants.{OpenText, BadEscape}
use Rattle.rule_lexer.specs.declared.tokens.Word.{Word}
use Rattle.rule_lexer.specs.declared.tokens.Word.TheVariants.{Seq, And, Par, Or, Equals, Meets, During, Starts, Finishes, Not, Where, Within, Show}
use Rattle.rule_lexer.specs.declared.tokens.Mark.{Mark}
use Rattle.rule_lexer.specs.declared.tokens.Mark.TheVariants.{OpenRound, CloseRound, OpenSquare, CloseSquare, Comma, Arrow, Plus, Minus, Star, Slash, Percent, Equal, NotEqual, Less, LessEqual, Greater, GreaterEqual, Both, Either, Bang, Limits, Length, End}
use Rattle.rule_lexer.specs.Sorts.{is_open_square, begins}
use Rattle.rule_lexer.specs.Spelling.{IsToken, is_character, opens_escape}
use Rattle.rule_lexer.specs.Places.{Faulty}

abbrev pub word_of : List ℕ → Option Word
word_of bytes =
    cond (bytes_eq bytes (codes "SEQ")) (Some Seq) (cond (bytes_eq bytes (codes "AND")) (Some And)
    (cond (bytes_eq bytes (codes "PAR")) (Some Par) (cond (bytes_eq bytes (codes "OR")) (Some Or)
    (cond (bytes_eq bytes (codes "EQUALS")) (Some Equals) (cond (bytes_eq bytes (codes "MEETS")) (Some Meets)
    (cond (bytes_eq bytes (codes "DURING")) (Some During) (cond (bytes_eq bytes (codes "STARTS")) (Some Starts)
    (cond (bytes_eq bytes (codes "FINISHES")) (Some Finishes) (cond (bytes_eq bytes (codes "NOT")) (Some Not)
    (cond (bytes_eq bytes (codes "WHERE")) (Some Where) (cond (bytes_eq bytes (codes "WITHIN")) (Some Within)
    (cond (bytes_eq bytes (codes "show")) (Some Show) None))))))))))))

-- a sign of two bytes
abbrev pub pair_mark : ℕ → ℕ → Option Mark
pair_mark a b = cond (b == minus) (cond (a == less) (Some Arrow) None)
    (cond (b == equal) (cond (a == bang) (Some NotEqual) (cond (a == less) (Some LessEqual) (cond (a == greater) (Some GreaterEqual) None)))
    (cond (b == open_square) (cond (a == stop) (Some Limits) None) None))

-- a sign of one byte other than a stop
abbrev pub single_mark : ℕ → Option Mark
single_mark a =
    cond (a == open_round) (Some OpenRound) (cond (a == close_round) (Some CloseRound)
    (cond (a == open_square) (Some OpenSquare) (cond (a == close_square) (Some CloseSquare) (cond (a == comma) (Some Comma)
    (cond (a == plus) (Some Plus) (cond (a == minus) (Some Minus) (cond (a == star) (Some Star) (cond (a == slash) (Some Slash)
    (cond (a == percent) (Some Percent) (cond (a == equal) (Some Equal) (cond (a == less) (Some Less) (cond (a == greater) (Some Greater)
    (cond (a == ampersand) (Some Both) (cond (a == bar) (Some Either) (cond (a == bang) (Some Bang) None)))))))))))))))

-- a stop by what stands behind it
abbrev pub stop_mark : List ℕ → Option Mark
stop_mark rest = cond (begins is_ascii_digit rest) (Some Length) (cond (begins is_open_square rest) None (Some End))

-- a sign of two bytes, and one of one byte, by what stands behind its first
abbrev pub two_mark : ℕ → List ℕ → Option Mark
two_mark a [] = None
two_mark a (b ∷ rest) = pair_mark a b

abbrev pub lone_mark : ℕ → List ℕ → Option Mark
lone_mark a rest = cond (a == stop) (stop_mark rest) (single_mark a)

-- what a byte that is no character of a text means, behind so many
abbrev pub text_stop : Bool → ℕ → ℕ → Result ℕ LexKind
text_stop true before b = Err BadEscape
text_stop false before b = cond (b == quote) (Ok before) (Err OpenText)

-- how many bytes a text has before its last quote, behind so many
abbrev pub text_end : Bool → ℕ → List ℕ → Result ℕ LexKind
text_end true before [] = Err BadEscape
text_end false before [] = Err OpenText
text_end escaped before (b ∷ bytes) =
    cond (is_character escaped b) (text_end (opens_escape escaped b) (suc before) bytes) (text_stop escaped before b)

-- the first n bytes are a token, and no more are
pub record TokenOf (bytes : List ℕ) (kind : TokenKind) (n : ℕ) : Type 0 where
  pub within : n ≤ length bytes
  pub token : IsToken kind (take n bytes) (drop n bytes)

pub record LongestOf (bytes : List ℕ) (kind : TokenKind) (n : ℕ) : Type 0 where
  pub stands : TokenOf bytes kind n
  pub longest : (k : TokenKind) (m : ℕ) → n < m → ¬ TokenOf bytes k m

pub record NoneOf (bytes : List ℕ) : Type 0 where
  pub none : (k : TokenKind) (m : ℕ) → ¬ TokenOf bytes k m

abbrev pub Scanned : List ℕ → Result (TokenKind × ℕ) LexKind → Type 0
Scanned bytes (Ok x) = LongestOf bytes x.0 x.1
Scanned bytes (Err kind) = NoneOf bytes × Faulty kind bytes
