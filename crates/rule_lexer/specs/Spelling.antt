-- Which bytes spell a token of which kind, and what may follow it.
use Rattle.std.specs.Prelude.{◌≡◌, ◌≢◌, ℕ, ◌+◌, ◌*◌, ◌-◌, ◌≤◌, Bool, true, false, ◌==◌, ◌&&◌, ◌||◌, not, nat_le, List, [], ◌∷◌, ◌++◌, codes}
use Rattle.std.specs.Char.{is_ascii_digit, is_ascii_lowercase, is_ascii_uppercase}
use Rattle.std.specs.List.{list_all}
use Rattle.event_model.specs.Bytes.{space, quote, digit_0, backslash, underscore}
use Rattle.rule_lexer.specs.SignBytes.{letter_n, letter_t}
use Rattle.rule_lexer.specs.declared.tokens.TheConstants.{NUMBER_LIMIT}
use Rattle.rule_lexer.specs.declared.tokens.TokenKind.{TokenKind}
use Rattle.rule_lexer.specs.declared.tokens.TokenKind.TheVariants.{Name, Var, Word as Reserved, Wild, Number, Text, Mark as Sign}
use Rattle.rule_lexer.specs.declared.tokens.Word.{Word}
use Rattle.rule_lexer.specs.declared.tokens.Word.TheVariants.{Seq, And, Par, Or, Equals, Meets, During, Starts, Finishes, Not, Where, Within, Show}
use Rattle.rule_lexer.specs.declared.tokens.Mark.{Mark}
use Rattle.rule_lexer.specs.declared.tokens.Mark.TheVariants.{OpenRound, CloseRound, OpenSquare, CloseSquare, Comma, Arrow, Plus, Minus, Star, Slash, Percent, Equal, NotEqual, Less, LessEqual, Greater, GreaterEqual, Both, Either, Bang, Limits, Length, End}
use Rattle.rule_lexer.specs.Sorts.{is_word, is_open_square, begins}

abbrev pub word_bytes : Word → List ℕ
word_bytes Seq = codes "SEQ"
word_bytes And = codes "AND"
word_bytes Par = codes "PAR"
word_bytes Or = codes "OR"
word_bytes Equals = codes "EQUALS"
word_bytes Meets = codes "MEETS"
word_bytes During = codes "DURING"
word_bytes Starts = codes "STARTS"
word_bytes Finishes = codes "FINISHES"
word_bytes Not = codes "NOT"
word_bytes Where = codes "WHERE"
word_bytes Within = codes "WITHIN"
word_bytes Show = codes "show"

abbrev pub mark_bytes : Mark → List ℕ
mark_bytes OpenRound = codes "("
mark_bytes CloseRound = codes ")"
mark_bytes OpenSquare = codes "["
mark_bytes CloseSquare = codes "]"
mark_bytes Comma = codes ","
mark_bytes Arrow = codes "<-"
mark_bytes Plus = codes "+"
mark_bytes Minus = codes "-"
mark_bytes Star = codes "*"
mark_bytes Slash = codes "/"
mark_bytes Percent = codes "%"
mark_bytes Equal = codes "="
mark_bytes NotEqual = codes "!="
mark_bytes Less = codes "<"
mark_bytes LessEqual = codes "<="
mark_bytes Greater = codes ">"
mark_bytes GreaterEqual = codes ">="
mark_bytes Both = codes "&"
mark_bytes Either = codes "|"
mark_bytes Bang = codes "!"
mark_bytes Limits = codes ".["
mark_bytes Length = codes "."
mark_bytes End = codes "."

-- a first byte of some sort, and then letters, digits and `_`; and no reserved word
pub record IsFreeWord (first : ℕ → Bool) (bytes : List ℕ) : Type 0 where
  pub first_byte : begins first bytes ≡ true
  pub all_bytes : list_all is_word bytes ≡ true
  pub free : (w : Word) → bytes ≢ word_bytes w

-- the value of digits behind digits of some value
abbrev pub number_from : ℕ → List ℕ → ℕ
number_from value [] = value
number_from value (b ∷ bytes) = number_from (value * 10 + (b - digit_0)) bytes

abbrev pub number_of : List ℕ → ℕ
number_of bytes = number_from 0 bytes

-- one or more digits, of a value up to the limit
pub record IsNumber (value : ℕ) (bytes : List ℕ) : Type 0 where
  pub first_byte : begins is_ascii_digit bytes ≡ true
  pub all_bytes : list_all is_ascii_digit bytes ≡ true
  pub says : number_of bytes ≡ value
  pub in_range : value ≤ NUMBER_LIMIT

-- what stands behind a backslash
abbrev pub is_escape : ℕ → Bool
is_escape b = b == quote || b == backslash || b == letter_n || b == letter_t

-- a byte of a text; `escaped` says that it stands behind the backslash of an escape
abbrev pub is_character : Bool → ℕ → Bool
is_character true b = is_escape b
is_character false b = nat_le space b && not (b == quote)

-- the backslash of an escape
abbrev pub opens_escape : Bool → ℕ → Bool
opens_escape true b = false
opens_escape false b = b == backslash

-- bytes between the quotes of a text, of which no escape lacks its end
abbrev pub are_characters : Bool → List ℕ → Bool
are_characters escaped [] = not escaped
are_characters escaped (b ∷ bytes) = is_character escaped b && are_characters (opens_escape escaped b) bytes

-- a quote, characters and a quote
pub record IsText (bytes : List ℕ) : Type 0 where
  pub inside : List ℕ
  pub whole : bytes ≡ quote ∷ inside ++ quote ∷ []
  pub characters : are_characters false inside ≡ true

abbrev pub Spells : TokenKind → List ℕ → Type 0
Spells Name bytes = IsFreeWord is_ascii_lowercase bytes
Spells Var bytes = IsFreeWord is_ascii_uppercase bytes
Spells (Reserved w) bytes = bytes ≡ word_bytes w
Spells Wild bytes = bytes ≡ underscore ∷ []
Spells (Number n) bytes = IsNumber n bytes
Spells Text bytes = IsText bytes
Spells (Sign m) bytes = bytes ≡ mark_bytes m

-- what a stop means, by what follows it
abbrev pub mark_allows : Mark → List ℕ → Bool
mark_allows Length rest = begins is_ascii_digit rest
mark_allows End rest = not (begins is_ascii_digit rest) && not (begins is_open_square rest)
mark_allows m rest = true

-- what may follow: no letter, digit or `_` behind a wildcard, no further digit behind a number
abbrev pub allows : TokenKind → List ℕ → Bool
allows Wild rest = not (begins is_word rest)
allows (Number n) rest = not (begins is_ascii_digit rest)
allows (Sign m) rest = mark_allows m rest
allows k rest = true

-- the bytes are a token of that kind where the rest follows
pub record IsToken (kind : TokenKind) (bytes rest : List ℕ) : Type 0 where
  pub spells : Spells kind bytes
  pub follows : allows kind rest ≡ true
