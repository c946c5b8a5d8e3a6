-- Where a token begins and ends in a text, and why none does.
use Rattle.std.specs.Prelude.{◌≡◌, ℕ, ◌+◌, ◌<◌, ◌≤◌, Bool, true, false, cond, ◌==◌, ◌||◌, not, List, [], ◌∷◌, ◌++◌, length, drop, slice_range, Option, Some, None, Result, Ok, Err, suc}
use Rattle.std.specs.Char.{is_ascii_digit}
use Rattle.std.specs.List.{take_while}
use Rattle.event_model.specs.Bytes.{feed, quote, hash, backslash}
use Rattle.rule_lexer.specs.declared.tokens.TheConstants.{NUMBER_LIMIT}
use Rattle.rule_lexer.specs.declared.tokens.TokenKind.{TokenKind}
use Rattle.rule_lexer.specs.declared.tokens.Token.{Token}
use Rattle.rule_lexer.specs.declared.tokens.LexFault.{LexFault}
use Rattle.rule_lexer.specs.declared.tokens.LexKind.{LexKind}
use Rattle.rule_lexer.specs.declared.tokens.LexKind.TheVariants.{Byte, OpenText, BadEscape, NumberRange}
use Rattle.rule_lexer.specs.Sorts.{is_quote, is_blank, begins}
use Rattle.rule_lexer.specs.Spelling.{IsToken, number_of, is_escape, are_characters}

-- a byte of a comment, or a blank or the sign that begins a comment
abbrev pub is_skipped : Bool → ℕ → Bool
is_skipped true b = true
is_skipped false b = is_blank b || b == hash

-- whether a comment goes on behind the byte: its line feed ends it
abbrev pub comments : Bool → ℕ → Bool
comments true b = not (b == feed)
comments false b = b == hash

-- how many bytes blanks and comments take, inside of a comment or not
abbrev pub skipped : Bool → List ℕ → ℕ
skipped in_comment [] = 0
skipped in_comment (b ∷ bytes) = cond (is_skipped in_comment b) (suc (skipped (comments in_comment b) bytes)) 0

-- the first place, from some place on, that is neither blank nor comment
abbrev pub first_place : List ℕ → ℕ → ℕ
first_place text at = at + skipped false (drop at text)

-- a token stands between two places
pub record TokenAt (text : List ℕ) (kind : TokenKind) (from to : ℕ) : Type 0 where
  pub ordered : from ≤ to
  pub within : to ≤ length text
  pub token : IsToken kind (slice_range text from to) (drop to text)

-- and none that begins there is longer
pub record IsLongest (text : List ℕ) (kind : TokenKind) (from to : ℕ) : Type 0 where
  pub stands : TokenAt text kind from to
  pub longest : (k : TokenKind) (n : ℕ) → to < n → ¬ TokenAt text k from n

abbrev pub NoneFrom : List ℕ → ℕ → Type 0
NoneFrom text from = (k : TokenKind) (n : ℕ) → ¬ TokenAt text k from n

-- characters of a text, and a backslash that begins no escape
pub record HasBadEscape (bytes : List ℕ) : Type 0 where
  pub inside : List ℕ
  pub behind : List ℕ
  pub whole : bytes ≡ quote ∷ inside ++ backslash ∷ behind
  pub characters : are_characters false inside ≡ true
  pub no_escape : begins is_escape behind ≡ false

-- why no token begins where the bytes begin
abbrev pub Faulty : LexKind → List ℕ → Type 0
Faulty BadEscape bytes = HasBadEscape bytes
Faulty OpenText bytes = (begins is_quote bytes ≡ true) × ¬ HasBadEscape bytes
Faulty NumberRange bytes = (begins is_ascii_digit bytes ≡ true) × (NUMBER_LIMIT < number_of (take_while is_ascii_digit bytes))
Faulty Byte bytes = (begins is_quote bytes ≡ false) × (begins is_ascii_digit bytes ≡ false)

abbrev pub IfToken : Result (Option Token) LexFault → (Token → Type 0) → Type 0
IfToken (Ok (Some t)) P = P t
IfToken (Ok None) P = Unit {0}
IfToken (Err f) P = Unit {0}
