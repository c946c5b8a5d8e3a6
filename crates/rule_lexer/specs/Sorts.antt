-- What a byte may be in a token, and what bytes begin with.
use Rattle.std.specs.Prelude.{ℕ, Bool, false, ◌==◌, ◌&&◌, ◌||◌, not, List, [], ◌∷◌}
use Rattle.std.specs.Char.{is_ascii_lowercase, is_ascii_uppercase, is_ascii_alphanumeric}
use Rattle.event_model.specs.Bytes.{tab, feed, carriage_return, space, quote, underscore}
use Rattle.rule_lexer.specs.SignBytes.{open_square}

-- letters, digits and `_`
abbrev pub is_word : ℕ → Bool
is_word b = is_ascii_alphanumeric b || b == underscore

abbrev pub is_letter : ℕ → Bool
is_letter b = is_ascii_lowercase b || is_ascii_uppercase b

abbrev pub is_quote : ℕ → Bool
is_quote b = b == quote

abbrev pub is_underscore : ℕ → Bool
is_underscore b = b == underscore

abbrev pub is_open_square : ℕ → Bool
is_open_square b = b == open_square

-- neither a letter, a digit, `_` nor a quote
abbrev pub is_sign : ℕ → Bool
is_sign b = not (is_word b) && not (is_quote b)

-- space, tab, CR and LF
abbrev pub is_blank : ℕ → Bool
is_blank b = b == space || b == tab || b == carriage_return || b == feed

-- a first byte that passes the test
abbrev pub begins : (ℕ → Bool) → List ℕ → Bool
begins test [] = false
begins test (b ∷ bytes) = test b
