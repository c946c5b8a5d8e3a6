-- What a byte is to the grammars of terms and lines, and which bytes are a character.
use Rattle.std.specs.Prelude.{ℕ, ◌+◌, ◌<◌, ◌-◌, zero, suc, Bool, true, false, List, [], ◌∷◌, map, cond, ◌==◌, nat_lt, nat_le, ◌&&◌, ◌||◌}
use Rattle.event_model.specs.Bytes.{tab, feed, space, quote, open_round, close_round, plus, comma, minus, digit_0, digit_9, backslash, underscore}
use Rattle.term_reader.specs.declared.signs.TheConstants.{ASCII_LIMIT}
use Rattle.term_reader.specs.declared.signs.Sign.{Sign}
use Rattle.term_reader.specs.declared.signs.Sign.TheVariants.{Space, Tab, Digit, Lower, Upper, Open, Close, Comma, Quote, Backslash, Minus, Plus, Control, High, Other}
use Rattle.term_reader.specs.declared.signs.Need.{Need}
use Rattle.term_reader.specs.declared.signs.Status.{Status}
use Rattle.term_reader.specs.declared.signs.Status.TheVariants.{Wrong, Whole, Needs}

-- bytes of letters
abbrev pub lower_a : ℕ
lower_a = 97

abbrev pub lower_n : ℕ
lower_n = 110

abbrev pub lower_t : ℕ
lower_t = 116

abbrev pub lower_z : ℕ
lower_z = 122

abbrev pub upper_a : ℕ
upper_a = 65

abbrev pub upper_z : ℕ
upper_z = 90

-- the sign of a byte; `_` is among the upper letters, and a digit has its value
abbrev pub sign_of : ℕ → Sign
sign_of b =
    cond (b == space) Space (cond (b == tab) Tab (cond (b == open_round) Open (cond (b == close_round) Close
    (cond (b == comma) Comma (cond (b == quote) Quote (cond (b == backslash) Backslash
    (cond (b == minus) Minus (cond (b == plus) Plus (cond (b == underscore) (Upper b)
    (cond (nat_lt b space) (Control b) (cond (nat_le ASCII_LIMIT b) (High b)
    (cond (nat_le digit_0 b && nat_le b digit_9) (Digit (b - digit_0))
    (cond (nat_le lower_a b && nat_le b lower_z) (Lower b)
    (cond (nat_le upper_a b && nat_le b upper_z) (Upper b) (Other b)))))))))))))))

-- the byte of a sign
abbrev pub byte_of : Sign → ℕ
byte_of Space = space
byte_of Tab = tab
byte_of (Digit d) = d + digit_0
byte_of (Lower b) = b
byte_of (Upper b) = b
byte_of Open = open_round
byte_of Close = close_round
byte_of Comma = comma
byte_of Quote = quote
byte_of Backslash = backslash
byte_of Minus = minus
byte_of Plus = plus
byte_of (Control b) = b
byte_of (High b) = b
byte_of (Other b) = b

unfoldable pub signs : List ℕ → List Sign
signs bytes = map sign_of bytes

-- a digit is below ten
abbrev pub DigitFits : Sign → Type 0
DigitFits (Digit d) = d < 10
DigitFits s = Unit {0}

-- a character of a text by itself, and behind a backslash
abbrev pub is_plain : Sign → Bool
is_plain Tab = false
is_plain Quote = false
is_plain Backslash = false
is_plain (Control b) = false
is_plain (High b) = false
is_plain s = true

abbrev pub is_escape : Sign → Bool
is_escape Quote = true
is_escape Backslash = true
is_escape (Lower b) = (b == lower_n) || (b == lower_t)
is_escape s = false

-- what stands for an escape in the text: a line feed for `n`, a tab for `t`
abbrev pub escaped : Sign → ℕ
escaped (Lower b) = cond (b == lower_n) feed tab
escaped s = byte_of s

-- a character goes on with a byte from low to high, and then with so many more of 0x80 to 0xBF
abbrev pub needs : ℕ → ℕ → ℕ → Status
needs low high more = Needs (record { low = low; high = high; more = more })

-- a first byte below the number has that status, by the first such row
abbrev pub first_bytes : List (ℕ × Status)
first_bytes = (0xC2, Wrong) ∷ (0xE0, needs 0x80 0xBF 0) ∷ (0xE1, needs 0xA0 0xBF 1) ∷ (0xED, needs 0x80 0xBF 1) ∷ (0xEE, needs 0x80 0x9F 1)
    ∷ (0xF0, needs 0x80 0xBF 1) ∷ (0xF1, needs 0x90 0xBF 2) ∷ (0xF4, needs 0x80 0xBF 2) ∷ (0xF5, needs 0x80 0x8F 2) ∷ []

abbrev pub look_up : List (ℕ × Status) → ℕ → Status
look_up [] b = Wrong
look_up (r ∷ rs) b = cond (nat_lt b r.0) r.1 (look_up rs b)

abbrev pub status_first : ℕ → Status
status_first b = look_up first_bytes b

abbrev pub fits_need : Need → ℕ → Bool
fits_need n b = nat_le n.low b && nat_le b n.high

abbrev pub status_next : ℕ → Status
status_next zero = Whole
status_next (suc n) = needs 0x80 0xBF n

abbrev pub status_more : Status → ℕ → Status
status_more Wrong b = Wrong
status_more Whole b = Wrong
status_more (Needs n) b = cond (fits_need n b) (status_next n.more) Wrong

abbrev pub is_whole : Status → Bool
is_whole Wrong = false
is_whole Whole = true
is_whole (Needs n) = false
