-- Names of the bytes of signs, and of the letters of escapes.
use Rattle.std.specs.Prelude.{ℕ}

abbrev pub percent : ℕ
percent = 37

abbrev pub ampersand : ℕ
ampersand = 38

abbrev pub star : ℕ
star = 42

abbrev pub slash : ℕ
slash = 47

abbrev pub less : ℕ
less = 60

abbrev pub equal : ℕ
equal = 61

abbrev pub greater : ℕ
greater = 62

abbrev pub open_square : ℕ
open_square = 91

abbrev pub close_square : ℕ
close_square = 93

abbrev pub letter_n : ℕ
letter_n = 110

abbrev pub letter_t : ℕ
letter_t = 116

abbrev pub bar : ℕ
bar = 124
