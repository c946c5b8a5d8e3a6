-- Signs that are written are read.
use Rattle.std.proofs.Common.{◌≡◌, ℕ, Bool, true, false, cond, not, ◌==◌, List, [], ◌∷◌, refl, arith, Option, Some, None}
use Rattle.std.specs.Char.{is_ascii_digit}
use Rattle.std.proofs.lemmas.Bool.{and_parts, or_parts, not-true}
use Rattle.std.proofs.lemmas.Bool.Decides.{nat_tests}
use Rattle.rule_lexer.specs.declared.tokens.TokenKind.TheVariants.{Mark as Sign}
use Rattle.rule_lexer.specs.declared.tokens.Mark.{Mark}
use Rattle.rule_lexer.specs.declared.tokens.Mark.TheVariants.{OpenRound, CloseRound, OpenSquare, CloseSquare, Comma, Arrow, Plus, Minus, Star, Slash, Percent, Equal, NotEqual, Less, LessEqual, Greater, GreaterEqual, Both, Either, Bang, Limits, Length, End}
use Rattle.rule_lexer.specs.Sorts.{is_sign, is_open_square, begins}
use Rattle.rule_lexer.specs.Spelling.{mark_bytes}
use Rattle.rule_lexer.specs.Places.{is_skipped}
use Rattle.rule_lexer.specs.Reading.{pair_mark, two_mark, lone_mark}
use Rattle.rule_lexer.proofs.SignLaws.{two_longest, lone_longest}
use Rattle.rule_lexer.specs.Writing.{mark_precedes, is_less_end, is_equal_sign}
use Rattle.rule_lexer.proofs.Stands.{Stands}

lone_stands : (m : Mark) (a : ℕ) (rest : List ℕ) → is_sign a ≡ true → is_skipped false a ≡ false → two_mark a rest ≡ None → lone_mark a rest ≡ Some m → Stands (Sign m) (a ∷ []) rest
lone_stands m a rest s i e f = record { solid = i; longest = lone_longest (a ∷ rest) m s e f }

pair_stands : (m : Mark) (a b : ℕ) (rest : List ℕ) → is_sign a ≡ true → is_skipped false a ≡ false → pair_mark a b ≡ Some m → Stands (Sign m) (a ∷ b ∷ []) rest
pair_stands m a b rest s i e = record { solid = i; longest = two_longest (a ∷ b ∷ rest) m s e }

no_choice : (s t u : Bool) → cond {A = Option Mark} s None (cond t None (cond u None None)) ≡ None
no_choice true t u = refl
no_choice false true u = refl
no_choice false false true = refl
no_choice false false false = refl

-- a byte that begins no sign of two
alone : (a : ℕ) (rest : List ℕ) → (a == 60) ≡ false → (a == 33) ≡ false → (a == 62) ≡ false → (a == 46) ≡ false → two_mark a rest ≡ None
alone a [] e f g h = refl
alone a (b ∷ rest) e f g h = rw (e, f, g, h) (no_choice (b == 45) (b == 61) (b == 91))

single_stands : (m : Mark) (a : ℕ) (rest : List ℕ) → is_sign a ≡ true → is_skipped false a ≡ false → (a == 60) ≡ false → (a == 33) ≡ false → (a == 62) ≡ false → (a == 46) ≡ false → lone_mark a rest ≡ Some m → Stands (Sign m) (a ∷ []) rest
single_stands m a rest s i e f g h l = lone_stands m a rest s i (alone a rest e f g h) l

-- the other four, by what stands behind them

less_alone : (rest : List ℕ) → begins is_less_end rest ≡ false → two_mark 60 rest ≡ None
less_alone [] e = refl
less_alone (b ∷ rest) e = let both = or_parts (b == 61) (b == 45) e in rw (both.0, both.1) (no_choice false false (b == 91))

bang_alone : (rest : List ℕ) → begins is_equal_sign rest ≡ false → two_mark 33 rest ≡ None
bang_alone [] e = refl
bang_alone (b ∷ rest) e = rw e (no_choice (b == 45) false (b == 91))

greater_alone : (rest : List ℕ) → begins is_equal_sign rest ≡ false → two_mark 62 rest ≡ None
greater_alone [] e = refl
greater_alone (b ∷ rest) e = rw e (no_choice (b == 45) false (b == 91))

stop_alone : (rest : List ℕ) → begins is_open_square rest ≡ false → two_mark 46 rest ≡ None
stop_alone [] e = refl
stop_alone (b ∷ rest) e = rw e (no_choice (b == 45) (b == 61) false)

digit_not_square : (rest : List ℕ) → begins is_ascii_digit rest ≡ true → begins is_open_square rest ≡ false
digit_not_square [] e = refl
digit_not_square (b ∷ rest) e = grind (arith, nat_tests)

pub mark_stands : (m : Mark) (rest : List ℕ) → mark_precedes m rest ≡ true → Stands (Sign m) (mark_bytes m) rest
mark_stands OpenRound rest h = single_stands OpenRound 40 rest refl refl refl refl refl refl refl
mark_stands CloseRound rest h = single_stands CloseRound 41 rest refl refl refl refl refl refl refl
mark_stands OpenSquare rest h = single_stands OpenSquare 91 rest refl refl refl refl refl refl refl
mark_stands CloseSquare rest h = single_stands CloseSquare 93 rest refl refl refl refl refl refl refl
mark_stands Comma rest h = single_stands Comma 44 rest refl refl refl refl refl refl refl
mark_stands Arrow rest h = pair_stands Arrow 60 45 rest refl refl refl
mark_stands Plus rest h = single_stands Plus 43 rest refl refl refl refl refl refl refl
mark_stands Minus rest h = single_stands Minus 45 rest refl refl refl refl refl refl refl
mark_stands Star rest h = single_stands Star 42 rest refl refl refl refl refl refl refl
mark_stands Slash rest h = single_stands Slash 47 rest refl refl refl refl refl refl refl
mark_stands Percent rest h = single_stands Percent 37 rest refl refl refl refl refl refl refl
mark_stands Equal rest h = single_stands Equal 61 rest refl refl refl refl refl refl refl
mark_stands NotEqual rest h = pair_stands NotEqual 33 61 rest refl refl refl
mark_stands Less rest h = lone_stands Less 60 rest refl refl (less_alone rest (not-true _ h)) refl
mark_stands LessEqual rest h = pair_stands LessEqual 60 61 rest refl refl refl
mark_stands Greater rest h = lone_stands Greater 62 rest refl refl (greater_alone rest (not-true _ h)) refl
mark_stands GreaterEqual rest h = pair_stands GreaterEqual 62 61 rest refl refl refl
mark_stands Both rest h = single_stands Both 38 rest refl refl refl refl refl refl refl
mark_stands Either rest h = single_stands Either 124 rest refl refl refl refl refl refl refl
mark_stands Bang rest h = lone_stands Bang 33 rest refl refl (bang_alone rest (not-true _ h)) refl
mark_stands Limits rest h = pair_stands Limits 46 91 rest refl refl refl
mark_stands Length rest h = lone_stands Length 46 rest refl refl (stop_alone rest (digit_not_square rest h)) (rw h refl)
mark_stands End rest h =
    let both = and_parts (not (begins is_ascii_digit rest)) (not (begins is_open_square rest)) h in
    let square = not-true (begins is_open_square rest) both.1 in
    lone_stands End 46 rest refl refl (stop_alone rest square) (rw (not-true (begins is_ascii_digit rest) both.0, square))
