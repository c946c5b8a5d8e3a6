-- Numbers that are written are read.
use Rattle.std.proofs.Common.{◌≡◌, ℕ, ◌<◌, ◌≤◌, ◌^◌, true, false, List, [], ◌∷◌, ◌++◌, length, refl, sym, arith, rules, lit≤, codes}
use Rattle.std.specs.Char.{is_ascii_digit}
use Rattle.std.specs.Fmt.{decimal}
use Rattle.std.specs.List.{list_all}
use Rattle.std.proofs.lemmas.Bool.{and_parts}
use Rattle.std.proofs.lemmas.Bool.Decides.{nat_tests}
use Rattle.std.proofs.lemmas.Fmt.{digits_decimal, digits_value-decimal, decimal_nonempty}
use Rattle.std.proofs.lemmas.Str.Parse.{IsNumeralModel, numerals_by_fold}
use Rattle.rule_lexer.specs.declared.tokens.TokenKind.TheVariants.{Number}
use Rattle.rule_lexer.specs.Sorts.{begins}
use Rattle.rule_lexer.specs.Spelling.{number_from, number_of}
use Rattle.rule_lexer.specs.Places.{is_skipped}
use Rattle.rule_lexer.proofs.NumberLaws.{number_longest}
use Rattle.rule_lexer.proofs.Stands.{Stands, front, begins-append, whole_run}

digit_solid : (bs : List ℕ) → begins is_ascii_digit bs ≡ true → begins (is_skipped false) bs ≡ false
digit_solid [] e = refl
digit_solid (b ∷ bs) e = grind (arith, nat_tests)

digits_stand : (value : ℕ) (ds rest : List ℕ) → begins is_ascii_digit ds ≡ true → list_all is_ascii_digit ds ≡ true → number_of ds ≡ value → value ≤ 2 ^ 63 → begins is_ascii_digit rest ≡ false → Stands (Number value) ds rest
digits_stand value ds rest d a v r e = record {
  solid = digit_solid (ds ++ rest) (begins-append is_ascii_digit ds rest d);
  longest = number_longest (ds ++ rest) value (length ds) (begins-append is_ascii_digit ds rest d) (whole_run is_ascii_digit ds rest a e) (rw (front ds rest) (sym v)) r;
}

digits_begin : (ds : List ℕ) → 0 < length ds → list_all is_ascii_digit ds ≡ true → begins is_ascii_digit ds ≡ true
digits_begin [] l a = absurd (omega arith)
digits_begin (d ∷ ds) l a = (and_parts (is_ascii_digit d) (list_all is_ascii_digit ds) a).0

own : IsNumeralModel (λ ds. list_all is_ascii_digit ds ≡ true) (number_from 0)
own = numerals_by_fold _ (search rules) number_from (search rules)

pub decimal_digits : (n : ℕ) → n < 2 ^ 63 → list_all is_ascii_digit (decimal n) ≡ true
decimal_digits n l = digits_decimal own n (omega arith)

pub number_stands : (n : ℕ) (rest : List ℕ) → n < 2 ^ 63 → begins is_ascii_digit rest ≡ false → Stands (Number n) (decimal n) rest
number_stands n rest l e =
    let small : n < 2 ^ 64 = omega arith in
    let all : list_all is_ascii_digit (decimal n) ≡ true = decimal_digits n l in
    digits_stand n (decimal n) rest (digits_begin (decimal n) (decimal_nonempty n small) all) all (digits_value-decimal own n small) (omega arith) e

pub huge_stands : (rest : List ℕ) → begins is_ascii_digit rest ≡ false → Stands (Number (2 ^ 63)) (codes "9223372036854775808") rest
huge_stands rest e = digits_stand (2 ^ 63) (codes "9223372036854775808") rest refl refl refl (lit≤ tt) e
