-- Words of digits.
use Rattle.std.proofs.Common.{◌≡◌, ℕ, ◌<◌, ◌^◌, true, List, Result, Ok, Err, length, refl}
use Rattle.std.specs.List.{list_all}
use Rattle.std.specs.Str.Parse.{digits_value, ParsesUnsigned}
use Rattle.std.proofs.lemmas.Bool.{and_parts, and_from, leb-true, le-leb}
use Rattle.std.proofs.lemmas.Str.Parse.{IsDigitsTest, numerals_by_value, parse_gives}
use Rattle.job_words.specs.Words.{is_digit}

tells : IsDigitsTest (λ ds. list_all is_digit ds ≡ true)
tells = record {
  empty = refl;
  parts = λ c cs e.
      let p = and_parts (is_digit c) (list_all is_digit cs) e in
      let q = and_parts _ _ p.0 in
      ((leb-true 48 c q.0, leb-true c 57 q.1), p.1);
  more = λ c cs k e. and_from _ _ (and_from _ _ (le-leb 48 c k.0) (le-leb c 57 k.1)) e;
}

-- digits that fit are read
pub digits_read : {E : Type 0} (word : List ℕ) (r : Result ℕ E) → ParsesUnsigned 64 10 word r → list_all is_digit word ≡ true
    → 0 < length word → digits_value 10 word < 2 ^ 64 → r ≡ Ok (digits_value 10 word)
digits_read word r p digits some fits = parse_gives (numerals_by_value _ tells) 64 word r p digits some fits

pub refused_digits : {E : Type 0} (word : List ℕ) (r : Result ℕ E) (e : E) → r ≡ Err e → ParsesUnsigned 64 10 word r
    → list_all is_digit word ≡ true → 0 < length word → digits_value 10 word < 2 ^ 64 → ⊥
refused_digits word r e is p digits some fits = let read = digits_read word r p digits some fits in cc
