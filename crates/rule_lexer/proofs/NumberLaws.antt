-- Numbers.
use Rattle.std.proofs.Common.{◌≡◌, ℕ, ◌+◌, ◌-◌, ◌*◌, ◌^◌, ◌/◌, get_or, ◌≤◌, ◌<◌, true, List, [], ◌∷◌, length, take, drop, sym, ap, ◌∙◌, subst, arith}
use Rattle.std.specs.Char.{is_ascii_digit}
use Rattle.std.specs.List.{prefix_len}
use Rattle.std.proofs.lemmas.Bool.{not-true, not_from_false}
use Rattle.std.proofs.lemmas.List.{at_drop_more}
use Rattle.std.proofs.lemmas.List.Sums.{prefix_len-le-length}
use Rattle.rule_lexer.specs.declared.tokens.TokenKind.{TokenKind}
use Rattle.rule_lexer.specs.declared.tokens.TokenKind.TheVariants.{Number}
use Rattle.rule_lexer.specs.Sorts.{begins}
use Rattle.rule_lexer.specs.Spelling.{number_from, number_of}
use Rattle.rule_lexer.specs.Reading.{TokenOf, LongestOf, NoneOf}
use Rattle.rule_lexer.proofs.Runs.{run_passes, run_stops, run_longest, run_whole, run_some, begins-take}
use Rattle.rule_lexer.proofs.Classes.{IsDigit, NumberToken, class_stands, digit_class, as_number}

-- further digits make a number no less
pub number_from_least : (value : ℕ) (bs : List ℕ) → value ≤ number_from value bs
number_from_least value [] = omega arith
number_from_least value (b ∷ bs) = let h : value * 10 + (b - 48) ≤ number_from (value * 10 + (b - 48)) bs = number_from_least (value * 10 + (b - 48)) bs in omega arith

as_digits : (bs : List ℕ) (k : TokenKind) (n : ℕ) → begins is_ascii_digit bs ≡ true → TokenOf bs k n → NumberToken k (take n bs) (drop n bs)
as_digits bs k n d t = as_number k (take n bs) (drop n bs) (subst IsDigit (sym (class_stands bs k n t ∙ digit_class bs d)) tt) t.token

pub number_longest : (bs : List ℕ) (value n : ℕ) → begins is_ascii_digit bs ≡ true → n ≡ prefix_len is_ascii_digit bs → value ≡ number_of (take n bs) → value ≤ 2 ^ 63 → LongestOf bs (Number value) n
number_longest bs value n d e v r = record {
  stands = record {
    within = rw e (prefix_len-le-length is_ascii_digit bs);
    token = record {
      spells = record {
        first_byte = begins-take is_ascii_digit bs n (rw e (run_some is_ascii_digit bs d)) ∙ d;
        all_bytes = rw e (run_passes is_ascii_digit bs);
        says = sym v;
        in_range = r;
      };
      follows = not_from_false _ (rw e (run_stops is_ascii_digit bs));
    };
  };
  longest = λ j m more t.
      let least : m ≤ prefix_len is_ascii_digit bs = run_longest is_ascii_digit bs m t.within (as_digits bs j m d t).number.all_bytes in
      omega arith;
}

pub number_none : (bs : List ℕ) (n : ℕ) → begins is_ascii_digit bs ≡ true → n ≡ prefix_len is_ascii_digit bs → 2 ^ 63 < number_of (take n bs) → NoneOf bs
number_none bs n d e r = record {
  none = λ j m t.
      let h = as_digits bs j m d t in
      let whole : m ≡ n = run_whole is_ascii_digit bs m t.within h.number.all_bytes (not-true _ h.ends) ∙ sym e in
      let same : number_of (take m bs) ≡ number_of (take n bs) = ap (λ i. number_of (take i bs)) whole in
      omega (arith, h.number.says, h.number.in_range);
}

-- a value that a further digit takes out of range
pub number_over : (ds : List ℕ) (value i : ℕ) → i < length ds → number_of ds ≡ number_from value (drop i ds) → (2 ^ 63 - (get_or ds i 0 - 48)) / 10 < value → 2 ^ 63 < number_of ds
number_over ds value i l e h =
    let f = at_drop_more (number_from value) ds i 0 l in
    let m : value * 10 + (get_or ds i 0 - 48) ≤ number_from (value * 10 + (get_or ds i 0 - 48)) (drop (i + 1) ds) = number_from_least (value * 10 + (get_or ds i 0 - 48)) (drop (i + 1) ds) in
    omega arith
