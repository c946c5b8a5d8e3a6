-- What the part of a byte says of it.
use Rattle.std.proofs.Common.{◌≡◌, ℕ, ◌-◌, ◌≤◌, ◌<◌, ◌⊎◌, inl, inr, Bool, true, false, cond, refl, sym, ap, ◌∙◌, arith}
use Rattle.std.specs.Prelude.{nat_le, ◌==◌}
use Rattle.std.specs.Char.{digit_value}
use Rattle.std.specs.Int.{IsInRange}
use Rattle.std.proofs.lemmas.Bool.{leb-true, eqb-true, and_parts, or_cases, cond-true, cond-false, ne_eqb, or_from}
use Rattle.std.proofs.lemmas.Str.{digit_value_digit}
use Rattle.event_model.specs.Bytes.{plus, minus, bang, hash, stop}
use Rattle.term_reader.specs.declared.signs.Sign.TheVariants.{Space, Tab}
use Rattle.term_reader.specs.Signs.{sign_of}
use Rattle.event_reader.specs.declared.parts.Part.{Part}
use Rattle.event_reader.specs.declared.parts.Part.TheVariants.{Blank, Digit, Plus, Minus, Bang, Hash, Stop, Other}
use Rattle.event_reader.specs.EventLines.{is_blank, is_digit}
use Rattle.event_reader.specs.Machine.{part_of}

abbrev pub Tells : ℕ → Part → Type 0
Tells b Blank = is_blank b ≡ true
Tells b (Digit d) = (is_digit b ≡ true) × (digit_value b ≡ d) × (d < 10)
Tells b Plus = b ≡ plus
Tells b Minus = b ≡ minus
Tells b Bang = b ≡ bang
Tells b Hash = b ≡ hash
Tells b Stop = b ≡ stop
Tells b Other = Unit {0}

by_test : (P : Part → Type 0) (c : Bool) (s u : Part) → (c ≡ true → P s) → P u → P (cond c s u)
by_test P true s u h k = h refl
by_test P false s u h k = k

pub digit_is : (b : ℕ) → is_digit b ≡ true → (48 ≤ b) × (b ≤ 57) × (digit_value b ≡ b - 48)
digit_is b e =
    let p = and_parts (nat_le 48 b) (nat_le b 57) e in
    let low : 48 ≤ b = leb-true 48 b p.0 in
    let high : b ≤ 57 = leb-true b 57 p.1 in
    let r : IsInRange 48 57 b = omega arith in
    (low, high, omega (arith, digit_value_digit b r))

digit_tells : (b : ℕ) → is_digit b ≡ true → Tells b (Digit (b - 48))
digit_tells b e = let d = digit_is b e in (e, d.2, omega (arith, d.0, d.1))

pub part_tells : (b : ℕ) → Tells b (part_of b)
part_tells b =
    by_test (Tells b) (is_blank b) _ _ (λ e. e) (
    by_test (Tells b) (is_digit b) _ _ (digit_tells b) (
    by_test (Tells b) (b == plus) _ _ (eqb-true b plus) (
    by_test (Tells b) (b == minus) _ _ (eqb-true b minus) (
    by_test (Tells b) (b == bang) _ _ (eqb-true b bang) (
    by_test (Tells b) (b == hash) _ _ (eqb-true b hash) (
    by_test (Tells b) (b == stop) _ _ (eqb-true b stop) tt))))))

pub part_blank : (b : ℕ) → is_blank b ≡ true → part_of b ≡ Blank
part_blank b e = cond-true (is_blank b) Blank _ e

-- a digit is no blank
digit_dark : (b : ℕ) → is_digit b ≡ true → is_blank b ≡ false
digit_dark b e = let d = digit_is b e in or_from (b == 32) (b == 9) (ne_eqb b 32 (λ q. omega (arith, d.0, q))) (ne_eqb b 9 (λ q. omega (arith, d.0, q)))

pub part_digit : (b : ℕ) → is_digit b ≡ true → part_of b ≡ Digit (digit_value b)
part_digit b e =
    cond-false (is_blank b) Blank _ (digit_dark b e) ∙ cond-true (is_digit b) (Digit (b - 48)) _ e ∙ ap (λ d. Digit d) (sym (digit_is b e).2)

-- the signs of blanks
pub blank_sign : (b : ℕ) → is_blank b ≡ true → (sign_of b ≡ Space) ⊎ (sign_of b ≡ Tab)
blank_sign b e = at (or_cases (b == 32) (b == 9) e)
  where
    at : ((b == 32) ≡ true) ⊎ ((b == 9) ≡ true) → (sign_of b ≡ Space) ⊎ (sign_of b ≡ Tab)
    at (inl h) = inl (ap sign_of (eqb-true b 32 h))
    at (inr h) = inr (ap sign_of (eqb-true b 9 h))
