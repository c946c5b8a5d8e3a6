-- A byte is told by its sign, and a list of bytes goes into its signs one by one.
use Rattle.std.proofs.Common.{◌≡◌, ℕ, ◌+◌, ◌-◌, ◌<◌, ◌≤◌, Bool, true, false, ◌&&◌, cond, List, [], ◌∷◌, ◌++◌, length, take, refl, sym, ap, arith}
use Rattle.std.specs.Prelude.{nat_lt, nat_le, ◌==◌}
use Rattle.std.proofs.lemmas.Bool.{leb-true, leb-false, eqb-true, and_parts}
use Rattle.term_reader.specs.declared.signs.Sign.{Sign}
use Rattle.term_reader.specs.declared.signs.Sign.TheVariants.{Space, Tab, Digit, Lower, Upper, Open, Close, Comma, Quote, Backslash, Minus, Plus, Control, High, Other}
use Rattle.term_reader.specs.Signs.{sign_of, byte_of, signs}
use Rattle.term_reader.specs.Grammar.{is_digit}

-- what a sign says of its byte
abbrev pub Tells : ℕ → Sign → Type 0
Tells b (Digit d) = (is_digit b ≡ true) × (d + 48 ≡ b) × (d < 10)
Tells b (Lower x) = (x ≡ b) × (b < 128)
Tells b (Upper x) = (x ≡ b) × (b < 128)
Tells b (Other x) = (x ≡ b) × (b < 128)
Tells b s = byte_of s ≡ b

by_test : (P : Sign → Type 0) (c : Bool) (s u : Sign) → (c ≡ true → P s) → P u → P (cond c s u)
by_test P true s u h k = h refl
by_test P false s u h k = k

by_two : (P : Sign → Type 0) (c : Bool) (s u : Sign) → (c ≡ true → P s) → (c ≡ false → P u) → P (cond c s u)
by_two P true s u h k = h refl
by_two P false s u h k = k refl

digit_tells : (b : ℕ) → (nat_le 48 b && nat_le b 57) ≡ true → Tells b (Digit (b - 48))
digit_tells b e =
    let p = and_parts _ _ e in
    let low : 48 ≤ b = leb-true _ _ p.0 in
    let high : b ≤ 57 = leb-true _ _ p.1 in
    (e, omega arith, omega arith)

letter_small : (low high b : ℕ) → high < 128 → (nat_le low b && nat_le b high) ≡ true → b < 128
letter_small low high b h e = let p = and_parts (nat_le low b) (nat_le b high) e in let u : b ≤ high = leb-true b high p.1 in omega (arith, h, u)

pub sign_tells : (b : ℕ) → Tells b (sign_of b)
sign_tells b =
    by_test (Tells b) (b == 32) _ _ (λ e. sym (eqb-true _ _ e)) (
    by_test (Tells b) (b == 9) _ _ (λ e. sym (eqb-true _ _ e)) (
    by_test (Tells b) (b == 40) _ _ (λ e. sym (eqb-true _ _ e)) (
    by_test (Tells b) (b == 41) _ _ (λ e. sym (eqb-true _ _ e)) (
    by_test (Tells b) (b == 44) _ _ (λ e. sym (eqb-true _ _ e)) (
    by_test (Tells b) (b == 34) _ _ (λ e. sym (eqb-true _ _ e)) (
    by_test (Tells b) (b == 92) _ _ (λ e. sym (eqb-true _ _ e)) (
    by_test (Tells b) (b == 45) _ _ (λ e. sym (eqb-true _ _ e)) (
    by_test (Tells b) (b == 43) _ _ (λ e. sym (eqb-true _ _ e)) (
    by_test (Tells b) (b == 95) (Upper b) _ (λ e. (refl, let q : b ≡ 95 = eqb-true _ _ e in omega arith)) (
    by_test (Tells b) (nat_lt b 32) (Control b) _ (λ e. refl) (
    by_two (Tells b) (nat_le 128 b) (High b) _ (λ e. refl) (λ f.
    by_test (Tells b) (nat_le 48 b && nat_le b 57) (Digit (b - 48)) _ (digit_tells b) (
    by_test (Tells b) (nat_le 97 b && nat_le b 122) (Lower b) _ (λ e. (refl, letter_small 97 122 b (omega arith) e)) (
    by_test (Tells b) (nat_le 65 b && nat_le b 90) (Upper b) (Other b) (λ e. (refl, letter_small 65 90 b (omega arith) e)) (refl, leb-false _ _ f)))))))))))))))

told : (b : ℕ) (s : Sign) → Tells b s → byte_of s ≡ b
told b Space h = h
told b Tab h = h
told b (Digit d) h = h.1
told b (Lower x) h = h.0
told b (Upper x) h = h.0
told b Open h = h
told b Close h = h
told b Comma h = h
told b Quote h = h
told b Backslash h = h
told b Minus h = h
told b Plus h = h
told b (Control x) h = h
told b (High x) h = h
told b (Other x) h = h.0

-- a sign gives its byte back
pub byte_back : (b : ℕ) → byte_of (sign_of b) ≡ b
byte_back b = told b (sign_of b) (sign_tells b)

pub signs-append : (xs ys : List ℕ) → signs (xs ++ ys) ≡ signs xs ++ signs ys
unfolding signs
signs-append [] ys = refl
signs-append (x ∷ xs) ys = ap (λ l. sign_of x ∷ l) (signs-append xs ys)

pub take_front : (front rest : List ℕ) → take (length front) (front ++ rest) ≡ front
take_front [] rest = refl
take_front (x ∷ front) rest = ap (λ l. x ∷ l) (take_front front rest)
