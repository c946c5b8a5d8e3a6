-- The pieces of a canonical text: names, numbers and texts as trees.
use Rattle.std.proofs.Common.{◌≡◌, ℕ, ◌-◌, ◌^◌, ◌<◌, ◌≤◌, Bool, true, false, cond, ◌&&◌, List, [], ◌∷◌, ◌++◌, length, Option, Some, None, refl, sym, ap, ◌∙◌, arith, subst, zero, suc, append_assoc, ℤ, pos, negsuc, decimal, flat_map}
use Rattle.std.specs.Prelude.{◌==◌, nat_lt, nat_le}
use Rattle.std.specs.Str.Parse.{AllDigits, digits_value_after}
use Rattle.std.specs.Char.{digit_value}
use Rattle.std.specs.Fmt.{signed_decimal}
use Rattle.std.proofs.lemmas.Fmt.{decimal_is_IsNumeral}
use Rattle.std.proofs.lemmas.Bool.{le-leb, lt-leb, le-ltb, ltb-true, ltb-false, leb-true, eqb-true, ne_eqb, true≢false, and_parts}
use Rattle.event_model.specs.Text.{escape, quoted}
use Rattle.term_reader.specs.declared.signs.Sign.{Sign}
use Rattle.term_reader.specs.declared.signs.Sign.TheVariants.{Space, Tab, Digit, Lower, Upper, Open, Close, Comma, Quote, Backslash, Minus, Plus, Control, High, Other}
use Rattle.term_reader.specs.declared.signs.Status.{Status}
use Rattle.term_reader.specs.declared.signs.Status.TheVariants.{Wrong, Whole, Needs}
use Rattle.term_reader.specs.Signs.{sign_of, signs, is_plain, status_first, status_next, status_more, first_bytes, look_up, fits_need, is_whole}
use Rattle.term_reader.specs.Grammar.{Digits, Digits.OneDigit, Digits.MoreDigit, Word, Word.OneLower, Word.MoreLower, Word.MoreUpper, Word.MoreNumber, Bytes, Bytes.OneByte, Bytes.MoreByte, Letter, Letter.Plain, Letter.Escape, Letter.Wide, Letters, Letters.NoLetter, Letters.MoreLetter, number, digits, word, named, minus, bytes, letter, letters, raw, decoded, texted, status, FineLetters, fits, signed}
use Rattle.term_reader.specs.Readings.{is_lower, is_word}
use Rattle.term_reader.specs.Limits.{is_i64, all_word, is_name, is_small, text_status, text_from, is_text}
use Rattle.term_reader.proofs.Bytes.{Tells, sign_tells, byte_back, signs-append}
use Rattle.term_reader.proofs.Utf8.{first_by, First}

-- names

pub record WordFor (w : Word) (bs : List ℕ) : Type 0 where
  pub made : Word
  pub says : named made [] ≡ named w bs
  pub written : (rest : List Sign) → word made rest ≡ word w (signs bs ++ rest)

word_by : (b : ℕ) (bs : List ℕ) (w : Word) (s : Sign) → sign_of b ≡ s → Tells b s → is_word s ≡ true → ((v : Word) → WordFor v bs) → WordFor w (b ∷ bs)
unfolding signs
word_by b bs w (Lower x) e t h more =
    let r = more (MoreLower w x) in
    record { made = r.made; says = r.says ∙ ap (λ y. named w (y ∷ bs)) t.0; written = λ rest. r.written rest ∙ ap (λ y. word w (y ∷ (signs bs ++ rest))) (sym e) }
word_by b bs w (Upper x) e t h more =
    let r = more (MoreUpper w x) in
    record { made = r.made; says = r.says ∙ ap (λ y. named w (y ∷ bs)) t.0; written = λ rest. r.written rest ∙ ap (λ y. word w (y ∷ (signs bs ++ rest))) (sym e) }
word_by b bs w (Digit x) e t h more =
    let r = more (MoreNumber w x) in
    record { made = r.made; says = r.says ∙ ap (λ y. named w (y ∷ bs)) t.1; written = λ rest. r.written rest ∙ ap (λ y. word w (y ∷ (signs bs ++ rest))) (sym e) }
word_by b bs w s e t h more = absurd (true≢false (sym h))

word_for : (bs : List ℕ) (w : Word) → all_word bs ≡ true → WordFor w bs
unfolding signs
word_for [] w h = record { made = w; says = refl; written = λ rest. refl }
word_for (b ∷ bs) w h = let p = and_parts _ _ h in word_by b bs w (sign_of b) refl (sign_tells b) p.0 (λ v. word_for bs v p.1)

pub record NameFor (name : List ℕ) : Type 0 where
  pub made : Word
  pub says : named made [] ≡ name
  pub written : (rest : List Sign) → word made rest ≡ signs name ++ rest

name_by : (b : ℕ) (bs : List ℕ) (s : Sign) → sign_of b ≡ s → Tells b s → is_lower s ≡ true → all_word bs ≡ true → NameFor (b ∷ bs)
unfolding signs
name_by b bs (Lower x) e t h w =
    let r = word_for bs (OneLower x) w in
    record { made = r.made; says = r.says ∙ ap (λ y. y ∷ bs) t.0; written = λ rest. r.written rest ∙ ap (λ y. y ∷ (signs bs ++ rest)) (sym e) }
name_by b bs s e t h w = absurd (true≢false (sym h))

pub name_for : (name : List ℕ) → is_name name ≡ true → NameFor name
name_for [] h = absurd (true≢false (sym h))
name_for (b ∷ bs) h = let p = and_parts _ _ h in name_by b bs (sign_of b) refl (sign_tells b) p.0 p.1

-- numbers

digit_sign : (c : ℕ) → 48 ≤ c → c ≤ 57 → sign_of c ≡ Digit (c - 48)
digit_sign c l h =
    let a : (c == 32) ≡ false = ne_eqb c 32 (λ e. omega arith) in
    let b : (c == 9) ≡ false = ne_eqb c 9 (λ e. omega arith) in
    let d : (c == 40) ≡ false = ne_eqb c 40 (λ e. omega arith) in
    let f : (c == 41) ≡ false = ne_eqb c 41 (λ e. omega arith) in
    let g : (c == 44) ≡ false = ne_eqb c 44 (λ e. omega arith) in
    let i : (c == 34) ≡ false = ne_eqb c 34 (λ e. omega arith) in
    let j : (c == 92) ≡ false = ne_eqb c 92 (λ e. omega arith) in
    let k : (c == 45) ≡ false = ne_eqb c 45 (λ e. omega arith) in
    let m : (c == 43) ≡ false = ne_eqb c 43 (λ e. omega arith) in
    let n : (c == 95) ≡ false = ne_eqb c 95 (λ e. omega arith) in
    let o : nat_lt c 32 ≡ false = le-ltb c 32 (omega arith) in
    let p : nat_le 128 c ≡ false = lt-leb 128 c (omega arith) in
    let q : nat_le 48 c ≡ true = le-leb 48 c l in
    let r : nat_le c 57 ≡ true = le-leb c 57 h in
    rw (a, b, d, f, g, i, j, k, m, n, o, p, q, r) refl

digit_range : (c : ℕ) → digit_value c < 10 → (48 ≤ c) × (c ≤ 57) × (digit_value c ≡ c - 48)
digit_range c h = at (nat_lt c 48) refl (nat_lt c 58) refl
  where
    above : (a b d e : Bool) → 58 ≤ c → nat_lt c 65 ≡ a → nat_lt c 91 ≡ b → nat_lt c 97 ≡ d → nat_lt c 123 ≡ e → cond a 36 (cond b (c - 55) (cond d 36 (cond e (c - 87) 36))) < 10 → ⊥
    above true b d e l p q r s k = omega arith
    above false true d e l p q r s k = let n : 65 ≤ c = ltb-false _ _ p in omega arith
    above false false true e l p q r s k = omega arith
    above false false false true l p q r s k = let n : 97 ≤ c = ltb-false _ _ r in omega arith
    above false false false false l p q r s k = omega arith

    at : (a : Bool) → nat_lt c 48 ≡ a → (b : Bool) → nat_lt c 58 ≡ b → (48 ≤ c) × (c ≤ 57) × (digit_value c ≡ c - 48)
    at true p b q = absurd (let k : digit_value c ≡ 36 = rw p refl in omega (arith, h, k))
    at false p true q = (ltb-false _ _ p, (let k : c < 58 = ltb-true _ _ q in omega arith), rw (p, q) refl)
    at false p false q =
        let k : digit_value c ≡ cond (nat_lt c 65) 36 (cond (nat_lt c 91) (c - 55) (cond (nat_lt c 97) 36 (cond (nat_lt c 123) (c - 87) 36))) = rw (p, q) refl in
        absurd (above (nat_lt c 65) (nat_lt c 91) (nat_lt c 97) (nat_lt c 123) (ltb-false _ _ q) refl refl refl refl (subst (λ x. x < 10) k h))

pub record DigitsFor (ds : Digits) (bs : List ℕ) : Type 0 where
  pub made : Digits
  pub says : number made ≡ digits_value_after 10 (number ds) bs
  pub written : (rest : List Sign) → digits made rest ≡ digits ds (signs bs ++ rest)

digits_for : (bs : List ℕ) (ds : Digits) → AllDigits 10 bs → DigitsFor ds bs
unfolding signs
digits_for [] ds h = record { made = ds; says = refl; written = λ rest. refl }
digits_for (c ∷ cs) ds h =
    let g = digit_range c h.0 in
    let r = digits_for cs (MoreDigit ds (digit_value c)) h.1 in
    record { made = r.made; says = r.says; written = λ rest. r.written rest ∙ ap (λ y. digits ds (y ∷ (signs cs ++ rest))) (ap Digit g.2 ∙ sym (digit_sign c g.0 g.1)) }

pub record NumberFor (n : ℕ) : Type 0 where
  pub made : Digits
  pub says : number made ≡ n
  pub written : (rest : List Sign) → digits made rest ≡ signs (decimal n) ++ rest

number_by : (bs : List ℕ) (n : ℕ) → 0 < length bs → AllDigits 10 bs → digits_value_after 10 0 bs ≡ n → (made : Digits) × (number made ≡ n) × ((rest : List Sign) → digits made rest ≡ signs bs ++ rest)
unfolding signs
number_by [] n l h e = absurd (omega arith)
number_by (c ∷ cs) n l h e =
    let g = digit_range c h.0 in
    let r = digits_for cs (OneDigit (digit_value c)) h.1 in
    (r.made, r.says ∙ ap (λ x. digits_value_after 10 x cs) (omega arith) ∙ e, (λ rest. r.written rest ∙ ap (λ y. y ∷ (signs cs ++ rest)) (ap Digit g.2 ∙ sym (digit_sign c g.0 g.1))))

pub number_for : (n : ℕ) → n < 2 ^ 64 → NumberFor n
number_for n h =
    let d = decimal_is_IsNumeral n h in
    let r = number_by (decimal n) n d.0.0 d.0.1 d.1 in
    record { made = r.0; says = r.1; written = r.2 }

pub record SignedFor (z : ℤ) : Type 0 where
  pub negative : Bool
  pub made : Digits
  pub says : signed negative (number made) ≡ z
  pub fine : fits negative (number made) ≡ true
  pub written : (rest : List Sign) → minus negative (digits made rest) ≡ signs (signed_decimal z) ++ rest

pub signed_for : (z : ℤ) → is_i64 z ≡ true → SignedFor z
unfolding signs
signed_for (pos n) h =
    let l : n < 2 ^ 63 = ltb-true _ _ h in
    let r = number_for n (omega arith) in
    record { negative = false; made = r.made; says = ap pos r.says; fine = ap (λ x. nat_lt x (2 ^ 63)) r.says ∙ h; written = r.written }
signed_for (negsuc n) h =
    let l : n < 2 ^ 63 = ltb-true _ _ h in
    let r = number_for (suc n) (omega arith) in
    record { negative = true; made = r.made; says = ap (signed true) r.says; fine = ap (λ x. nat_le x (2 ^ 63)) r.says ∙ le-leb _ _ (omega arith); written = λ rest. ap (λ x. Minus ∷ x) (r.written rest) }

-- texts

high_sign : (c : ℕ) → 128 ≤ c → sign_of c ≡ High c
high_sign c l =
    let a : (c == 32) ≡ false = ne_eqb c 32 (λ e. omega arith) in
    let b : (c == 9) ≡ false = ne_eqb c 9 (λ e. omega arith) in
    let d : (c == 40) ≡ false = ne_eqb c 40 (λ e. omega arith) in
    let f : (c == 41) ≡ false = ne_eqb c 41 (λ e. omega arith) in
    let g : (c == 44) ≡ false = ne_eqb c 44 (λ e. omega arith) in
    let i : (c == 34) ≡ false = ne_eqb c 34 (λ e. omega arith) in
    let j : (c == 92) ≡ false = ne_eqb c 92 (λ e. omega arith) in
    let k : (c == 45) ≡ false = ne_eqb c 45 (λ e. omega arith) in
    let m : (c == 43) ≡ false = ne_eqb c 43 (λ e. omega arith) in
    let n : (c == 95) ≡ false = ne_eqb c 95 (λ e. omega arith) in
    let o : nat_lt c 32 ≡ false = le-ltb c 32 (omega arith) in
    let p : nat_le 128 c ≡ true = le-leb 128 c l in
    rw (a, b, d, f, g, i, j, k, m, n, o, p) refl

high_escape : (c : ℕ) → 128 ≤ c → escape c ≡ c ∷ []
high_escape c l =
    let a : (c == 34) ≡ false = ne_eqb c 34 (λ e. omega arith) in
    let b : (c == 92) ≡ false = ne_eqb c 92 (λ e. omega arith) in
    let d : (c == 10) ≡ false = ne_eqb c 10 (λ e. omega arith) in
    let f : (c == 9) ≡ false = ne_eqb c 9 (λ e. omega arith) in
    rw (a, b, d, f) refl

by_two : (P : Sign → Type 0) (c : Bool) (s u : Sign) → (c ≡ true → P s) → (c ≡ false → P u) → P (cond c s u)
by_two P true s u h k = h refl
by_two P false s u h k = k refl

IsPlain : Sign → Type 0
IsPlain s = is_plain s ≡ true

plain_sign : (b : ℕ) → 32 ≤ b → b < 128 → (b == 34) ≡ false → (b == 92) ≡ false → is_plain (sign_of b) ≡ true
unfolding IsPlain
plain_sign b l h q k =
    by_two IsPlain (b == 32) Space _ (λ e. refl) (λ e0.
    by_two IsPlain (b == 9) Tab _ (λ e. let x : b ≡ 9 = eqb-true _ _ e in absurd (omega arith)) (λ e1.
    by_two IsPlain (b == 40) Open _ (λ e. refl) (λ e2.
    by_two IsPlain (b == 41) Close _ (λ e. refl) (λ e3.
    by_two IsPlain (b == 44) Comma _ (λ e. refl) (λ e4.
    by_two IsPlain (b == 34) Quote _ (λ e. absurd (true≢false (sym e ∙ q))) (λ e5.
    by_two IsPlain (b == 92) Backslash _ (λ e. absurd (true≢false (sym e ∙ k))) (λ e6.
    by_two IsPlain (b == 45) Minus _ (λ e. refl) (λ e7.
    by_two IsPlain (b == 43) Plus _ (λ e. refl) (λ e8.
    by_two IsPlain (b == 95) (Upper b) _ (λ e. refl) (λ e9.
    by_two IsPlain (nat_lt b 32) (Control b) _ (λ e. let x : b < 32 = ltb-true _ _ e in absurd (omega arith)) (λ f0.
    by_two IsPlain (nat_le 128 b) (High b) _ (λ e. let x : 128 ≤ b = leb-true _ _ e in absurd (omega arith)) (λ f1.
    by_two IsPlain (nat_le 48 b && nat_le b 57) (Digit (b - 48)) _ (λ e. refl) (λ f2.
    by_two IsPlain (nat_le 97 b && nat_le b 122) (Lower b) _ (λ e. refl) (λ f3.
    by_two IsPlain (nat_le 65 b && nat_le b 90) (Upper b) (Other b) (λ e. refl) (λ f4. refl)))))))))))))))

pub record LetterFor (b : ℕ) : Type 0 where
  pub made : Letter
  pub fine : (l : Letters) → FineLetters l → FineLetters (MoreLetter l made)
  pub says : (rest : List ℕ) → decoded made rest ≡ b ∷ rest
  pub written : (rest : List Sign) → letter made rest ≡ signs (escape b) ++ rest

small_cases : (b : ℕ) → is_small b ≡ true → (b == 10) ≡ false → (b == 9) ≡ false → 32 ≤ b
small_cases b h e f = at (nat_le 32 b) refl
  where
    at : (c : Bool) → nat_le 32 b ≡ c → 32 ≤ b
    at true p = leb-true _ _ p
    at false p = absurd (true≢false (sym h ∙ rw (p, e, f) refl))

letter_for : (b : ℕ) → is_small b ≡ true → b < 128 → LetterFor b
unfolding signs
letter_for b h l = at (b == 34) refl (b == 92) refl (b == 10) refl (b == 9) refl
  where
    plain : (b == 34) ≡ false → (b == 92) ≡ false → (b == 10) ≡ false → (b == 9) ≡ false → LetterFor b
    plain p q r s =
        let n : escape b ≡ b ∷ [] = rw (p, q, r, s) refl in
        record {
          made = Plain (sign_of b);
          fine = λ ls f. (f, plain_sign b (small_cases b h r s) l p q);
          says = λ rest. ap (λ y. y ∷ rest) (byte_back b);
          written = λ rest. ap (λ y. signs y ++ rest) (sym n);
        }

    at : (c : Bool) → (b == 34) ≡ c → (d : Bool) → (b == 92) ≡ d → (e : Bool) → (b == 10) ≡ e → (f : Bool) → (b == 9) ≡ f → LetterFor b
    at true p d q e r f s =
        let x : b ≡ 34 = eqb-true _ _ p in
        subst LetterFor (sym x) (record { made = Escape Quote; fine = λ ls f. (f, refl); says = λ rest. refl; written = λ rest. refl })
    at false p true q e r f s =
        let x : b ≡ 92 = eqb-true _ _ q in
        subst LetterFor (sym x) (record { made = Escape Backslash; fine = λ ls f. (f, refl); says = λ rest. refl; written = λ rest. refl })
    at false p false q true r f s =
        let x : b ≡ 10 = eqb-true _ _ r in
        subst LetterFor (sym x) (record { made = Escape (Lower 110); fine = λ ls f. (f, refl); says = λ rest. refl; written = λ rest. refl })
    at false p false q false r true s =
        let x : b ≡ 9 = eqb-true _ _ s in
        subst LetterFor (sym x) (record { made = Escape (Lower 116); fine = λ ls f. (f, refl); says = λ rest. refl; written = λ rest. refl })
    at false p false q false r false s = plain p q r s

-- the bytes so far of a character, and what its status needs

abbrev pub IsNeeds : Status → Type 0
IsNeeds (Needs n) = Unit {0}
IsNeeds s = ⊥

abbrev pub Pending : Option Bytes → Type 0
Pending None = Unit {0}
Pending (Some p) = IsNeeds (status p)

abbrev pub status_of : Option Bytes → Status
status_of None = Whole
status_of (Some p) = status p

abbrev pub raw_of : Option Bytes → List ℕ → List ℕ
raw_of None rest = rest
raw_of (Some p) rest = raw p rest

abbrev pub bytes_of : Option Bytes → List Sign → List Sign
bytes_of None rest = rest
bytes_of (Some p) rest = bytes p rest

pub record LettersFor (bs : List ℕ) (l : Letters) (o : Option Bytes) : Type 0 where
  pub made : Letters
  pub fine : FineLetters made
  pub says : texted made [] ≡ texted l (raw_of o bs)
  pub written : (rest : List Sign) → letters made rest ≡ letters l (bytes_of o (signs (flat_map escape bs) ++ rest))

wrong_never : (bs : List ℕ) → text_from Wrong bs ≡ false
wrong_never [] = refl
wrong_never (b ∷ bs) = wrong_never bs

needs_not_whole : (s : Status) → IsNeeds s → is_whole s ≡ false
needs_not_whole (Needs n) h = refl
needs_not_whole s h = absurd h

-- the next byte of a character is at least 128

abbrev LowHigh : Status → Type 0
LowHigh (Needs n) = nat_le 128 n.low ≡ true
LowHigh s = Unit {0}

cond_low : (b : Bool) (s u : Status) → LowHigh s → LowHigh u → LowHigh (cond b s u)
cond_low true s u h k = h
cond_low false s u h k = k

abbrev AllLow : List (ℕ × Status) → Type 0
AllLow [] = Unit {0}
AllLow (r ∷ rs) = LowHigh r.1 × AllLow rs

look_low : (rs : List (ℕ × Status)) (b : ℕ) → AllLow rs → LowHigh (look_up rs b)
look_low [] b h = tt
look_low (r ∷ rs) b h = cond_low (nat_lt b r.0) r.1 (look_up rs b) h.0 (look_low rs b h.1)

next_low : (n : ℕ) → LowHigh (status_next n)
next_low zero = tt
next_low (suc n) = refl

more_low : (s : Status) (b : ℕ) → LowHigh (status_more s b)
more_low Wrong b = tt
more_low Whole b = tt
more_low (Needs n) b = cond_low (fits_need n b) (status_next n.more) Wrong (next_low n.more) tt

low_high : (p : Bytes) → LowHigh (status p)
low_high (OneByte b) = look_low first_bytes b (tt, (refl, (refl, (refl, (refl, (refl, (refl, (refl, (refl, tt)))))))))
low_high (MoreByte p b) = more_low (status p) b

high_next : (s u : Status) (b : ℕ) → LowHigh s → status_more s b ≡ u → (u ≡ Wrong → ⊥) → 128 ≤ b
high_next Wrong u b h e w = absurd (w (sym e))
high_next Whole u b h e w = absurd (w (sym e))
high_next (Needs n) u b h e w = at (fits_need n b) refl
  where
    at : (c : Bool) → fits_need n b ≡ c → 128 ≤ b
    at true q = let p = and_parts (nat_le n.low b) (nat_le b n.high) q in let x : n.low ≤ b = leb-true _ _ p.0 in let y : 128 ≤ n.low = leb-true _ _ h in omega (arith, x, y)
    at false q = absurd (w (sym e ∙ ap (λ c. cond c (status_next n.more) Wrong) q))

-- one more byte of a text, in front of the others
high_written : (b : ℕ) (bs : List ℕ) (rest : List Sign) → 128 ≤ b → High b ∷ (signs (flat_map escape bs) ++ rest) ≡ signs (flat_map escape (b ∷ bs)) ++ rest
unfolding signs
high_written b bs rest h =
    ap (λ y. y ∷ (signs (flat_map escape bs) ++ rest)) (sym (high_sign b h)) ∙ ap (λ y. signs (y ++ flat_map escape bs) ++ rest) (sym (high_escape b h))

small_step : (b : ℕ) (bs : List ℕ) (l : Letters) → FineLetters l → LetterFor b → ((m : Letters) → FineLetters m → LettersFor bs m None) → LettersFor (b ∷ bs) l None
unfolding signs
small_step b bs l f c more =
    let r = more (MoreLetter l c.made) (c.fine l f) in
    record {
      made = r.made;
      fine = r.fine;
      says = r.says ∙ ap (texted l) (c.says bs);
      written = λ rest. r.written rest ∙ ap (letters l) (c.written (signs (flat_map escape bs) ++ rest) ∙ sym (append_assoc (signs (escape b)) (signs (flat_map escape bs)) rest) ∙ ap (λ y. y ++ rest) (sym (signs-append (escape b) (flat_map escape bs))));
    }

first_step : (b : ℕ) (bs : List ℕ) (l : Letters) (s : Status) → status_first b ≡ s → First b s → FineLetters l → 128 ≤ b → text_from s bs ≡ true → ((o : Option Bytes) → Pending o → text_from (status_of o) bs ≡ true → LettersFor bs l o) → LettersFor (b ∷ bs) l None
first_step b bs l Wrong e i f h t more = absurd (true≢false (sym t ∙ wrong_never bs))
first_step b bs l Whole e i f h t more = absurd i
first_step b bs l (Needs n) e i f h t more =
    let r = more (Some (OneByte b)) (subst IsNeeds (sym e) tt) (ap (λ s. text_from s bs) e ∙ t) in
    record { made = r.made; fine = r.fine; says = r.says; written = λ rest. r.written rest ∙ ap (letters l) (high_written b bs rest h) }

more_step : (b : ℕ) (bs : List ℕ) (l : Letters) (p : Bytes) (s : Status) → status_more (status p) b ≡ s → FineLetters l → text_from s bs ≡ true → ((m : Letters) (o : Option Bytes) → FineLetters m → Pending o → text_from (status_of o) bs ≡ true → LettersFor bs m o) → LettersFor (b ∷ bs) l (Some p)
more_step b bs l p Wrong e f t more = absurd (true≢false (sym t ∙ wrong_never bs))
more_step b bs l p Whole e f t more =
    let h : 128 ≤ b = high_next (status p) Whole b (low_high p) e (λ w. cc) in
    let r = more (MoreLetter l (Wide (MoreByte p b))) None (f, ap is_whole e) tt t in
    record { made = r.made; fine = r.fine; says = r.says; written = λ rest. r.written rest ∙ ap (λ y. letters l (bytes p y)) (high_written b bs rest h) }
more_step b bs l p (Needs n) e f t more =
    let h : 128 ≤ b = high_next (status p) (Needs n) b (low_high p) e (λ w. cc) in
    let r = more l (Some (MoreByte p b)) f (subst IsNeeds (sym e) tt) (ap (λ s. text_from s bs) e ∙ t) in
    record { made = r.made; fine = r.fine; says = r.says; written = λ rest. r.written rest ∙ ap (λ y. letters l (bytes p y)) (high_written b bs rest h) }

pending_status : (s : Status) (b : ℕ) → IsNeeds s → text_status s b ≡ status_more s b
pending_status (Needs n) b h = refl
pending_status s b h = absurd h

whole_step : (b : ℕ) (bs : List ℕ) (l : Letters) → FineLetters l → (c : Bool) → nat_lt b 128 ≡ c → text_from (cond c (cond (is_small b) Whole Wrong) (status_first b)) bs ≡ true → ((m : Letters) (o : Option Bytes) → FineLetters m → Pending o → text_from (status_of o) bs ≡ true → LettersFor bs m o) → LettersFor (b ∷ bs) l None
whole_step b bs l f true e t more = at (is_small b) refl t
  where
    at : (c : Bool) → is_small b ≡ c → text_from (cond c Whole Wrong) bs ≡ true → LettersFor (b ∷ bs) l None
    at true q t = small_step b bs l f (letter_for b q (ltb-true _ _ e)) (λ m g. more m None g tt t)
    at false q t = absurd (true≢false (sym t ∙ wrong_never bs))
whole_step b bs l f false e t more = first_step b bs l (status_first b) refl (first_by b) f (ltb-false _ _ e) t (λ o p u. more l o f p u)

letters_for : (bs : List ℕ) (l : Letters) (o : Option Bytes) → FineLetters l → Pending o → text_from (status_of o) bs ≡ true → LettersFor bs l o
unfolding signs
letters_for [] l None f p t = record { made = l; fine = f; says = refl; written = λ rest. refl }
letters_for [] l (Some p) f q t = absurd (true≢false (sym t ∙ needs_not_whole (status p) q))
letters_for (b ∷ bs) l None f p t = whole_step b bs l f (nat_lt b 128) refl t (letters_for bs)
letters_for (b ∷ bs) l (Some p) f q t = more_step b bs l p (status_more (status p) b) refl f (ap (λ s. text_from s bs) (sym (pending_status (status p) b q)) ∙ t) (letters_for bs)

pub record TextFor (text : List ℕ) : Type 0 where
  pub made : Letters
  pub fine : FineLetters made
  pub says : texted made [] ≡ text
  pub written : (rest : List Sign) → Quote ∷ letters made (Quote ∷ rest) ≡ signs (quoted text) ++ rest

pub text_for : (text : List ℕ) → is_text text ≡ true → TextFor text
unfolding signs
text_for text h =
    let r = letters_for text NoLetter None tt tt h in
    record {
      made = r.made;
      fine = r.fine;
      says = r.says;
      written = λ rest. ap (λ y. Quote ∷ y) (r.written (Quote ∷ rest) ∙ sym (append_assoc (signs (flat_map escape text)) (Quote ∷ []) rest) ∙ ap (λ y. y ++ rest) (sym (signs-append (flat_map escape text) (34 ∷ []))));
    }
