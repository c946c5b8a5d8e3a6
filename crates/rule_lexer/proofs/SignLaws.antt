-- Signs and the wildcard.
use Rattle.std.proofs.Common.{◌≡◌, ℕ, ◌≤◌, Bool, true, false, cond, not, ◌==◌, ◌||◌, List, [], ◌∷◌, length, take, drop, refl, sym, ap, ◌∙◌, subst, arith, suc, zero, Option, Some, None, IfSome, get_or}
use Rattle.std.specs.Char.{is_ascii_digit, is_ascii_lowercase, is_ascii_uppercase, is_ascii_alphanumeric}
use Rattle.std.proofs.lemmas.List.{length-take-le}
use Rattle.std.proofs.lemmas.Bool.{and_from, and_parts, or_parts, false≢true, not-true, not_from_false, eqb-true}
use Rattle.rule_lexer.specs.declared.tokens.TokenKind.{TokenKind}
use Rattle.rule_lexer.specs.declared.tokens.TokenKind.TheVariants.{Wild, Mark as Sign}
use Rattle.rule_lexer.specs.declared.tokens.Mark.{Mark}
use Rattle.rule_lexer.specs.declared.tokens.Mark.TheVariants.{OpenRound, CloseRound, OpenSquare, CloseSquare, Comma, Arrow, Plus, Minus, Star, Slash, Percent, Equal, NotEqual, Less, LessEqual, Greater, GreaterEqual, Both, Either, Bang, Limits, Length, End}
use Rattle.rule_lexer.specs.Sorts.{is_word, is_sign, is_quote, is_underscore, is_open_square, begins}
use Rattle.rule_lexer.specs.Spelling.{mark_bytes, mark_allows}
use Rattle.rule_lexer.specs.Reading.{pair_mark, single_mark, stop_mark, two_mark, lone_mark, TokenOf, LongestOf, NoneOf}
use Rattle.rule_lexer.proofs.Classes.{IsOther, IsUnder, MarkToken, WildToken, class_stands, sign_class, under_class, as_mark, as_wild}

-- a sign is found by its bytes and what follows

abbrev pub found_mark : List ℕ → List ℕ → Option Mark
found_mark [] rest = None
found_mark (a ∷ []) rest = lone_mark a rest
found_mark (a ∷ b ∷ []) rest = pair_mark a b
found_mark (a ∷ b ∷ c ∷ more) rest = None

pub found-mark_bytes : (m : Mark) (rest : List ℕ) → mark_allows m rest ≡ true → found_mark (mark_bytes m) rest ≡ Some m
found-mark_bytes OpenRound rest h = refl
found-mark_bytes CloseRound rest h = refl
found-mark_bytes OpenSquare rest h = refl
found-mark_bytes CloseSquare rest h = refl
found-mark_bytes Comma rest h = refl
found-mark_bytes Arrow rest h = refl
found-mark_bytes Plus rest h = refl
found-mark_bytes Minus rest h = refl
found-mark_bytes Star rest h = refl
found-mark_bytes Slash rest h = refl
found-mark_bytes Percent rest h = refl
found-mark_bytes Equal rest h = refl
found-mark_bytes NotEqual rest h = refl
found-mark_bytes Less rest h = refl
found-mark_bytes LessEqual rest h = refl
found-mark_bytes Greater rest h = refl
found-mark_bytes GreaterEqual rest h = refl
found-mark_bytes Both rest h = refl
found-mark_bytes Either rest h = refl
found-mark_bytes Bang rest h = refl
found-mark_bytes Limits rest h = refl
found-mark_bytes Length rest h = rw h refl
found-mark_bytes End rest h =
    let both = and_parts (not (begins is_ascii_digit rest)) (not (begins is_open_square rest)) h in
    rw (not-true (begins is_ascii_digit rest) both.0, not-true (begins is_open_square rest) both.1)

pub short_marks : (m : Mark) → length (mark_bytes m) ≤ 2
short_marks m = at m
  where
    at : (m : Mark) → length (mark_bytes m) ≤ 2
    at Arrow = omega arith
    at NotEqual = omega arith
    at LessEqual = omega arith
    at GreaterEqual = omega arith
    at Limits = omega arith
    at m = omega arith

-- and what is found has those bytes

abbrev Pair : ℕ → ℕ → Option Mark → Type 0
Pair a b o = IfSome o (λ m. mark_bytes m ≡ a ∷ b ∷ [])

two_same : (a b x y : ℕ) → (a == x) ≡ true → (b == y) ≡ true → x ∷ y ∷ [] ≡ a ∷ b ∷ []
two_same a b x y e f = let g : a ≡ x = eqb-true a x e in let h : b ≡ y = eqb-true b y f in cc

pick : (P : Option Mark → Type 0) (t : Bool) (x y : Option Mark) → (t ≡ true → P x) → P y → P (cond t x y)
pick P true x y h k = h refl
pick P false x y h k = k

pub pair_sound : (a b : ℕ) → Pair a b (pair_mark a b)
pair_sound a b =
    pick (Pair a b) (b == 45) _ _ (λ f. pick (Pair a b) (a == 60) _ _ (λ e. two_same a b 60 45 e f) tt)
    (pick (Pair a b) (b == 61) _ _ (λ f. pick (Pair a b) (a == 33) _ _ (λ e. two_same a b 33 61 e f) (pick (Pair a b) (a == 60) _ _ (λ e. two_same a b 60 61 e f) (pick (Pair a b) (a == 62) _ _ (λ e. two_same a b 62 61 e f) tt)))
    (pick (Pair a b) (b == 91) _ _ (λ f. pick (Pair a b) (a == 46) _ _ (λ e. two_same a b 46 91 e f) tt) tt))

abbrev Lone : ℕ → List ℕ → Option Mark → Type 0
Lone a rest o = IfSome o (λ m. (mark_bytes m ≡ a ∷ []) × (mark_allows m rest ≡ true))

one_same : (a x : ℕ) → (a == x) ≡ true → x ∷ [] ≡ a ∷ []
one_same a x e = let g : a ≡ x = eqb-true a x e in cc

single_sound : (a : ℕ) (rest : List ℕ) → Lone a rest (single_mark a)
single_sound a rest =
    pick (Lone a rest) (a == 40) _ _ (λ e. (one_same a 40 e, refl)) (pick (Lone a rest) (a == 41) _ _ (λ e. (one_same a 41 e, refl)) (pick (Lone a rest) (a == 91) _ _ (λ e. (one_same a 91 e, refl)) (pick (Lone a rest) (a == 93) _ _ (λ e. (one_same a 93 e, refl))
    (pick (Lone a rest) (a == 44) _ _ (λ e. (one_same a 44 e, refl)) (pick (Lone a rest) (a == 43) _ _ (λ e. (one_same a 43 e, refl)) (pick (Lone a rest) (a == 45) _ _ (λ e. (one_same a 45 e, refl)) (pick (Lone a rest) (a == 42) _ _ (λ e. (one_same a 42 e, refl))
    (pick (Lone a rest) (a == 47) _ _ (λ e. (one_same a 47 e, refl)) (pick (Lone a rest) (a == 37) _ _ (λ e. (one_same a 37 e, refl)) (pick (Lone a rest) (a == 61) _ _ (λ e. (one_same a 61 e, refl)) (pick (Lone a rest) (a == 60) _ _ (λ e. (one_same a 60 e, refl))
    (pick (Lone a rest) (a == 62) _ _ (λ e. (one_same a 62 e, refl)) (pick (Lone a rest) (a == 38) _ _ (λ e. (one_same a 38 e, refl)) (pick (Lone a rest) (a == 124) _ _ (λ e. (one_same a 124 e, refl)) (pick (Lone a rest) (a == 33) _ _ (λ e. (one_same a 33 e, refl)) tt)))))))))))))))

stop_sound : (a : ℕ) (rest : List ℕ) → (a == 46) ≡ true → Lone a rest (stop_mark rest)
stop_sound a rest e = at (begins is_ascii_digit rest) (begins is_open_square rest) refl refl
  where
    at : (s t : Bool) → begins is_ascii_digit rest ≡ s → begins is_open_square rest ≡ t → Lone a rest (cond s (Some Length) (cond t None (Some End)))
    at true t f g = (one_same a 46 e, f)
    at false true f g = tt
    at false false f g = (one_same a 46 e, and_from _ _ (not_from_false _ f) (not_from_false _ g))

pub lone_sound : (a : ℕ) (rest : List ℕ) → Lone a rest (lone_mark a rest)
lone_sound a rest = pick (Lone a rest) (a == 46) _ _ (λ e. stop_sound a rest e) (single_sound a rest)

-- in the words of tokens

as_sign : (bs : List ℕ) (k : TokenKind) (n : ℕ) → begins is_sign bs ≡ true → TokenOf bs k n → MarkToken k (take n bs) (drop n bs)
as_sign bs k n q t = as_mark k (take n bs) (drop n bs) (subst IsOther (sym (class_stands bs k n t ∙ sign_class bs q)) tt) t.token

found_stands : (bs : List ℕ) (k : TokenKind) (n : ℕ) → MarkToken k (take n bs) (drop n bs) → (m : Mark) × (found_mark (take n bs) (drop n bs) ≡ Some m)
found_stands bs k n h = (h.mark, ap (λ xs. found_mark xs (drop n bs)) h.whole ∙ found-mark_bytes h.mark (drop n bs) h.ends)

sign_short : (bs : List ℕ) (k : TokenKind) (n : ℕ) → begins is_sign bs ≡ true → TokenOf bs k n → n ≤ 2
sign_short bs k n q t =
    let h = as_sign bs k n q t in
    let short : length (mark_bytes h.mark) ≤ 2 = short_marks h.mark in
    omega (arith, ap length h.whole, length-take-le n bs t.within)

pub two_longest : (bs : List ℕ) (m : Mark) → begins is_sign bs ≡ true → two_mark (get_or bs 0 0) (drop 1 bs) ≡ Some m → LongestOf bs (Sign m) 2
two_longest [] m q e = absurd (false≢true q)
two_longest (a ∷ []) m q e = let z : ⊥ = cc in absurd z
two_longest (a ∷ b ∷ bs) m q e = record {
  stands = record { within = omega arith; token = record { spells = sym (subst (Pair a b) e (pair_sound a b)); follows = allowed } };
  longest = λ j n more t. let s : n ≤ 2 = sign_short (a ∷ b ∷ bs) j n q t in omega arith;
}
  where
    two_allow : (m : Mark) → 2 ≤ length (mark_bytes m) → (rest : List ℕ) → mark_allows m rest ≡ true
    two_allow Length l rest = absurd (omega arith)
    two_allow End l rest = absurd (omega arith)
    two_allow m l rest = refl

    allowed : mark_allows m bs ≡ true
    allowed = let s : mark_bytes m ≡ a ∷ b ∷ [] = subst (Pair a b) e (pair_sound a b) in two_allow m (omega (arith, ap length s)) bs

-- no token of one or of two bytes
none_at : (a : ℕ) (bs : List ℕ) (k : TokenKind) (n : ℕ) → begins is_sign (a ∷ bs) ≡ true → TokenOf (a ∷ bs) k n → two_mark a bs ≡ None → (n ≡ 1) × ((m : Mark) × (lone_mark a bs ≡ Some m))
none_at a bs k zero q t e = let f = found_stands (a ∷ bs) k 0 (as_sign (a ∷ bs) k 0 q t) in let g = f.1 in let z : ⊥ = cc in absurd z
none_at a bs k (suc zero) q t e = (refl, found_stands (a ∷ bs) k 1 (as_sign (a ∷ bs) k 1 q t))
none_at a [] k (suc (suc n)) q t e = let l = t.within in absurd (omega arith)
none_at a (b ∷ bs) k (suc (suc zero)) q t e = let f = found_stands (a ∷ b ∷ bs) k 2 (as_sign (a ∷ b ∷ bs) k 2 q t) in let g = f.1 in let z : ⊥ = cc in absurd z
none_at a (b ∷ bs) k (suc (suc (suc n))) q t e = let s : suc (suc (suc n)) ≤ 2 = sign_short (a ∷ b ∷ bs) k (suc (suc (suc n))) q t in absurd (omega arith)

pub lone_longest : (bs : List ℕ) (m : Mark) → begins is_sign bs ≡ true → two_mark (get_or bs 0 0) (drop 1 bs) ≡ None → lone_mark (get_or bs 0 0) (drop 1 bs) ≡ Some m → LongestOf bs (Sign m) 1
lone_longest [] m q e f = absurd (false≢true q)
lone_longest (a ∷ bs) m q e f =
    let s = subst (Lone a bs) f (lone_sound a bs) in
    record {
      stands = record { within = omega arith; token = record { spells = sym s.0; follows = s.1 } };
      longest = λ j n more t. let u = (none_at a bs j n q t e).0 in omega arith;
    }

pub sign_none : (bs : List ℕ) → begins is_sign bs ≡ true → two_mark (get_or bs 0 0) (drop 1 bs) ≡ None → lone_mark (get_or bs 0 0) (drop 1 bs) ≡ None → NoneOf bs
sign_none [] q e f = absurd (false≢true q)
sign_none (a ∷ bs) q e f = record { none = λ j n t. let u = (none_at a bs j n q t e).1 in let v = u.1 in let z : ⊥ = cc in z }

-- a first byte of a sign is no quote and no digit
pub sign_other : (bs : List ℕ) → begins is_sign bs ≡ true → (begins is_quote bs ≡ false) × (begins is_ascii_digit bs ≡ false)
sign_other [] q = absurd (false≢true q)
sign_other (b ∷ bs) q =
    let both = and_parts (not (is_word b)) (not (is_quote b)) q in
    let word = or_parts (is_ascii_alphanumeric b) (b == 95) (not-true (is_word b) both.0) in
    let letters = or_parts (is_ascii_digit b || is_ascii_uppercase b) (is_ascii_lowercase b) word.0 in
    let digits = or_parts (is_ascii_digit b) (is_ascii_uppercase b) letters.0 in
    (not-true (is_quote b) both.1, digits.0)

-- the wildcard

as_underscore : (bs : List ℕ) (k : TokenKind) (n : ℕ) → begins is_underscore bs ≡ true → TokenOf bs k n → WildToken (take n bs) (drop n bs)
as_underscore bs k n q t = as_wild k (take n bs) (drop n bs) (subst IsUnder (sym (class_stands bs k n t ∙ under_class bs q)) tt) t.token

wild_short : (bs : List ℕ) (k : TokenKind) (n : ℕ) → begins is_underscore bs ≡ true → TokenOf bs k n → n ≡ 1
wild_short bs k n q t = let h = as_underscore bs k n q t in omega (arith, ap length h.whole, length-take-le n bs t.within)

pub wild_longest : (bs : List ℕ) → begins is_underscore bs ≡ true → begins is_word (drop 1 bs) ≡ false → LongestOf bs Wild 1
wild_longest [] q e = absurd (false≢true q)
wild_longest (b ∷ bs) q e = record {
  stands = record { within = omega arith; token = record { spells = ap (λ x. x ∷ []) (eqb-true b 95 q); follows = not_from_false _ e } };
  longest = λ j n more t. let s : n ≡ 1 = wild_short (b ∷ bs) j n q t in omega arith;
}

pub wild_none : (bs : List ℕ) → begins is_underscore bs ≡ true → begins is_word (drop 1 bs) ≡ true → NoneOf bs
wild_none bs q e = record {
  none = λ j n t.
      let s : n ≡ 1 = wild_short bs j n q t in
      let h = not-true _ (as_underscore bs j n q t).ends in
      let f : begins is_word (drop n bs) ≡ begins is_word (drop 1 bs) = ap (λ i. begins is_word (drop i bs)) s in
      let z : ⊥ = cc in z;
}

pub wild_other : (bs : List ℕ) → begins is_underscore bs ≡ true → (begins is_quote bs ≡ false) × (begins is_ascii_digit bs ≡ false)
wild_other [] q = absurd (false≢true q)
wild_other (b ∷ bs) q = rw (eqb-true b 95 q) (refl, refl)
