-- Escapes of a text, one by one.
use Rattle.std.proofs.Common.{◌≡◌, ◌≢◌, ℕ, ◌<◌, Bool, true, false, cond, ◌==◌, List, [], ◌∷◌, ◌++◌, length, drop, get_or, refl, ap, ◌∙◌, arith, suc, append_assoc, Some, None, Bor, subst, sym, lit<}
use Rattle.std.proofs.lemmas.Bool.{and_parts, false≢true}
use Rattle.std.proofs.lemmas.Bool.Decides.{nat_tests}
use Rattle.std.specs.Prelude.{IsUtf8, IsCharBoundary}
use Rattle.std.proofs.lemmas.Str.{IsUtf8-drop}
use Rattle.std.proofs.lemmas.Str.Pattern.{IsSplitOnceResult, split_parts}
use Rattle.rule_lexer.specs.Spelling.{is_character, are_characters, is_escape}
use Rattle.rule_lexer.specs.Lexing.{escaped_byte, unescaped}

-- no byte is a backslash
abbrev pub Plain : List ℕ → Type 0
Plain bs = (i : ℕ) → i < length bs → get_or bs i 0 ≢ 92

plain_first : (b : ℕ) (bs : List ℕ) → Plain (b ∷ bs) → (b == 92) ≡ false
plain_first b bs h = let e : b ≢ 92 = h 0 (omega arith) in at (b == 92) refl e
  where
    at : (t : Bool) → (b == 92) ≡ t → b ≢ 92 → t ≡ false
    at true q e = absurd (e (grind (arith, nat_tests)))
    at false q e = refl

plain_more : (b : ℕ) (bs : List ℕ) → Plain (b ∷ bs) → Plain bs
plain_more b bs h = λ i l. h (suc i) (omega arith)

pub unescaped-plain : (bs : List ℕ) → Plain bs → unescaped false bs ≡ bs
unescaped-plain [] h = refl
unescaped-plain (b ∷ bs) h = rw (plain_first b bs h) (ap (λ x. b ∷ x) (unescaped-plain bs (plain_more b bs h)))

pub unescaped-escape : (plain : List ℕ) (b : ℕ) (rest : List ℕ) → Plain plain → unescaped false (plain ++ 92 ∷ b ∷ rest) ≡ plain ++ escaped_byte b ∷ unescaped false rest
unescaped-escape [] b rest h = refl
unescaped-escape (x ∷ plain) b rest h = rw (plain_first x plain h) (ap (λ y. x ∷ y) (unescaped-escape plain b rest (plain_more x plain h)))

-- a backslash that stands in a text begins an escape
pub escape_follows : (plain behind : List ℕ) → Plain plain → are_characters false (plain ++ 92 ∷ behind) ≡ true → are_characters true behind ≡ true
escape_follows [] behind h e = e
escape_follows (x ∷ plain) behind h e =
    let both = and_parts (is_character false x) (are_characters (x == 92) (plain ++ 92 ∷ behind)) e in
    let rest = both.1 in
    escape_follows plain behind (plain_more x plain h) (rw (plain_first x plain h) at rest)

-- what stands behind such a backslash
pub record EscapeAt (bs : List ℕ) : Type 0 where
  pub some : 0 < length bs
  pub ascii : get_or bs 0 0 < 128
  pub says : escaped_byte (get_or bs 0 0) < 128
  pub behind : are_characters false (drop 1 bs) ≡ true

pub escape_below : (b : ℕ) → is_escape b ≡ true → b < 128
escape_below b e = grind (arith, nat_tests)

says_below : (b : ℕ) → b < 128 → escaped_byte b < 128
says_below b l = at (b == 110) (b == 116)
  where
    at : (s t : Bool) → cond s 10 (cond t 9 b) < 128
    at true t = omega arith
    at false true = omega arith
    at false false = l

pub escape_at : (bs : List ℕ) → are_characters true bs ≡ true → EscapeAt bs
escape_at [] e = absurd (false≢true e)
escape_at (b ∷ bs) e =
    let both = and_parts (is_escape b) (are_characters false bs) e in
    let below : b < 128 = escape_below b both.0 in
    record { some = omega arith; ascii = below; says = says_below b below; behind = both.1 }

-- one escape is read
pub escape_read : (characters text rest plain escape : List ℕ) → rest ≡ plain ++ 92 ∷ escape → Plain plain → 0 < length escape
    → unescaped false characters ≡ text ++ unescaped false rest → unescaped false characters ≡ ((text ++ plain) ++ escaped_byte (get_or escape 0 0) ∷ []) ++ unescaped false (drop 1 escape)
escape_read characters text rest plain [] e h l u = absurd (omega arith)
escape_read characters text rest plain (b ∷ escape) e h l u =
    let f : unescaped false rest ≡ plain ++ escaped_byte b ∷ unescaped false escape = ap (unescaped false) e ∙ unescaped-escape plain b escape h in
    u ∙ (ap (λ x. text ++ x) f ∙ simp append_assoc)

-- the first backslash of characters, which begins an escape
pub record SplitAt (rest plain behind : List ℕ) : Type 0 where
  pub whole : rest ≡ plain ++ 92 ∷ behind
  pub unescaped : Plain plain
  pub escape : are_characters true behind ≡ true

pub split_at : (rest : List ℕ) (x : Bor (List ℕ) × Bor (List ℕ)) → IsSplitOnceResult 92 rest (Some x) → are_characters false rest ≡ true → SplitAt rest x.0.now x.1.now
split_at rest x h e =
    let parts = split_parts 92 rest (Some x) h (lit< tt) in
    record { whole = parts.0; unescaped = parts.1; escape = escape_follows x.0.now x.1.now parts.1 (subst (λ s. are_characters false s ≡ true) parts.0 e) }

pub split_none : (rest : List ℕ) → IsSplitOnceResult 92 rest None → unescaped false rest ≡ rest
split_none rest h = unescaped-plain rest (split_parts 92 rest None h (lit< tt))

pub split_text : (rest : List ℕ) (x : Bor (List ℕ) × Bor (List ℕ)) → IsSplitOnceResult 92 rest (Some x) → IsUtf8 rest → IsUtf8 x.1.now
split_text rest x h u = let c = h.2.1 in subst IsUtf8 (sym h.4) (IsUtf8-drop rest h.1 u (subst (IsCharBoundary rest) (sym c.ends) c.after))
