-- A token begins and ends at characters' edges.
use Rattle.std.proofs.Common.{◌≡◌, ℕ, ◌+◌, ◌-◌, ◌<◌, Bool, true, List, [], ◌∷◌, ◌++◌, length, take, drop, get_or, ap, ◌∙◌, subst, arith, suc, zero, length-append, length-drop}
use Rattle.std.proofs.Math.Seq.{get_or-append_seam}
use Rattle.std.specs.Prelude.{IsUtf8, IsCharBoundary}
use Rattle.std.specs.Char.{is_ascii_digit}
use Rattle.std.specs.List.{list_all}
use Rattle.std.proofs.lemmas.Bool.{and_parts, false≢true}
use Rattle.std.proofs.lemmas.Bool.Decides.{nat_tests}
use Rattle.std.proofs.lemmas.List.{get_or-drop, get_or-take, length-take, length-take-le}
use Rattle.std.proofs.lemmas.Str.{IsCharBoundary-before_ascii, IsCharBoundary-after_ascii}
use Rattle.rule_lexer.specs.declared.tokens.TokenKind.{TokenKind}
use Rattle.rule_lexer.specs.declared.tokens.TokenKind.TheVariants.{Name, Var, Word as Reserved, Wild, Number, Text, Mark as Sign}
use Rattle.rule_lexer.specs.declared.tokens.Word.{Word}
use Rattle.rule_lexer.specs.declared.tokens.Word.TheVariants.{Seq, And, Par, Or, Equals, Meets, During, Starts, Finishes, Not, Where, Within, Show}
use Rattle.rule_lexer.specs.declared.tokens.Mark.{Mark}
use Rattle.rule_lexer.specs.declared.tokens.Mark.TheVariants.{OpenRound, CloseRound, OpenSquare, CloseSquare, Comma, Arrow, Plus, Minus, Star, Slash, Percent, Equal, NotEqual, Less, LessEqual, Greater, GreaterEqual, Both, Either, Bang, Limits, Length, End}
use Rattle.rule_lexer.specs.Sorts.{is_word, begins}
use Rattle.rule_lexer.specs.Spelling.{Spells, word_bytes, mark_bytes}
use Rattle.rule_lexer.specs.Places.{TokenAt}
use Rattle.rule_lexer.proofs.Classes.{as_word, word_letter}

-- first and last byte are ASCII
pub record Edges (bs : List ℕ) : Type 0 where
  pub some : 0 < length bs
  pub first : get_or bs 0 0 < 128
  pub last : get_or bs (length bs - 1) 0 < 128

all_below : (p : ℕ → Bool) → ((b : ℕ) → p b ≡ true → b < 128) → (bs : List ℕ) → list_all p bs ≡ true → (k : ℕ) → get_or bs k 0 < 128
all_below p f [] h k = omega arith
all_below p f (b ∷ bs) h zero = f b (and_parts (p b) (list_all p bs) h).0
all_below p f (b ∷ bs) h (suc k) = all_below p f bs (and_parts (p b) (list_all p bs) h).1 k

edges_all : (p : ℕ → Bool) → ((b : ℕ) → p b ≡ true → b < 128) → (bs : List ℕ) → 0 < length bs → list_all p bs ≡ true → Edges bs
edges_all p f bs l h = record { some = l; first = all_below p f bs h 0; last = all_below p f bs h (length bs - 1) }

word_below : (b : ℕ) → is_word b ≡ true → b < 128
word_below b e = grind (arith, nat_tests)

digit_below : (b : ℕ) → is_ascii_digit b ≡ true → b < 128
digit_below b e = grind (arith, nat_tests)

begins_some : (p : ℕ → Bool) (bs : List ℕ) → begins p bs ≡ true → 0 < length bs
begins_some p [] e = absurd (false≢true e)
begins_some p (b ∷ bs) e = omega arith

word_some : (w : Word) → 0 < length (word_bytes w)
word_some Seq = omega arith
word_some And = omega arith
word_some Par = omega arith
word_some Or = omega arith
word_some Equals = omega arith
word_some Meets = omega arith
word_some During = omega arith
word_some Starts = omega arith
word_some Finishes = omega arith
word_some Not = omega arith
word_some Where = omega arith
word_some Within = omega arith
word_some Show = omega arith

mark_edges : (m : Mark) → Edges (mark_bytes m)
mark_edges OpenRound = record { some = omega arith; first = omega arith; last = omega arith }
mark_edges CloseRound = record { some = omega arith; first = omega arith; last = omega arith }
mark_edges OpenSquare = record { some = omega arith; first = omega arith; last = omega arith }
mark_edges CloseSquare = record { some = omega arith; first = omega arith; last = omega arith }
mark_edges Comma = record { some = omega arith; first = omega arith; last = omega arith }
mark_edges Arrow = record { some = omega arith; first = omega arith; last = omega arith }
mark_edges Plus = record { some = omega arith; first = omega arith; last = omega arith }
mark_edges Minus = record { some = omega arith; first = omega arith; last = omega arith }
mark_edges Star = record { some = omega arith; first = omega arith; last = omega arith }
mark_edges Slash = record { some = omega arith; first = omega arith; last = omega arith }
mark_edges Percent = record { some = omega arith; first = omega arith; last = omega arith }
mark_edges Equal = record { some = omega arith; first = omega arith; last = omega arith }
mark_edges NotEqual = record { some = omega arith; first = omega arith; last = omega arith }
mark_edges Less = record { some = omega arith; first = omega arith; last = omega arith }
mark_edges LessEqual = record { some = omega arith; first = omega arith; last = omega arith }
mark_edges Greater = record { some = omega arith; first = omega arith; last = omega arith }
mark_edges GreaterEqual = record { some = omega arith; first = omega arith; last = omega arith }
mark_edges Both = record { some = omega arith; first = omega arith; last = omega arith }
mark_edges Either = record { some = omega arith; first = omega arith; last = omega arith }
mark_edges Bang = record { some = omega arith; first = omega arith; last = omega arith }
mark_edges Limits = record { some = omega arith; first = omega arith; last = omega arith }
mark_edges Length = record { some = omega arith; first = omega arith; last = omega arith }
mark_edges End = record { some = omega arith; first = omega arith; last = omega arith }

text_edges : (inside : List ℕ) → Edges (34 ∷ inside ++ 34 ∷ [])
text_edges inside = record {
  some = omega arith;
  first = omega arith;
  last = (let n : length (34 ∷ inside ++ 34 ∷ []) - 1 ≡ suc (length inside) = omega (arith, length-append inside (34 ∷ [])) in let e = get_or-append_seam inside 34 [] 0 in rw (n, e) (omega arith));
}

pub edges : (k : TokenKind) (bs : List ℕ) → Spells k bs → Edges bs
edges Name bs h = edges_all is_word word_below bs (begins_some _ bs h.first_byte) h.all_bytes
edges Var bs h = edges_all is_word word_below bs (begins_some _ bs h.first_byte) h.all_bytes
edges (Reserved w) bs h = edges_all is_word word_below bs (rw h (word_some w)) (as_word (Reserved w) bs (word_letter w) h)
edges Wild bs h = rw h (record { some = omega arith; first = omega arith; last = omega arith })
edges (Number n) bs h = edges_all is_ascii_digit digit_below bs (begins_some _ bs h.first_byte) h.all_bytes
edges Text bs h = rw h.whole (text_edges h.inside)
edges (Sign m) bs h = rw h (mark_edges m)

-- so a text may be cut at both ends of a token
pub token_cuts : (text : List ℕ) (k : TokenKind) (from to : ℕ) → IsUtf8 text → TokenAt text k from to → IsCharBoundary text from × IsCharBoundary text to
token_cuts text k from to u t =
    let e : Edges (take (to - from) (drop from text)) = edges k (take (to - from) (drop from text)) t.token.spells in
    let within = t.within in
    let ordered = t.ordered in
    let size : length (take (to - from) (drop from text)) ≡ to - from = length-take-le (to - from) (drop from text) (omega (arith, length-drop from text)) in
    let n : ℕ = to - from in
    let first : get_or text from 0 < 128 = subst (λ x. x < 128) (get_or-take (to - from) (drop from text) 0 0 (omega (arith, e.some)) ∙ (get_or-drop from text 0 0 ∙ ap (λ i. get_or text i 0) (omega arith))) e.first in
    let last : get_or text (to - 1) 0 < 128 = subst (λ x. x < 128) (ap (λ i. get_or (take (to - from) (drop from text)) (i - 1) 0) size ∙ (get_or-take (to - from) (drop from text) (to - from - 1) 0 (omega (arith, e.some)) ∙ (get_or-drop from text (to - from - 1) 0 ∙ ap (λ i. get_or text i 0) (omega (arith, e.some))))) e.last in
    let behind : to - 1 + 1 ≡ to = omega (arith, e.some) in (
      IsCharBoundary-before_ascii text from (omega (arith, e.some)) first,
      subst (IsCharBoundary text) behind (IsCharBoundary-after_ascii text (to - 1) u (omega (arith, e.some)) last),
    )

pub token_some : (text : List ℕ) (k : TokenKind) (from to : ℕ) → TokenAt text k from to → from < to
token_some text k from to t = let some = (edges k (take (to - from) (drop from text)) t.token.spells).some in omega (arith, length-take (to - from) (drop from text))
