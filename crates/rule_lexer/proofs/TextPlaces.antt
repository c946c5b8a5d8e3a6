-- The quotes of a text, and what stands between them.
use Rattle.std.proofs.Common.{◌≡◌, ℕ, ◌+◌, ◌-◌, ◌<◌, ◌≤◌, true, false, List, [], ◌∷◌, ◌++◌, length, take, drop, get_or, sym, ap, ◌∙◌, subst, arith, suc, length-append, length-drop, append_assoc}
use Rattle.std.proofs.Math.Seq.{get_or-append_seam}
use Rattle.std.specs.Prelude.{slice_range, IsUtf8, IsCharBoundary}
use Rattle.std.proofs.lemmas.List.{drop-drop, get_or-drop, get_or-take, length-take-le, take_at, take-append-drop}
use Rattle.std.proofs.lemmas.Str.{IsCharBoundary-before_ascii, IsCharBoundary-after_ascii}
use Rattle.rule_lexer.specs.declared.tokens.TokenKind.{TokenKind}
use Rattle.rule_lexer.specs.declared.tokens.TokenKind.TheVariants.{Text}
use Rattle.rule_lexer.specs.Spelling.{are_characters, IsText, IsToken}
use Rattle.rule_lexer.specs.Places.{TokenAt}
use Rattle.rule_lexer.specs.Lexing.{unescaped, text_content}
use Rattle.rule_lexer.proofs.ReadTerminals.{inside_content}

-- the text's quotes are two bytes, and between them are characters
pub record TextAt (text : List ℕ) (from to : ℕ) : Type 0 where
  pub two : from + 2 ≤ to
  pub within : to ≤ length text
  pub first : IsCharBoundary text (from + 1)
  pub last : IsCharBoundary text (to - 1)
  pub characters : are_characters false (take (to - 1 - (from + 1)) (drop (from + 1) text)) ≡ true
  pub content : text_content (slice_range text from to) ≡ unescaped false (take (to - 1 - (from + 1)) (drop (from + 1) text))

pub text_at : (text : List ℕ) (from to : ℕ) (inside : List ℕ) → IsUtf8 text → from ≤ to → to ≤ length text → slice_range text from to ≡ 34 ∷ inside ++ 34 ∷ [] → are_characters false inside ≡ true → TextAt text from to
text_at text from to inside u o w e h = record {
  two = two;
  within = w;
  first = IsCharBoundary-after_ascii text from u (omega (arith, two)) first;
  last = IsCharBoundary-before_ascii text (to - 1) (omega (arith, two)) last;
  characters = rw same h;
  content = inside_content (slice_range text from to) (record { inside = inside; whole = e; characters = h }) ∙ ap (unescaped false) (sym same);
}
  where
    size : to - from ≡ length inside + 2
    size = omega (arith, ap length e, length-append inside (34 ∷ []), length-take-le (to - from) (drop from text), length-drop from text)

    two : from + 2 ≤ to
    two = omega (arith, size)

    byte : (i j : ℕ) → i < to - from → i + from ≡ j → get_or text j 0 ≡ get_or (34 ∷ inside ++ 34 ∷ []) i 0
    byte i j l f = ap (λ k. get_or text k 0) (omega arith) ∙ (sym (get_or-drop from text i 0) ∙ (sym (get_or-take (to - from) (drop from text) i 0 l) ∙ ap (λ xs. get_or xs i 0) e))

    first : get_or text from 0 < 128
    first = rw (byte 0 from (omega (arith, size)) (omega arith)) (omega arith)

    last : get_or text (to - 1) 0 < 128
    last = rw (byte (suc (length inside)) (to - 1) (omega (arith, size)) (omega (arith, size)) ∙ get_or-append_seam inside 34 [] 0) (omega arith)

    behind : drop (from + 1) text ≡ inside ++ (34 ∷ drop (to - from) (drop from text))
    behind = ap (λ n. drop n text) (omega arith) ∙ (sym (drop-drop 1 from text) ∙ (ap (drop 1) (sym (take-append-drop (to - from) (drop from text)) ∙ ap (λ xs. xs ++ drop (to - from) (drop from text)) e) ∙ append_assoc inside (34 ∷ []) _))

    same : take (to - 1 - (from + 1)) (drop (from + 1) text) ≡ inside
    same = ap (take (to - 1 - (from + 1))) behind ∙ take_at inside _ (to - 1 - (from + 1)) (omega (arith, size))

pub token_text : (text : List ℕ) (kind : TokenKind) (from to : ℕ) → IsUtf8 text → kind ≡ Text → TokenAt text kind from to → TextAt text from to
token_text text kind from to u e t =
    let quoted : IsText (slice_range text from to) = (subst (λ k. IsToken k (slice_range text from to) (drop to text)) e t.token).spells in
    text_at text from to quoted.inside u t.ordered t.within quoted.whole quoted.characters
