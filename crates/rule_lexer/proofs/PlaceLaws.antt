-- Tokens of a text, and tokens of the bytes from a place on.
use Rattle.std.proofs.Common.{◌≡◌, ℕ, ◌+◌, ◌-◌, ◌≤◌, List, length, take, drop, refl, sym, ap, ◌∙◌, subst, arith, length-drop}
use Rattle.std.specs.Prelude.{slice_range}
use Rattle.std.proofs.lemmas.List.{drop-drop}
use Rattle.rule_lexer.specs.declared.tokens.TokenKind.{TokenKind}
use Rattle.rule_lexer.specs.Spelling.{IsToken}
use Rattle.rule_lexer.specs.Places.{TokenAt, IsLongest, NoneFrom}
use Rattle.rule_lexer.specs.Reading.{TokenOf, LongestOf, NoneOf}

token_same : (k : TokenKind) (xs ys us vs : List ℕ) → xs ≡ us → ys ≡ vs → IsToken k xs ys → IsToken k us vs
token_same k xs ys us vs e f t = subst (λ a. IsToken k a vs) e (subst (λ b. IsToken k xs b) f t)

drop_to : (text : List ℕ) (from to : ℕ) → from ≤ to → drop (to - from) (drop from text) ≡ drop to text
drop_to text from to l = drop-drop (to - from) from text ∙ ap (λ n. drop n text) (omega arith)

pub of_at : (text : List ℕ) (k : TokenKind) (from to : ℕ) → TokenAt text k from to → TokenOf (drop from text) k (to - from)
of_at text k from to t = record {
  within = (let w = t.within in omega (arith, length-drop from text));
  token = token_same k _ _ _ _ refl (sym (drop_to text from to t.ordered)) t.token;
}

pub at_of : (text : List ℕ) (k : TokenKind) (from n : ℕ) → from ≤ length text → TokenOf (drop from text) k n → TokenAt text k from (from + n)
at_of text k from n l t = record {
  ordered = omega arith;
  within = (let w = t.within in omega (arith, length-drop from text));
  token = token_same k (take n (drop from text)) _ (slice_range text from (from + n)) _ (ap (λ i. take i (drop from text)) same) (drop-drop n from text) t.token;
}
  where
    same : n ≡ from + n - from
    same = omega arith

pub longest_at : (text : List ℕ) (k : TokenKind) (from n : ℕ) → from ≤ length text → LongestOf (drop from text) k n → IsLongest text k from (from + n)
longest_at text k from n l h = record {
  stands = at_of text k from n l h.stands;
  longest = λ j m more t. h.longest j (m - from) (omega arith) (of_at text j from m t);
}

pub none_at : (text : List ℕ) (from : ℕ) → NoneOf (drop from text) → NoneFrom text from
none_at text from h = λ j m t. h.none j (m - from) (of_at text j from m t)
