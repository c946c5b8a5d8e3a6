-- No bytes are tokens of two kinds.
use Rattle.std.proofs.Common.{◌≡◌, ℕ, ◌<◌, ◌⊎◌, inl, inr, List, drop, refl, sym, ap, ◌∙◌, subst}
use Rattle.std.specs.Prelude.{slice_range}
use Rattle.std.proofs.lemmas.Bool.{cases_order}
use Rattle.std.specs.Char.{is_ascii_lowercase, is_ascii_uppercase}
use Rattle.rule_lexer.specs.declared.tokens.TokenKind.{TokenKind}
use Rattle.rule_lexer.specs.declared.tokens.TokenKind.TheVariants.{Name, Var, Word as Reserved, Wild, Number, Text, Mark as Sign}
use Rattle.rule_lexer.specs.declared.tokens.Word.{Word}
use Rattle.rule_lexer.specs.Spelling.{IsToken, IsFreeWord, Spells, word_bytes}
use Rattle.rule_lexer.specs.Places.{IsLongest}
use Rattle.rule_lexer.specs.Reading.{word_of}
use Rattle.rule_lexer.proofs.Classes.{Class.Lower, Class.Upper, class_first, class_kind, IsLetter, IsDigit, IsQuote, IsUnder, IsOther, NumberToken, MarkToken, class_spells, as_number, as_mark, word_letter, letter_quote, letter_under}
use Rattle.rule_lexer.proofs.WordLaws.{word_of-word_bytes}
use Rattle.rule_lexer.proofs.SignLaws.{found_mark, found-mark_bytes}

from_name : (k : TokenKind) (bs : List ℕ) → Lower ≡ class_kind k → IsFreeWord is_ascii_lowercase bs → Spells k bs → Name ≡ k
from_name Name bs e h i = refl
from_name Var bs e h i = let z : ⊥ = cc in absurd z
from_name (Reserved w) bs e h i = absurd (h.free w i)
from_name Wild bs e h i = let z : ⊥ = cc in absurd z
from_name (Number n) bs e h i = let z : ⊥ = cc in absurd z
from_name Text bs e h i = let z : ⊥ = cc in absurd z
from_name (Sign m) bs e h i = let z : ⊥ = cc in absurd z

from_var : (k : TokenKind) (bs : List ℕ) → Upper ≡ class_kind k → IsFreeWord is_ascii_uppercase bs → Spells k bs → Var ≡ k
from_var Name bs e h i = let z : ⊥ = cc in absurd z
from_var Var bs e h i = refl
from_var (Reserved w) bs e h i = absurd (h.free w i)
from_var Wild bs e h i = let z : ⊥ = cc in absurd z
from_var (Number n) bs e h i = let z : ⊥ = cc in absurd z
from_var Text bs e h i = let z : ⊥ = cc in absurd z
from_var (Sign m) bs e h i = let z : ⊥ = cc in absurd z

word_same : (v w : Word) → word_bytes v ≡ word_bytes w → v ≡ w
word_same v w e = let f : word_of (word_bytes v) ≡ word_of (word_bytes w) = ap word_of e in let g = word_of-word_bytes v in let h = word_of-word_bytes w in cc

from_reserved : (w : Word) (k : TokenKind) (bs : List ℕ) → class_first (word_bytes w) ≡ class_kind k → bs ≡ word_bytes w → Spells k bs → Reserved w ≡ k
from_reserved w Name bs e h i = absurd (i.free w h)
from_reserved w Var bs e h i = absurd (i.free w h)
from_reserved w (Reserved v) bs e h i = ap Reserved (word_same w v (sym h ∙ i))
from_reserved w Wild bs e h i = absurd (subst IsLetter e (word_letter w))
from_reserved w (Number n) bs e h i = absurd (subst IsLetter e (word_letter w))
from_reserved w Text bs e h i = absurd (subst IsLetter e (word_letter w))
from_reserved w (Sign m) bs e h i = absurd (subst IsLetter e (word_letter w))

from_text : (k : TokenKind) → IsQuote (class_kind k) → Text ≡ k
from_text Name l = absurd l
from_text Var l = absurd l
from_text (Reserved w) l = absurd (letter_quote _ (word_letter w) l)
from_text Wild l = absurd l
from_text (Number n) l = absurd l
from_text Text l = refl
from_text (Sign m) l = absurd l

from_wild : (k : TokenKind) → IsUnder (class_kind k) → Wild ≡ k
from_wild Name l = absurd l
from_wild Var l = absurd l
from_wild (Reserved w) l = absurd (letter_under _ (word_letter w) l)
from_wild Wild l = refl
from_wild (Number n) l = absurd l
from_wild Text l = absurd l
from_wild (Sign m) l = absurd l

pub same_kind : (j k : TokenKind) (bs rest : List ℕ) → IsToken j bs rest → IsToken k bs rest → j ≡ k
same_kind j k bs rest h i = at j h (sym (class_spells j bs h.spells) ∙ class_spells k bs i.spells)
  where
    at : (j : TokenKind) → IsToken j bs rest → class_kind j ≡ class_kind k → j ≡ k
    at Name h e = from_name k bs e h.spells i.spells
    at Var h e = from_var k bs e h.spells i.spells
    at (Reserved w) h e = from_reserved w k bs e h.spells i.spells
    at Wild h e = from_wild k (subst IsUnder e tt)
    at (Number n) h e = let t : NumberToken k bs rest = as_number k bs rest (subst IsDigit e tt) i in let f = h.spells.says in let g = t.number.says in let m = t.kind in cc
    at Text h e = from_text k (subst IsQuote e tt)
    at (Sign m) h e =
        let t : MarkToken k bs rest = as_mark k bs rest (subst IsOther e tt) i in
        let f = ap (λ xs. found_mark xs rest) h.spells ∙ found-mark_bytes m rest h.follows in
        let g = ap (λ xs. found_mark xs rest) t.whole ∙ found-mark_bytes t.mark rest t.ends in
        let n = t.kind in
        cc

-- no place has two longest tokens
pub same_token : (j k : TokenKind) (text : List ℕ) (from m n : ℕ) → IsLongest text j from m → IsLongest text k from n → (j ≡ k) × (m ≡ n)
same_token j k text from m n h i = at (cases_order m n)
  where
    at : (m ≡ n) ⊎ ((m < n) ⊎ (n < m)) → (j ≡ k) × (m ≡ n)
    at (inl e) = (same_kind j k (slice_range text from n) (drop n text) (subst (λ o. IsToken j (slice_range text from o) (drop o text)) e h.stands.token) i.stands.token, e)
    at (inr (inl l)) = absurd (h.longest k n l i.stands)
    at (inr (inr l)) = absurd (i.longest j m l h.stands)
