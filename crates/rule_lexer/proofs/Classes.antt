-- A token's kind shows in its first byte.
use Rattle.std.proofs.Common.{◌≡◌, ℕ, true, false, cond, not, ◌==◌, ◌||◌, List, [], ◌∷◌, take, refl, sym, ap, ◌∙◌, subst, arith, zero, suc, ◌⊎◌, inl, inr}
use Rattle.std.specs.Char.{is_ascii_digit, is_ascii_lowercase, is_ascii_uppercase, is_ascii_alphanumeric}
use Rattle.std.specs.List.{list_all}
use Rattle.std.proofs.lemmas.Bool.{cond-true, cond-false, false≢true, or_cases, or_parts, and_parts, not-true, eqb-true}
use Rattle.std.proofs.lemmas.Bool.Decides.{nat_tests}
use Rattle.rule_lexer.specs.declared.tokens.TokenKind.{TokenKind}
use Rattle.rule_lexer.specs.declared.tokens.TokenKind.TheVariants.{Name, Var, Word as Reserved, Wild, Number, Text, Mark as Sign}
use Rattle.rule_lexer.specs.declared.tokens.Word.{Word}
use Rattle.rule_lexer.specs.declared.tokens.Word.TheVariants.{Seq, And, Par, Or, Equals, Meets, During, Starts, Finishes, Not, Where, Within, Show}
use Rattle.rule_lexer.specs.declared.tokens.Mark.{Mark}
use Rattle.rule_lexer.specs.declared.tokens.Mark.TheVariants.{OpenRound, CloseRound, OpenSquare, CloseSquare, Comma, Arrow, Plus, Minus, Star, Slash, Percent, Equal, NotEqual, Less, LessEqual, Greater, GreaterEqual, Both, Either, Bang, Limits, Length, End}
use Rattle.rule_lexer.specs.Sorts.{is_word, is_letter, is_quote, is_underscore, is_sign, begins}
use Rattle.rule_lexer.specs.Spelling.{Spells, IsToken, IsNumber, IsText, word_bytes, mark_bytes, mark_allows}
use Rattle.rule_lexer.specs.Reading.{TokenOf}

pub data Class : Type 0 where
  Empty : Class
  Lower : Class
  Upper : Class
  Digit : Class
  Quote : Class
  Under : Class
  Other : Class

abbrev pub class_of : ℕ → Class
class_of b = cond (is_ascii_lowercase b) Lower (cond (is_ascii_uppercase b) Upper (cond (is_ascii_digit b) Digit (cond (b == 34) Quote (cond (b == 95) Under Other))))

abbrev pub class_first : List ℕ → Class
class_first [] = Empty
class_first (b ∷ bs) = class_of b

abbrev pub class_kind : TokenKind → Class
class_kind Name = Lower
class_kind Var = Upper
class_kind (Reserved w) = class_first (word_bytes w)
class_kind Wild = Under
class_kind (Number n) = Digit
class_kind Text = Quote
class_kind (Sign m) = Other

abbrev pub IsLetter : Class → Type 0
IsLetter Lower = Unit {0}
IsLetter Upper = Unit {0}
IsLetter c = ⊥

abbrev pub Filled : Class → Type 0
Filled Empty = ⊥
Filled c = Unit {0}

-- the class of a first byte

pub lower_class : (bs : List ℕ) → begins is_ascii_lowercase bs ≡ true → class_first bs ≡ Lower
lower_class [] e = absurd (false≢true e)
lower_class (b ∷ bs) e = cond-true _ _ _ e

upper_not_lower : (b : ℕ) → is_ascii_uppercase b ≡ true → is_ascii_lowercase b ≡ false
upper_not_lower b e = grind (arith, nat_tests)

digit_not_lower : (b : ℕ) → is_ascii_digit b ≡ true → is_ascii_lowercase b ≡ false
digit_not_lower b e = grind (arith, nat_tests)

digit_not_upper : (b : ℕ) → is_ascii_digit b ≡ true → is_ascii_uppercase b ≡ false
digit_not_upper b e = grind (arith, nat_tests)

pub upper_class : (bs : List ℕ) → begins is_ascii_uppercase bs ≡ true → class_first bs ≡ Upper
upper_class [] e = absurd (false≢true e)
upper_class (b ∷ bs) e = cond-false _ _ _ (upper_not_lower b e) ∙ cond-true _ _ _ e

pub digit_class : (bs : List ℕ) → begins is_ascii_digit bs ≡ true → class_first bs ≡ Digit
digit_class [] e = absurd (false≢true e)
digit_class (b ∷ bs) e = cond-false _ _ _ (digit_not_lower b e) ∙ (cond-false _ _ _ (digit_not_upper b e) ∙ cond-true _ _ _ e)

pub letter_class : (bs : List ℕ) → begins is_letter bs ≡ true → IsLetter (class_first bs)
letter_class [] e = absurd (false≢true e)
letter_class (b ∷ bs) e = at (or_cases (is_ascii_lowercase b) (is_ascii_uppercase b) e)
  where
    at : (is_ascii_lowercase b ≡ true) ⊎ (is_ascii_uppercase b ≡ true) → IsLetter (class_of b)
    at (inl h) = rw (lower_class (b ∷ bs) h) tt
    at (inr h) = rw (upper_class (b ∷ bs) h) tt

pub quote_class : (bs : List ℕ) → begins is_quote bs ≡ true → class_first bs ≡ Quote
quote_class [] e = absurd (false≢true e)
quote_class (b ∷ bs) e = ap class_of (eqb-true b 34 e)

pub under_class : (bs : List ℕ) → begins is_underscore bs ≡ true → class_first bs ≡ Under
under_class [] e = absurd (false≢true e)
under_class (b ∷ bs) e = ap class_of (eqb-true b 95 e)

pub sign_class : (bs : List ℕ) → begins is_sign bs ≡ true → class_first bs ≡ Other
sign_class [] e = absurd (false≢true e)
sign_class (b ∷ bs) e =
    let both = and_parts (not (is_word b)) (not (is_quote b)) e in
    let word = or_parts (is_ascii_alphanumeric b) (b == 95) (not-true (is_word b) both.0) in
    let letters = or_parts (is_ascii_digit b || is_ascii_uppercase b) (is_ascii_lowercase b) word.0 in
    let digits = or_parts (is_ascii_digit b) (is_ascii_uppercase b) letters.0 in
    let quote = not-true (is_quote b) both.1 in
    rw (letters.1, digits.1, digits.0, quote, word.1)

-- the class of a kind

pub word_letter : (w : Word) → IsLetter (class_first (word_bytes w))
word_letter Seq = tt
word_letter And = tt
word_letter Par = tt
word_letter Or = tt
word_letter Equals = tt
word_letter Meets = tt
word_letter During = tt
word_letter Starts = tt
word_letter Finishes = tt
word_letter Not = tt
word_letter Where = tt
word_letter Within = tt
word_letter Show = tt

letter_filled : (c : Class) → IsLetter c → Filled c
letter_filled Empty h = h
letter_filled Lower h = tt
letter_filled Upper h = tt
letter_filled Digit h = tt
letter_filled Quote h = tt
letter_filled Under h = tt
letter_filled Other h = tt

word_all : (w : Word) → list_all is_word (word_bytes w) ≡ true
word_all Seq = refl
word_all And = refl
word_all Par = refl
word_all Or = refl
word_all Equals = refl
word_all Meets = refl
word_all During = refl
word_all Starts = refl
word_all Finishes = refl
word_all Not = refl
word_all Where = refl
word_all Within = refl
word_all Show = refl

mark_other : (m : Mark) → class_first (mark_bytes m) ≡ Other
mark_other OpenRound = refl
mark_other CloseRound = refl
mark_other OpenSquare = refl
mark_other CloseSquare = refl
mark_other Comma = refl
mark_other Arrow = refl
mark_other Plus = refl
mark_other Minus = refl
mark_other Star = refl
mark_other Slash = refl
mark_other Percent = refl
mark_other Equal = refl
mark_other NotEqual = refl
mark_other Less = refl
mark_other LessEqual = refl
mark_other Greater = refl
mark_other GreaterEqual = refl
mark_other Both = refl
mark_other Either = refl
mark_other Bang = refl
mark_other Limits = refl
mark_other Length = refl
mark_other End = refl

kind_filled : (k : TokenKind) → Filled (class_kind k)
kind_filled Name = tt
kind_filled Var = tt
kind_filled (Reserved w) = letter_filled _ (word_letter w)
kind_filled Wild = tt
kind_filled (Number n) = tt
kind_filled Text = tt
kind_filled (Sign m) = tt

pub class_spells : (k : TokenKind) (bs : List ℕ) → Spells k bs → class_first bs ≡ class_kind k
class_spells Name bs h = lower_class bs h.first_byte
class_spells Var bs h = upper_class bs h.first_byte
class_spells (Reserved w) bs h = ap class_first h
class_spells Wild bs h = ap class_first h
class_spells (Number n) bs h = digit_class bs h.first_byte
class_spells Text bs h = ap class_first h.whole
class_spells (Sign m) bs h = ap class_first h ∙ mark_other m

-- a token at the first place has the class of the first byte
pub class_stands : (bs : List ℕ) (k : TokenKind) (n : ℕ) → TokenOf bs k n → class_kind k ≡ class_first bs
class_stands [] k zero t = sym (class_spells k [] t.token.spells)
class_stands [] k (suc n) t = sym (class_spells k [] t.token.spells)
class_stands (b ∷ bs) k zero t = absurd (subst Filled (sym (class_spells k [] t.token.spells)) (kind_filled k))
class_stands (b ∷ bs) k (suc n) t = sym (class_spells k (b ∷ take n bs) t.token.spells)

-- what a kind is, by its class

pub as_word : (k : TokenKind) (bs : List ℕ) → IsLetter (class_kind k) → Spells k bs → list_all is_word bs ≡ true
as_word Name bs l h = h.all_bytes
as_word Var bs l h = h.all_bytes
as_word (Reserved w) bs l h = ap (list_all is_word) h ∙ word_all w
as_word Wild bs l h = absurd l
as_word (Number n) bs l h = absurd l
as_word Text bs l h = absurd l
as_word (Sign m) bs l h = absurd l

abbrev pub IsDigit : Class → Type 0
IsDigit Digit = Unit {0}
IsDigit c = ⊥

abbrev pub IsQuote : Class → Type 0
IsQuote Quote = Unit {0}
IsQuote c = ⊥

abbrev pub IsUnder : Class → Type 0
IsUnder Under = Unit {0}
IsUnder c = ⊥

abbrev pub IsOther : Class → Type 0
IsOther Other = Unit {0}
IsOther c = ⊥

letter_digit : (c : Class) → IsLetter c → IsDigit c → ⊥
letter_digit Empty h l = h
letter_digit Lower h l = l
letter_digit Upper h l = l
letter_digit Digit h l = h
letter_digit Quote h l = h
letter_digit Under h l = h
letter_digit Other h l = h

pub letter_quote : (c : Class) → IsLetter c → IsQuote c → ⊥
letter_quote Empty h l = h
letter_quote Lower h l = l
letter_quote Upper h l = l
letter_quote Digit h l = h
letter_quote Quote h l = h
letter_quote Under h l = h
letter_quote Other h l = h

pub letter_under : (c : Class) → IsLetter c → IsUnder c → ⊥
letter_under Empty h l = h
letter_under Lower h l = l
letter_under Upper h l = l
letter_under Digit h l = h
letter_under Quote h l = h
letter_under Under h l = h
letter_under Other h l = h

letter_other : (c : Class) → IsLetter c → IsOther c → ⊥
letter_other Empty h l = h
letter_other Lower h l = l
letter_other Upper h l = l
letter_other Digit h l = h
letter_other Quote h l = h
letter_other Under h l = h
letter_other Other h l = h

pub record NumberToken (k : TokenKind) (bs rest : List ℕ) : Type 0 where
  pub value : ℕ
  pub kind : k ≡ Number value
  pub number : IsNumber value bs
  pub ends : not (begins is_ascii_digit rest) ≡ true

pub as_number : (k : TokenKind) (bs rest : List ℕ) → IsDigit (class_kind k) → IsToken k bs rest → NumberToken k bs rest
as_number Name bs rest l h = absurd l
as_number Var bs rest l h = absurd l
as_number (Reserved w) bs rest l h = absurd (letter_digit _ (word_letter w) l)
as_number Wild bs rest l h = absurd l
as_number (Number n) bs rest l h = record { value = n; kind = refl; number = h.spells; ends = h.follows }
as_number Text bs rest l h = absurd l
as_number (Sign m) bs rest l h = absurd l

pub as_text : (k : TokenKind) (bs : List ℕ) → IsQuote (class_kind k) → Spells k bs → IsText bs
as_text Name bs l h = absurd l
as_text Var bs l h = absurd l
as_text (Reserved w) bs l h = absurd (letter_quote _ (word_letter w) l)
as_text Wild bs l h = absurd l
as_text (Number n) bs l h = absurd l
as_text Text bs l h = h
as_text (Sign m) bs l h = absurd l

pub record WildToken (bs rest : List ℕ) : Type 0 where
  pub whole : bs ≡ 95 ∷ []
  pub ends : not (begins is_word rest) ≡ true

pub as_wild : (k : TokenKind) (bs rest : List ℕ) → IsUnder (class_kind k) → IsToken k bs rest → WildToken bs rest
as_wild Name bs rest l h = absurd l
as_wild Var bs rest l h = absurd l
as_wild (Reserved w) bs rest l h = absurd (letter_under _ (word_letter w) l)
as_wild Wild bs rest l h = record { whole = h.spells; ends = h.follows }
as_wild (Number n) bs rest l h = absurd l
as_wild Text bs rest l h = absurd l
as_wild (Sign m) bs rest l h = absurd l

pub record MarkToken (k : TokenKind) (bs rest : List ℕ) : Type 0 where
  pub mark : Mark
  pub kind : k ≡ Sign mark
  pub whole : bs ≡ mark_bytes mark
  pub ends : mark_allows mark rest ≡ true

pub as_mark : (k : TokenKind) (bs rest : List ℕ) → IsOther (class_kind k) → IsToken k bs rest → MarkToken k bs rest
as_mark Name bs rest l h = absurd l
as_mark Var bs rest l h = absurd l
as_mark (Reserved w) bs rest l h = absurd (letter_other _ (word_letter w) l)
as_mark Wild bs rest l h = absurd l
as_mark (Number n) bs rest l h = absurd l
as_mark Text bs rest l h = absurd l
as_mark (Sign m) bs rest l h = record { mark = m; kind = refl; whole = h.spells; ends = h.follows }
