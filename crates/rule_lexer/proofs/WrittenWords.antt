-- Names, variables, reserved words and the wildcard that are written are read.
use Rattle.std.proofs.Common.{◌≡◌, ℕ, true, false, List, [], ◌∷◌, ◌++◌, length, refl, arith, Option, Some, None}
use Rattle.std.specs.Char.{is_ascii_lowercase, is_ascii_uppercase}
use Rattle.std.specs.List.{list_all}
use Rattle.std.specs.Option.{is_none}
use Rattle.std.proofs.lemmas.Bool.{and_parts, false≢true}
use Rattle.std.proofs.lemmas.Bool.Decides.{nat_tests}
use Rattle.rule_lexer.specs.declared.tokens.TokenKind.{TokenKind}
use Rattle.rule_lexer.specs.declared.tokens.TokenKind.TheVariants.{Name, Var, Word as Reserved, Wild}
use Rattle.rule_lexer.specs.declared.tokens.Word.{Word}
use Rattle.rule_lexer.specs.declared.tokens.Word.TheVariants.{Seq}
use Rattle.rule_lexer.specs.Sorts.{is_word, is_letter, begins}
use Rattle.rule_lexer.specs.Spelling.{IsToken, word_bytes}
use Rattle.rule_lexer.specs.Places.{is_skipped}
use Rattle.rule_lexer.specs.Reading.{word_of}
use Rattle.rule_lexer.proofs.WordLaws.{word_longest, name_token, var_token}
use Rattle.rule_lexer.proofs.SignLaws.{wild_longest}
use Rattle.rule_lexer.specs.Writing.{is_free_word}
use Rattle.rule_lexer.proofs.Stands.{Stands, front, begins-append, whole_run}

letter_solid : (bs : List ℕ) → begins is_letter bs ≡ true → begins (is_skipped false) bs ≡ false
letter_solid [] e = refl
letter_solid (b ∷ bs) e = grind (arith, nat_tests)

word_stands : (k : TokenKind) (word rest : List ℕ) → begins is_letter word ≡ true → list_all is_word word ≡ true → begins is_word rest ≡ false → ((r : List ℕ) → IsToken k word r) → Stands k word rest
word_stands k word rest l a e t = record {
  solid = letter_solid (word ++ rest) (begins-append is_letter word rest l);
  longest = word_longest (word ++ rest) k (length word) (begins-append is_letter word rest l) (whole_run is_word word rest a e) (λ r. rw (front word rest) (t r));
}

lower_letter : (bs : List ℕ) → begins is_ascii_lowercase bs ≡ true → begins is_letter bs ≡ true
lower_letter [] e = e
lower_letter (b ∷ bs) e = grind arith

upper_letter : (bs : List ℕ) → begins is_ascii_uppercase bs ≡ true → begins is_letter bs ≡ true
upper_letter [] e = e
upper_letter (b ∷ bs) e = grind arith

no_word : (o : Option Word) → is_none o ≡ true → o ≡ None
no_word None e = refl
no_word (Some w) e = absurd (false≢true e)

pub name_stands : (word rest : List ℕ) → is_free_word is_ascii_lowercase word ≡ true → begins is_word rest ≡ false → Stands Name word rest
name_stands word rest f e =
    let both = and_parts (begins is_ascii_lowercase word) _ f in
    let more = and_parts (list_all is_word word) (is_none (word_of word)) both.1 in
    word_stands Name word rest (lower_letter word both.0) more.0 e (λ r. name_token word r both.0 more.0 (no_word (word_of word) more.1))

pub var_stands : (word rest : List ℕ) → is_free_word is_ascii_uppercase word ≡ true → begins is_word rest ≡ false → Stands Var word rest
var_stands word rest f e =
    let both = and_parts (begins is_ascii_uppercase word) _ f in
    let more = and_parts (list_all is_word word) (is_none (word_of word)) both.1 in
    word_stands Var word rest (upper_letter word both.0) more.0 e (λ r. var_token word r both.0 more.0 (no_word (word_of word) more.1))

word_letters : (w : Word) → (begins is_letter (word_bytes w) ≡ true) × (list_all is_word (word_bytes w) ≡ true)
word_letters Seq = (refl, refl)
word_letters w = (refl, refl)

pub reserved_stands : (w : Word) (rest : List ℕ) → begins is_word rest ≡ false → Stands (Reserved w) (word_bytes w) rest
reserved_stands w rest e = let h = word_letters w in word_stands (Reserved w) (word_bytes w) rest h.0 h.1 e (λ r. record { spells = refl; follows = refl })

pub wild_stands : (rest : List ℕ) → begins is_word rest ≡ false → Stands Wild (95 ∷ []) rest
wild_stands rest e = record { solid = refl; longest = wild_longest (95 ∷ rest) refl e }
