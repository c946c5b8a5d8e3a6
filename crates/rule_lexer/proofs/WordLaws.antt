-- Names, variables and reserved words.
use Rattle.std.proofs.Common.{◌≡◌, ◌≢◌, ℕ, ◌≤◌, true, cond, List, [], ◌∷◌, length, take, drop, refl, sym, ap, ◌∙◌, subst, arith, Option, Some, None, IfSome}
use Rattle.std.specs.Prelude.{bytes_eq}
use Rattle.std.specs.Char.{is_ascii_lowercase, is_ascii_uppercase}
use Rattle.std.specs.List.{list_all, prefix_len}
use Rattle.std.proofs.lemmas.Bool.{cond_both}
use Rattle.std.proofs.lemmas.List.Sums.{prefix_len-le-length}
use Rattle.std.proofs.lemmas.Slice.Eq.{bytes_eq-Decides, text_from_reads, HasBytesAt}
use Rattle.rule_lexer.specs.declared.tokens.TokenKind.{TokenKind}
use Rattle.rule_lexer.specs.declared.tokens.TokenKind.TheVariants.{Name, Var, Word as Reserved}
use Rattle.rule_lexer.specs.declared.tokens.Word.{Word}
use Rattle.rule_lexer.specs.declared.tokens.Word.TheVariants.{Seq, And, Par, Or, Equals, Meets, During, Starts, Finishes, Not, Where, Within, Show}
use Rattle.rule_lexer.specs.Sorts.{is_word, is_letter, begins}
use Rattle.rule_lexer.specs.Spelling.{IsToken, word_bytes}
use Rattle.rule_lexer.specs.Reading.{word_of, LongestOf}
use Rattle.rule_lexer.proofs.Runs.{run_longest, run_some, begins-take}
use Rattle.rule_lexer.proofs.Classes.{IsLetter, class_stands, letter_class, as_word}

-- each reserved word is found
pub word_of-word_bytes : (w : Word) → word_of (word_bytes w) ≡ Some w
word_of-word_bytes Seq = refl
word_of-word_bytes And = refl
word_of-word_bytes Par = refl
word_of-word_bytes Or = refl
word_of-word_bytes Equals = refl
word_of-word_bytes Meets = refl
word_of-word_bytes During = refl
word_of-word_bytes Starts = refl
word_of-word_bytes Finishes = refl
word_of-word_bytes Not = refl
word_of-word_bytes Where = refl
word_of-word_bytes Within = refl
word_of-word_bytes Show = refl

abbrev Sound : List ℕ → Option Word → Type 0
Sound bs o = IfSome o (λ w. bs ≡ word_bytes w)

word_step : (bs : List ℕ) (w : Word) (o : Option Word) → Sound bs o → Sound bs (cond (bytes_eq bs (word_bytes w)) (Some w) o)
word_step bs w o h = cond_both (bytes_eq bs (word_bytes w)) (Some w) o (Sound bs) (λ e. (bytes_eq-Decides bs (word_bytes w)).0 e) (λ e. h)

-- and nothing else
word_sound : (bs : List ℕ) → Sound bs (word_of bs)
word_sound bs = word_step bs Seq _ (word_step bs And _ (word_step bs Par _ (word_step bs Or _ (word_step bs Equals _ (word_step bs Meets _ (word_step bs During _
    (word_step bs Starts _ (word_step bs Finishes _ (word_step bs Not _ (word_step bs Where _ (word_step bs Within _ (word_step bs Show None tt))))))))))))

pub word_is : (bs : List ℕ) (w : Word) → word_of bs ≡ Some w → bs ≡ word_bytes w
word_is bs w e = subst (Sound bs) e (word_sound bs)

pub word_free : (bs : List ℕ) → word_of bs ≡ None → (w : Word) → bs ≢ word_bytes w
word_free bs e w h = let f : word_of bs ≡ Some w = ap word_of h ∙ word_of-word_bytes w in let z : ⊥ = cc in z

pub name_token : (bs rest : List ℕ) → begins is_ascii_lowercase bs ≡ true → list_all is_word bs ≡ true → word_of bs ≡ None → IsToken Name bs rest
name_token bs rest l a e = record { spells = record { first_byte = l; all_bytes = a; free = word_free bs e }; follows = refl }

pub var_token : (bs rest : List ℕ) → begins is_ascii_uppercase bs ≡ true → list_all is_word bs ≡ true → word_of bs ≡ None → IsToken Var bs rest
var_token bs rest l a e = record { spells = record { first_byte = l; all_bytes = a; free = word_free bs e }; follows = refl }

pub reserved_token : (bs rest : List ℕ) (w : Word) → word_of bs ≡ Some w → IsToken (Reserved w) bs rest
reserved_token bs rest w e = record { spells = word_is bs w e; follows = refl }

-- the whole word that bytes begin with is the longest token
pub word_longest : (bs : List ℕ) (k : TokenKind) (n : ℕ) → begins is_letter bs ≡ true → n ≡ prefix_len is_word bs → ((rest : List ℕ) → IsToken k (take n bs) rest) → LongestOf bs k n
word_longest bs k n l e t = record {
  stands = record { within = rw e (prefix_len-le-length is_word bs); token = t (drop n bs) };
  longest = λ j m more s.
      let letter : IsLetter (_) = subst IsLetter (sym (class_stands bs j m s)) (letter_class bs l) in
      let least : m ≤ prefix_len is_word bs = run_longest is_word bs m s.within (as_word j (take m bs) letter s.token.spells) in
      omega arith;
}

pub word_letters : (bs : List ℕ) (n : ℕ) → begins is_letter bs ≡ true → n ≡ prefix_len is_word bs → begins is_letter (take n bs) ≡ true
word_letters bs n l e = begins-take is_letter bs n (rw e (run_some is_word bs (letter_word bs l))) ∙ l
  where
    letter_word : (bs : List ℕ) → begins is_letter bs ≡ true → begins is_word bs ≡ true
    letter_word [] e = e
    letter_word (b ∷ bs) e = grind arith

-- bytes that are read one by one as a reserved word's
pub word_read : (bs : List ℕ) (w : Word) → length bs ≡ length (word_bytes w) → HasBytesAt bs 0 (word_bytes w) → Some w ≡ word_of bs
word_read bs w l h = sym (ap word_of (text_from_reads bs (word_bytes w) l h) ∙ word_of-word_bytes w)
