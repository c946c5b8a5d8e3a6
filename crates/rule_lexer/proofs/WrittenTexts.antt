-- Texts that are written are read, and say what they said.
use Rattle.std.proofs.Common.{◌≡◌, ℕ, ◌+◌, ◌-◌, Bool, true, false, cond, ◌==◌, List, [], ◌∷◌, ◌++◌, length, refl, sym, ap, ◌∙◌, subst, arith, Ok, length-append, append_assoc}
use Rattle.std.specs.List.{list_all, flat_map}
use Rattle.std.specs.Prelude.{slice_range}
use Rattle.std.proofs.lemmas.Bool.{and_parts, and_from, eqb-true}
use Rattle.std.proofs.lemmas.Bool.Decides.{nat_tests}
use Rattle.std.proofs.lemmas.List.{take_at}
use Rattle.event_model.specs.Text.{escape, quoted}
use Rattle.rule_lexer.specs.declared.tokens.TokenKind.TheVariants.{Text}
use Rattle.rule_lexer.specs.Spelling.{are_characters, is_character}
use Rattle.rule_lexer.specs.Reading.{LongestOf, text_end}
use Rattle.rule_lexer.proofs.TextLaws.{text_end-quote, text_longest}
use Rattle.rule_lexer.specs.Lexing.{unescaped, text_content}
use Rattle.rule_lexer.specs.Writing.{is_text_byte}
use Rattle.rule_lexer.proofs.Stands.{Stands}

-- a byte is written as an escape, or is a character that begins none
plain_byte : (b : ℕ) → is_text_byte b ≡ true → (b == 34) ≡ false → (b == 92) ≡ false → (b == 10) ≡ false → (b == 9) ≡ false → is_character false b ≡ true
plain_byte b t q s f h = grind (arith, nat_tests)

escape_characters : (b : ℕ) (rest : List ℕ) → is_text_byte b ≡ true → are_characters false rest ≡ true → are_characters false (escape b ++ rest) ≡ true
escape_characters b rest t r = at (b == 34) (b == 92) (b == 10) (b == 9) refl refl refl refl
  where
    at : (q s f h : Bool) → (b == 34) ≡ q → (b == 92) ≡ s → (b == 10) ≡ f → (b == 9) ≡ h
        → are_characters false (cond q (92 ∷ 34 ∷ []) (cond s (92 ∷ 92 ∷ []) (cond f (92 ∷ 110 ∷ []) (cond h (92 ∷ 116 ∷ []) (b ∷ [])))) ++ rest) ≡ true
    at true s f h eq es ef eh = r
    at false true f h eq es ef eh = r
    at false false true h eq es ef eh = r
    at false false false true eq es ef eh = r
    at false false false false eq es ef eh = and_from _ _ (plain_byte b t eq es ef eh) (rw es r)

text_characters : (text : List ℕ) → list_all is_text_byte text ≡ true → are_characters false (flat_map escape text) ≡ true
text_characters [] h = refl
text_characters (b ∷ text) h = let both = and_parts (is_text_byte b) (list_all is_text_byte text) h in escape_characters b (flat_map escape text) both.0 (text_characters text both.1)

escape_says : (b : ℕ) (rest : List ℕ) → unescaped false (escape b ++ rest) ≡ b ∷ unescaped false rest
escape_says b rest = at (b == 34) (b == 92) (b == 10) (b == 9) refl refl refl refl
  where
    at : (q s f h : Bool) → (b == 34) ≡ q → (b == 92) ≡ s → (b == 10) ≡ f → (b == 9) ≡ h
        → unescaped false (cond q (92 ∷ 34 ∷ []) (cond s (92 ∷ 92 ∷ []) (cond f (92 ∷ 110 ∷ []) (cond h (92 ∷ 116 ∷ []) (b ∷ [])))) ++ rest) ≡ b ∷ unescaped false rest
    at true s f h eq es ef eh = ap (λ x. x ∷ unescaped false rest) (sym (eqb-true b 34 eq))
    at false true f h eq es ef eh = ap (λ x. x ∷ unescaped false rest) (sym (eqb-true b 92 es))
    at false false true h eq es ef eh = ap (λ x. x ∷ unescaped false rest) (sym (eqb-true b 10 ef))
    at false false false true eq es ef eh = ap (λ x. x ∷ unescaped false rest) (sym (eqb-true b 9 eh))
    at false false false false eq es ef eh = rw es refl

text_says : (text : List ℕ) → unescaped false (flat_map escape text) ≡ text
text_says [] = refl
text_says (b ∷ text) = escape_says b (flat_map escape text) ∙ ap (λ x. b ∷ x) (text_says text)

pub quoted_content : (text : List ℕ) → text_content (quoted text) ≡ text
quoted_content text = ap (unescaped false) inner ∙ text_says text
  where
    inner : slice_range (quoted text) 1 (length (quoted text) - 1) ≡ flat_map escape text
    inner = take_at (flat_map escape text) (34 ∷ []) _ (omega (arith, length-append (flat_map escape text) (34 ∷ [])))

pub text_stands : (text rest : List ℕ) → list_all is_text_byte text ≡ true → Stands Text (quoted text) rest
text_stands text rest h = record {
  solid = refl;
  longest = subst (LongestOf (quoted text ++ rest) Text) size (text_longest (quoted text ++ rest) (length (flat_map escape text)) refl end);
}
  where
    size : length (flat_map escape text) + 2 ≡ length (quoted text)
    size = omega (arith, length-append (flat_map escape text) (34 ∷ []))

    end : text_end false 0 ((flat_map escape text ++ 34 ∷ []) ++ rest) ≡ Ok (length (flat_map escape text))
    end = ap (text_end false 0) (append_assoc (flat_map escape text) (34 ∷ []) rest) ∙ text_end-quote false 0 (flat_map escape text) rest (text_characters text h) ∙ ap Ok (omega arith)
