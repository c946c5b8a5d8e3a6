-- Terminals that are read can be written.
use Rattle.std.proofs.Common.{◌≡◌, ◌≢◌, ℕ, ◌-◌, ◌≤◌, ◌^◌, Bool, true, false, cond, ◌==◌, List, [], ◌∷◌, ◌++◌, length, refl, ap, ◌∙◌, arith, Option, Some, None, length-append}
use Rattle.std.specs.Prelude.{slice_range}
use Rattle.std.specs.List.{list_all}
use Rattle.std.specs.Option.{is_none}
use Rattle.std.proofs.lemmas.Bool.{and_parts, and_from}
use Rattle.std.proofs.lemmas.Bool.Decides.{nat_tests}
use Rattle.std.proofs.lemmas.List.{take_at}
use Rattle.rule_lexer.specs.declared.tokens.TokenKind.{TokenKind}
use Rattle.rule_lexer.specs.declared.tokens.TokenKind.TheVariants as kinds
use Rattle.rule_lexer.specs.declared.tokens.Word.{Word}
use Rattle.rule_lexer.specs.declared.tokens.Word.TheVariants as words
use Rattle.rule_lexer.specs.declared.tokens.Mark.{Mark}
use Rattle.rule_lexer.specs.declared.tokens.Mark.TheVariants as marks
use Rattle.rule_lexer.specs.Spelling.{word_bytes, IsFreeWord, IsText, is_escape, is_character, are_characters, Spells}
use Rattle.rule_lexer.specs.Reading.{word_of}
use Rattle.rule_lexer.proofs.WordLaws.{word_is}
use Rattle.rule_lexer.specs.declared.terminals.Terminal.{Terminal}
use Rattle.rule_lexer.specs.declared.terminals.Terminal.TheVariants as made
use Rattle.rule_lexer.specs.Lexing.{escaped_byte, unescaped, text_content, word_terminal, mark_terminal, terminal_of, TerminalAt, Lexing}
use Rattle.rule_lexer.specs.Writing.{is_free_word, is_text_byte, is_proper}

no_word : (bs : List ℕ) → ((w : Word) → bs ≢ word_bytes w) → is_none (word_of bs) ≡ true
no_word bs free = at (word_of bs) refl
  where
    at : (o : Option Word) → word_of bs ≡ o → is_none o ≡ true
    at None e = refl
    at (Some w) e = absurd (free w (word_is bs w e))

free_word : (first : ℕ → Bool) (bs : List ℕ) → IsFreeWord first bs → is_free_word first bs ≡ true
free_word first bs h = and_from _ _ h.first_byte (and_from _ _ h.all_bytes (no_word bs h.free))

escaped_text : (b : ℕ) → is_escape b ≡ true → is_text_byte (escaped_byte b) ≡ true
escaped_text b e = grind (arith, nat_tests)

plain_text : (b : ℕ) → is_character false b ≡ true → is_text_byte b ≡ true
plain_text b e = grind (arith, nat_tests)

abbrev Content : Bool → List ℕ → Type 0
Content escaped bs = are_characters escaped bs ≡ true → list_all is_text_byte (unescaped escaped bs) ≡ true

content_step : (b : ℕ) (bs : List ℕ) → ((s : Bool) → Content s bs) → is_character false b ≡ true → (s : Bool) → are_characters s bs ≡ true
    → list_all is_text_byte (cond s (unescaped true bs) (b ∷ unescaped false bs)) ≡ true
content_step b bs go c true h = go true h
content_step b bs go c false h = and_from _ _ (plain_text b c) (go false h)

-- what characters say has no control byte but tab and line feed
content_text : (bs : List ℕ) (escaped : Bool) → Content escaped bs
content_text [] escaped h = refl
content_text (b ∷ bs) true h = let both = and_parts (is_escape b) (are_characters false bs) h in and_from _ _ (escaped_text b both.0) (content_text bs false both.1)
content_text (b ∷ bs) false h = let both = and_parts (is_character false b) (are_characters (b == 92) bs) h in content_step b bs (content_text bs) both.0 (b == 92) both.1

-- the content of a text is that of its characters
pub inside_content : (bs : List ℕ) (h : IsText bs) → text_content bs ≡ unescaped false h.inside
inside_content bs h = ap text_content h.whole ∙ ap (unescaped false) inner
  where
    inner : slice_range (34 ∷ h.inside ++ 34 ∷ []) 1 (length (34 ∷ h.inside ++ 34 ∷ []) - 1) ≡ h.inside
    inner = take_at h.inside (34 ∷ []) _ (omega (arith, length-append h.inside (34 ∷ [])))

text_proper : (bs : List ℕ) → IsText bs → list_all is_text_byte (text_content bs) ≡ true
text_proper bs h = ap (list_all is_text_byte) (inside_content bs h) ∙ content_text h.inside false h.characters

number_proper : (n : ℕ) → n ≤ 2 ^ 63 → is_proper (cond (n == 2 ^ 63) made.Huge (made.Number n)) ≡ true
number_proper n l = at (n == 2 ^ 63) refl
  where
    at : (t : Bool) → (n == 2 ^ 63) ≡ t → is_proper (cond t made.Huge (made.Number n)) ≡ true
    at true e = refl
    at false e = grind (arith, nat_tests)

word_proper : (w : Word) → is_proper (word_terminal w) ≡ true
word_proper words.Seq = refl
word_proper w = refl

mark_proper : (m : Mark) → is_proper (mark_terminal m) ≡ true
mark_proper marks.OpenRound = refl
mark_proper m = refl

-- what the bytes of a token stand for can be written
spelled_proper : (k : TokenKind) (bs : List ℕ) → Spells k bs → is_proper (terminal_of k bs) ≡ true
spelled_proper kinds.Name bs h = free_word _ bs h
spelled_proper kinds.Var bs h = free_word _ bs h
spelled_proper (kinds.Word w) bs h = word_proper w
spelled_proper kinds.Wild bs h = refl
spelled_proper (kinds.Number n) bs h = number_proper n h.in_range
spelled_proper kinds.Text bs h = text_proper bs h
spelled_proper (kinds.Mark m) bs h = mark_proper m

terminal_proper : (text : List ℕ) (t : Terminal) (from to : ℕ) → TerminalAt text t from to → is_proper t ≡ true
terminal_proper text t from to h = ap is_proper h.says ∙ spelled_proper h.kind (slice_range text from to) h.longest.stands.token.spells

pub lexed_proper : (text : List ℕ) (at : ℕ) (ts : List Terminal) (places : List ℕ) (end : ℕ) (whole : Bool) → Lexing text at ts places end whole → list_all is_proper ts ≡ true
lexed_proper text at [] ps end whole h = refl
lexed_proper text at (t ∷ ts) [] end whole h = absurd h
lexed_proper text at (t ∷ ts) (p ∷ ps) end whole h = and_from _ _ (terminal_proper text t p h.0 h.1.1) (lexed_proper text h.0 ts ps end whole h.1.2)
