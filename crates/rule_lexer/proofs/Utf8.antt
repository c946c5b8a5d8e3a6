-- What a UTF-8 text says is written as UTF-8.
use Rattle.std.proofs.Common.{◌≡◌, ℕ, ◌+◌, ◌<◌, ◌-◌, ◌^◌, Bool, true, false, cond, ◌==◌, nat_lt, List, [], ◌∷◌, ◌++◌, map, length, get_or, refl, sym, ap, append-nil, ◌∙◌, subst, arith, append_assoc, length-append}
use Rattle.rule_lexer.proofs.Escapes.{escape_below}
use Rattle.std.proofs.Math.Seq.{get_or-append_seam, take-append_seam, drop-append-add}
use Rattle.std.specs.Prelude.{slice_range, IsUtf8, IsAscii}
use Rattle.std.specs.Str.{is_utf8}
use Rattle.std.specs.Char.{is_ascii_digit, is_ascii_lowercase, is_ascii_uppercase}
use Rattle.std.specs.Fmt.{decimal}
use Rattle.std.specs.List.{list_all, flat_map}
use Rattle.std.proofs.lemmas.Bool.{and_parts, and_from, ltb-true, eqb-true}
use Rattle.std.proofs.lemmas.Bool.Decides.{nat_tests}
use Rattle.std.proofs.lemmas.Str.{IsUtf8-append, IsUtf8-nil, IsUtf8-take, IsUtf8-drop, IsUtf8-between, IsUtf8-from_ascii, IsUtf8-from_is_utf8, is_utf8-from_IsUtf8, IsCharBoundary-before_ascii, IsCharBoundary-after_ascii}
use Rattle.std.proofs.lemmas.Str.Ascii.{IsAscii-nil, IsAscii-cons}
use Rattle.event_model.specs.Text.{escape, quoted}
use Rattle.rule_lexer.specs.declared.tokens.TokenKind.{TokenKind}
use Rattle.rule_lexer.specs.declared.tokens.TokenKind.TheVariants as kinds
use Rattle.rule_lexer.specs.declared.tokens.Word.{Word}
use Rattle.rule_lexer.specs.declared.tokens.Word.TheVariants as words
use Rattle.rule_lexer.specs.declared.tokens.Mark.{Mark}
use Rattle.rule_lexer.specs.declared.tokens.Mark.TheVariants as marks
use Rattle.rule_lexer.specs.Sorts.{is_word, is_blank, begins}
use Rattle.rule_lexer.specs.Spelling.{word_bytes, mark_bytes, is_escape, is_character, are_characters}
use Rattle.rule_lexer.specs.Places.{TokenAt}
use Rattle.rule_lexer.specs.declared.terminals.Terminal.{Terminal}
use Rattle.rule_lexer.specs.declared.terminals.Terminal.TheVariants as made
use Rattle.rule_lexer.specs.Lexing.{escaped_byte, unescaped, word_terminal, mark_terminal, terminal_of, Lexing}
use Rattle.rule_lexer.specs.Writing.{op_word, cmp_mark, spelling, is_proper, may_precede, Piece, written, Parted}
use Rattle.rule_lexer.proofs.TextPlaces.{TextAt, token_text}
use Rattle.rule_lexer.proofs.WrittenNumbers.{decimal_digits}

-- ---- ASCII bytes

abbrev is_ascii : ℕ → Bool
is_ascii b = nat_lt b 128

all_ascii : (bs : List ℕ) → list_all is_ascii bs ≡ true → IsAscii bs
all_ascii [] h = IsAscii-nil
all_ascii (b ∷ bs) h = let both = and_parts (is_ascii b) (list_all is_ascii bs) h in IsAscii-cons b bs (ltb-true b 128 both.0) (all_ascii bs both.1)

ascii : (bs : List ℕ) → list_all is_ascii bs ≡ true → IsUtf8 bs
ascii bs h = IsUtf8-from_ascii bs (all_ascii bs h)

weaker : (p q : ℕ → Bool) → ((b : ℕ) → p b ≡ true → q b ≡ true) → (bs : List ℕ) → list_all p bs ≡ true → list_all q bs ≡ true
weaker p q f [] h = refl
weaker p q f (b ∷ bs) h = let both = and_parts (p b) (list_all p bs) h in and_from _ _ (f b both.0) (weaker p q f bs both.1)

word_ascii : (b : ℕ) → is_word b ≡ true → is_ascii b ≡ true
word_ascii b h = grind (arith, nat_tests)

blank_ascii : (b : ℕ) → is_blank b ≡ true → is_ascii b ≡ true
blank_ascii b h = grind (arith, nat_tests)

digit_ascii : (b : ℕ) → is_ascii_digit b ≡ true → is_ascii b ≡ true
digit_ascii b h = grind (arith, nat_tests)

words_ascii : (w : Word) → list_all is_ascii (word_bytes w) ≡ true
words_ascii words.Seq = refl
words_ascii w = refl

marks_ascii : (m : Mark) → list_all is_ascii (mark_bytes m) ≡ true
marks_ascii marks.OpenRound = refl
marks_ascii m = refl

-- ---- escapes

-- a text may be cut at an ASCII byte, and other text put in its place
replaced : (front bs new : List ℕ) (b : ℕ) → b < 128 → IsUtf8 (front ++ b ∷ bs) → IsUtf8 new → IsUtf8 ((front ++ new) ++ bs)
replaced front bs new b l u n =
    let byte : get_or (front ++ b ∷ bs) (length front) 0 < 128 = rw (get_or-append_seam front b bs 0) l in
    let inside : length front < length (front ++ b ∷ bs) = omega (arith, length-append front (b ∷ bs)) in
    let before : IsUtf8 front = subst IsUtf8 (take-append_seam front (b ∷ bs)) (IsUtf8-take (front ++ b ∷ bs) (length front) u (IsCharBoundary-before_ascii (front ++ b ∷ bs) (length front) inside byte)) in
    let behind : IsUtf8 bs = subst IsUtf8 (drop-append-add front (b ∷ bs) 1) (IsUtf8-drop (front ++ b ∷ bs) (length front + 1) u (IsCharBoundary-after_ascii (front ++ b ∷ bs) (length front) u inside byte)) in
    IsUtf8-append (front ++ new) bs (IsUtf8-append front new before n) behind

same_byte : (front bs : List ℕ) (b : ℕ) → IsUtf8 (front ++ b ∷ bs) → IsUtf8 ((front ++ b ∷ []) ++ bs)
same_byte front bs b u = subst IsUtf8 (sym (append_assoc front (b ∷ []) bs)) u

byte_is : (b n : ℕ) → n < 128 → (b == n) ≡ true → b < 128
byte_is b n l e = let f : b ≡ n = eqb-true b n e in omega arith

escape_step : (front bs : List ℕ) (b : ℕ) → IsUtf8 (front ++ b ∷ bs) → IsUtf8 ((front ++ escape b) ++ bs)
escape_step front bs b u = at (b == 34) (b == 92) (b == 10) (b == 9) refl refl refl refl
  where
    at : (q s f h : Bool) → (b == 34) ≡ q → (b == 92) ≡ s → (b == 10) ≡ f → (b == 9) ≡ h
        → IsUtf8 ((front ++ cond q (92 ∷ 34 ∷ []) (cond s (92 ∷ 92 ∷ []) (cond f (92 ∷ 110 ∷ []) (cond h (92 ∷ 116 ∷ []) (b ∷ []))))) ++ bs)
    at true s f h eq es ef eh = replaced front bs _ b (byte_is b 34 (omega arith) eq) u (ascii (92 ∷ 34 ∷ []) refl)
    at false true f h eq es ef eh = replaced front bs _ b (byte_is b 92 (omega arith) es) u (ascii (92 ∷ 92 ∷ []) refl)
    at false false true h eq es ef eh = replaced front bs _ b (byte_is b 10 (omega arith) ef) u (ascii (92 ∷ 110 ∷ []) refl)
    at false false false true eq es ef eh = replaced front bs _ b (byte_is b 9 (omega arith) eh) u (ascii (92 ∷ 116 ∷ []) refl)
    at false false false false eq es ef eh = same_byte front bs b u

escapes : (front bs : List ℕ) → IsUtf8 (front ++ bs) → IsUtf8 (front ++ flat_map escape bs)
escapes front [] u = u
escapes front (b ∷ bs) u = subst IsUtf8 (append_assoc front (escape b) (flat_map escape bs)) (escapes (front ++ escape b) bs (escape_step front bs b u))

quoted_utf8 : (text : List ℕ) → IsUtf8 text → IsUtf8 (quoted text)
quoted_utf8 text u = IsUtf8-append (34 ∷ []) (flat_map escape text ++ 34 ∷ []) (ascii (34 ∷ []) refl) (IsUtf8-append (flat_map escape text) (34 ∷ []) (escapes [] text u) (ascii (34 ∷ []) refl))

escaped_ascii : (b : ℕ) → is_escape b ≡ true → is_ascii (escaped_byte b) ≡ true
escaped_ascii b h = grind (arith, nat_tests)

abbrev Reads : Bool → List ℕ → Type 0
Reads escaped bs = (front : List ℕ) → IsUtf8 (front ++ bs) → are_characters escaped bs ≡ true → IsUtf8 (front ++ unescaped escaped bs)

unescape_step : (b : ℕ) (bs : List ℕ) → ((s : Bool) → Reads s bs) → (front : List ℕ) → IsUtf8 (front ++ b ∷ bs) → (s : Bool) → (b == 92) ≡ s → are_characters s bs ≡ true
    → IsUtf8 (front ++ cond s (unescaped true bs) (b ∷ unescaped false bs))
unescape_step b bs go front u true e h = go true front (subst (λ xs. IsUtf8 (xs ++ bs)) (append-nil front) (replaced front bs [] b (byte_is b 92 (omega arith) e) u IsUtf8-nil)) h
unescape_step b bs go front u false e h = subst IsUtf8 (append_assoc front (b ∷ []) (unescaped false bs)) (go false (front ++ b ∷ []) (same_byte front bs b u) h)

unescaped_reads : (bs : List ℕ) (escaped : Bool) → Reads escaped bs
unescaped_reads [] escaped front u h = u
unescaped_reads (b ∷ bs) true front u h =
    let both = and_parts (is_escape b) (are_characters false bs) h in
    subst IsUtf8 (append_assoc front (escaped_byte b ∷ []) (unescaped false bs))
    (unescaped_reads bs false (front ++ escaped_byte b ∷ []) (replaced front bs (escaped_byte b ∷ []) b (escape_below b both.0) u (ascii (escaped_byte b ∷ []) (and_from _ _ (escaped_ascii b both.0) refl))) both.1)
unescaped_reads (b ∷ bs) false front u h =
    let both = and_parts (is_character false b) (are_characters (b == 92) bs) h in
    unescape_step b bs (unescaped_reads bs) front u (b == 92) refl both.1

-- ---- tokens

-- the content of a text is UTF-8
abbrev pub holds_utf8 : Terminal → Bool
holds_utf8 (made.Text text) = is_utf8 text
holds_utf8 t = true

word_holds : (w : Word) → holds_utf8 (word_terminal w) ≡ true
word_holds words.Seq = refl
word_holds w = refl

mark_holds : (m : Mark) → holds_utf8 (mark_terminal m) ≡ true
mark_holds marks.OpenRound = refl
mark_holds m = refl

number_holds : (t : Bool) (n : ℕ) → holds_utf8 (cond t made.Huge (made.Number n)) ≡ true
number_holds true n = refl
number_holds false n = refl

text_holds : (text : List ℕ) (from to : ℕ) → IsUtf8 text → TokenAt text kinds.Text from to → holds_utf8 (terminal_of kinds.Text (slice_range text from to)) ≡ true
text_holds text from to u s =
    let t : TextAt text from to = token_text text kinds.Text from to u refl s in
    let between = IsUtf8-between text (from + 1) (to - 1) u (omega (arith, t.two)) t.first t.last in
    is_utf8-from_IsUtf8 _ (subst IsUtf8 (sym t.content) (unescaped_reads _ false [] between t.characters))

token_holds : (k : TokenKind) (text : List ℕ) (from to : ℕ) → IsUtf8 text → TokenAt text k from to → holds_utf8 (terminal_of k (slice_range text from to)) ≡ true
token_holds kinds.Text text from to u s = text_holds text from to u s
token_holds (kinds.Word w) text from to u s = word_holds w
token_holds (kinds.Mark m) text from to u s = mark_holds m
token_holds (kinds.Number n) text from to u s = number_holds (n == 2 ^ 63) n
token_holds k text from to u s = refl

-- the tokens of a UTF-8 text
pub lexed_utf8 : (text : List ℕ) (at : ℕ) (ts : List Terminal) (places : List ℕ) (end : ℕ) (whole : Bool) → IsUtf8 text → Lexing text at ts places end whole → list_all holds_utf8 ts ≡ true
lexed_utf8 text at [] ps end whole u h = refl
lexed_utf8 text at (t ∷ ts) [] end whole u h = absurd h
lexed_utf8 text at (t ∷ ts) (p ∷ ps) end whole u h =
    let l = h.1.1 in
    and_from _ _ (ap holds_utf8 l.says ∙ token_holds l.kind text p h.0 u l.longest.stands) (lexed_utf8 text h.0 ts ps end whole u h.1.2)

spelled_utf8 : (t : Terminal) → is_proper t ≡ true → holds_utf8 t ≡ true → IsUtf8 (spelling t)
spelled_utf8 (made.Name word) p u = ascii word (weaker is_word is_ascii word_ascii word (and_parts (list_all is_word word) _ (and_parts (begins is_ascii_lowercase word) _ p).1).0)
spelled_utf8 (made.Var word) p u = ascii word (weaker is_word is_ascii word_ascii word (and_parts (list_all is_word word) _ (and_parts (begins is_ascii_uppercase word) _ p).1).0)
spelled_utf8 (made.Text text) p u = quoted_utf8 text (IsUtf8-from_is_utf8 text u)
spelled_utf8 (made.Number n) p u = ascii _ (weaker is_ascii_digit is_ascii digit_ascii (decimal n) (decimal_digits n (ltb-true n (2 ^ 63) p)))
spelled_utf8 (made.Op o) p u = ascii _ (words_ascii (op_word o))
spelled_utf8 (made.Compare c) p u = ascii _ (marks_ascii (cmp_mark c))
spelled_utf8 t p u = ascii _ refl

-- the text of pieces
pub written_utf8 : (ps : List Piece) → Parted ps ≡ true → list_all holds_utf8 (map (λ p. p.terminal) ps) ≡ true → IsUtf8 (written ps)
written_utf8 [] q h = IsUtf8-nil
written_utf8 (p ∷ ps) q h =
    let before = and_parts (list_all is_blank p.before) _ q in
    let proper = and_parts (is_proper p.terminal) _ before.1 in
    let follows = and_parts (may_precede p.terminal (p.after ++ written ps)) _ proper.1 in
    let after = and_parts (list_all is_blank p.after) (Parted ps) follows.1 in
    let holds = and_parts (holds_utf8 p.terminal) _ h in
    let blanks = λ (bs : List ℕ) (b : list_all is_blank bs ≡ true). ascii bs (weaker is_blank is_ascii blank_ascii bs b) in
    IsUtf8-append p.before _ (blanks p.before before.0)
    (IsUtf8-append (spelling p.terminal) _ (spelled_utf8 p.terminal proper.0 holds.0)
    (IsUtf8-append p.after (written ps) (blanks p.after after.0) (written_utf8 ps after.1 holds.1)))
