-- A text that is written from pieces has their terminals.
use Rattle.std.proofs.Common.{◌≡◌, ℕ, ◌+◌, ◌-◌, ◌≤◌, ◌==◌, Bool, true, false, List, [], ◌∷◌, ◌++◌, map, length, take, drop, refl, sym, ap, ◌∙◌, subst, arith, length-append, length-drop, append_assoc}
use Rattle.std.proofs.lemmas.List.Folds.{list_all-append}
use Rattle.std.specs.Prelude.{slice_range}
use Rattle.std.specs.List.{list_all}
use Rattle.std.proofs.lemmas.Bool.{and_parts, and_from}
use Rattle.std.proofs.lemmas.Bool.Decides.{nat_tests}
use Rattle.std.proofs.lemmas.List.{drop-drop, drop_at, take_at}
use Rattle.rule_lexer.specs.Sorts.{is_blank, begins}
use Rattle.rule_lexer.specs.Places.{is_skipped, skipped, first_place}
use Rattle.rule_lexer.specs.Reading.{LongestOf}
use Rattle.rule_lexer.proofs.PlaceLaws.{longest_at}
use Rattle.rule_lexer.specs.declared.terminals.Terminal.{Terminal}
use Rattle.rule_lexer.specs.Lexing.{terminal_of, TerminalAt, Lexing}
use Rattle.rule_lexer.specs.Writing.{kind_of, spelling, is_proper, may_precede, Piece, written, Parted}
use Rattle.rule_lexer.proofs.Stands.{Stands}
use Rattle.rule_lexer.proofs.WrittenTokens.{terminal_stands, terminal_says}

all_append : (p : ℕ → Bool) (xs ys : List ℕ) → list_all p xs ≡ true → list_all p ys ≡ true → list_all p (xs ++ ys) ≡ true
all_append p xs ys a b = list_all-append p xs ys ∙ and_from _ _ a b

skipped_solid : (bs : List ℕ) → begins (is_skipped false) bs ≡ false → skipped false bs ≡ 0
skipped_solid [] e = refl
skipped_solid (b ∷ bs) e = rw e refl

blank_no_comment : (b : ℕ) → is_blank b ≡ true → (b == 35) ≡ false
blank_no_comment b e = grind (arith, nat_tests)

-- blanks are skipped, one by one
skipped_blanks : (blanks rest : List ℕ) → list_all is_blank blanks ≡ true → skipped false (blanks ++ rest) ≡ length blanks + skipped false rest
skipped_blanks [] rest h = omega arith
skipped_blanks (b ∷ blanks) rest h =
    let both = and_parts (is_blank b) (list_all is_blank blanks) h in
    let more : skipped false (blanks ++ rest) ≡ length blanks + skipped false rest = skipped_blanks blanks rest both.1 in
    rw (both.0, blank_no_comment b both.0) (omega arith)

-- where blanks stand and then bytes that begin neither blanks nor a comment, the next token's place is behind the blanks
solid_place : (text : List ℕ) (at : ℕ) (blanks rest : List ℕ) → drop at text ≡ blanks ++ rest → list_all is_blank blanks ≡ true → begins (is_skipped false) rest ≡ false → first_place text at ≡ at + length blanks
solid_place text at blanks rest e h s = ap (λ xs. at + skipped false xs) e ∙ ap (λ n. at + n) (skipped_blanks blanks rest h ∙ (ap (λ n. length blanks + n) (skipped_solid rest s) ∙ omega arith))

-- the next terminal of a text, and what stands behind it
record NextTerminal (text : List ℕ) (at : ℕ) (t : Terminal) (rest : List ℕ) : Type 0 where
  from : ℕ
  to : ℕ
  place : from ≡ first_place text at
  terminal : TerminalAt text t from to
  within : to ≤ length text
  behind : drop to text ≡ rest

next_terminal : (text : List ℕ) (at start : ℕ) (blanks rest : List ℕ) (t : Terminal) → start ≡ at + length blanks → at ≤ length text → drop at text ≡ blanks ++ (spelling t ++ rest) → list_all is_blank blanks ≡ true → is_proper t ≡ true → may_precede t rest ≡ true → NextTerminal text at t rest
next_terminal text at start blanks rest t b w e h p m = record {
  from = start;
  to = start + length (spelling t);
  place = b ∙ sym (solid_place text at blanks (spelling t ++ rest) e h s.solid);
  terminal = record {
    kind = kind_of t;
    longest = longest_at text (kind_of t) start (length (spelling t)) (omega (arith, sizes)) (subst (λ xs. LongestOf xs (kind_of t) (length (spelling t))) (sym here) s.longest);
    says = sym (ap (terminal_of (kind_of t)) slice ∙ terminal_says t p);
  };
  within = omega (arith, sizes);
  behind = sym (drop-drop (length (spelling t)) start text) ∙ (ap (drop (length (spelling t))) here ∙ drop_at (spelling t) rest (length (spelling t)) refl);
}
  where
    s : Stands (kind_of t) (spelling t) rest
    s = terminal_stands t rest p m

    sizes : at + length blanks + length (spelling t) + length rest ≡ length text
    sizes = omega (arith, ap length e, length-drop at text, length-append blanks (spelling t ++ rest), length-append (spelling t) rest)

    here : drop start text ≡ spelling t ++ rest
    here = ap (λ n. drop n text) b ∙ (sym (drop-drop (length blanks) at text) ∙ (ap (drop (length blanks)) e ∙ drop_at blanks (spelling t ++ rest) (length blanks) refl))

    slice : slice_range text start (start + length (spelling t)) ≡ spelling t
    slice = ap (take (start + length (spelling t) - start)) here ∙ take_at (spelling t) rest _ (omega arith)

pub written_lexes : (text : List ℕ) (at : ℕ) (blanks : List ℕ) (ps : List Piece) → at ≤ length text → drop at text ≡ blanks ++ written ps → list_all is_blank blanks ≡ true → Parted ps ≡ true
    → (places : List ℕ) × Lexing text at (map (λ p. p.terminal) ps) places (length text) true
written_lexes text at blanks [] w e h q = ([], (solid_place text at blanks [] e h refl ∙ omega (arith, length-drop at text, ap length e, length-append blanks []), refl))
written_lexes text at blanks (p ∷ ps) w e h q =
    let before = and_parts (list_all is_blank p.before) _ q in
    let proper = and_parts (is_proper p.terminal) _ before.1 in
    let follows = and_parts (may_precede p.terminal (p.after ++ written ps)) _ proper.1 in
    let after = and_parts (list_all is_blank p.after) (Parted ps) follows.1 in
    let split : drop at text ≡ (blanks ++ p.before) ++ (spelling p.terminal ++ (p.after ++ written ps)) = e ∙ sym (append_assoc blanks p.before (spelling p.terminal ++ (p.after ++ written ps))) in
    let next = next_terminal text at (at + length (blanks ++ p.before)) (blanks ++ p.before) (p.after ++ written ps) p.terminal refl w split (all_append is_blank blanks p.before h before.0) proper.0 follows.0 in
    let more = written_lexes text next.to p.after ps next.within next.behind after.0 after.1 in
    (next.from ∷ more.0, (next.to, (next.place, next.terminal, more.1)))

-- a whole text
pub written_is_lexed : (ps : List Piece) → Parted ps ≡ true → (places : List ℕ) × Lexing (written ps) 0 (map (λ p. p.terminal) ps) places (length (written ps)) true
written_is_lexed ps q = written_lexes (written ps) 0 [] ps (omega arith) refl refl q
