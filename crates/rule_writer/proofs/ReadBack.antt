-- The canonical text of what a text holds is read as its canonical tree, and is UTF-8 where the text is.
use Rattle.std.proofs.Common.{◌≡◌, ℕ, Bool, true, List, [], ◌∷◌, map, length, refl, sym, ap, ◌∙◌, subst}
use Rattle.std.specs.Prelude.{IsUtf8}
use Rattle.std.specs.List.{list_all}
use Rattle.rule_lexer.proofs.Utf8.{holds_utf8, lexed_utf8, written_utf8}
use Rattle.rule_ast.specs.Trees.{PlainStatement}
use Rattle.rule_lexer.specs.Lexing.{Lexing}
use Rattle.rule_lexer.specs.Writing.{is_proper, Piece, written, Parted}
use Rattle.rule_grammar.specs.Trees.{Statements}
use Rattle.rule_grammar.specs.Marks.{Marked, Role.Binary, Role.Lists, nothing_counted}
use Rattle.rule_grammar.specs.Tokens.{text, bare}
use Rattle.rule_grammar.specs.Values.{text_value}
use Rattle.rule_grammar.specs.Texts.{IsWithin}
use Rattle.rule_lexer.specs.declared.terminals.Terminal.{Terminal}
use Rattle.rule_lexer.specs.declared.terminals.Terminal.TheVariants.{Arrow, Show, End}
use Rattle.rule_writer.specs.Forms.{text_form}
use Rattle.rule_writer.specs.Canonical.{by_token, piece_of, canonical}
use Rattle.rule_grammar.specs.Files.{Holds}
use Rattle.rule_writer.proofs.Fewer.{AllTokens, IsProper}
use Rattle.rule_writer.proofs.Parting.{text_parted}
use Rattle.rule_writer.proofs.RoundTrips.{says_again, within_again, kept_again}

token_of : (x : Terminal) → (by_token x).terminal ≡ x
token_of Arrow = refl
token_of Show = refl
token_of End = refl
token_of x = refl

terminal_of_piece : (m : Marked) → (piece_of m).terminal ≡ m.1
terminal_of_piece (Binary, x) = refl
terminal_of_piece (Lists, x) = refl
terminal_of_piece (r, x) = token_of x

pieces_bare : (ms : List Marked) → map (λ p. p.terminal) (map piece_of ms) ≡ bare ms
pieces_bare [] = refl
pieces_bare (m ∷ ms) = ap (λ xs. (piece_of m).terminal ∷ xs) (pieces_bare ms) ∙ ap (λ x. x ∷ bare ms) (terminal_of_piece m)

-- all that pieces write is read
abbrev IsLexed : Type 0
IsLexed = (ps : List Piece) → Parted ps ≡ true → (places : List ℕ) × Lexing (written ps) 0 (map (λ p. p.terminal) ps) places (length (written ps)) true

-- all that is read can be written
abbrev AreProper : Type 0
AreProper = (bytes : List ℕ) (at : ℕ) (ts : List Terminal) (places : List ℕ) (end : ℕ) (whole : Bool) → Lexing bytes at ts places end whole → list_all is_proper ts ≡ true

tree_again : IsLexed → (ss : Statements) → IsProper (text ss) → IsWithin nothing_counted (text ss) → Holds (canonical (text_value ss)) (text_value ss)
tree_again lexed ss p w =
    let statements = text_value ss in
    let tree = text_form statements in
    let here = lexed (map piece_of (text tree)) (text_parted tree (kept_again is_proper refl ss p)) in
    record {
      terminals = bare (text tree);
      places = here.0;
      end = length (canonical statements);
      lexing = subst (λ ts. Lexing (canonical statements) 0 ts here.0 (length (canonical statements)) true) (pieces_bare (text tree)) here.1;
      tree = tree;
      reads = record { tokens = refl; within = within_again ss w };
      says = says_again ss;
    }

-- the tree of a text, with tokens that pass what all that are read pass
passing : (p : Terminal → Bool) (bytes : List ℕ) (rules : List PlainStatement) → ((ts : List Terminal) (places : List ℕ) (end : ℕ) → Lexing bytes 0 ts places end true → list_all p ts ≡ true)
    → (h : Holds bytes rules) → AllTokens p (text h.tree)
passing p bytes rules all h = subst (λ ts. list_all p ts ≡ true) (sym h.reads.tokens) (all h.terminals h.places h.end h.lexing)

proper_tree : AreProper → (bytes : List ℕ) (rules : List PlainStatement) (h : Holds bytes rules) → IsProper (text h.tree)
proper_tree proper bytes rules h = passing is_proper bytes rules (λ ts places end l. proper bytes 0 ts places end true l) h

pub held_again : IsLexed → AreProper → (bytes : List ℕ) (rules : List PlainStatement) → Holds bytes rules → Holds (canonical rules) rules
held_again lexed proper bytes rules h = subst (λ rs. Holds (canonical rs) rs) h.says (tree_again lexed h.tree (proper_tree proper bytes rules h) h.reads.within)

utf8_tree : (ss : Statements) → IsProper (text ss) → AllTokens holds_utf8 (text ss) → IsUtf8 (canonical (text_value ss))
utf8_tree ss p u =
    let tree = text_form (text_value ss) in
    written_utf8 (map piece_of (text tree)) (text_parted tree (kept_again is_proper refl ss p)) (subst (λ ts. list_all holds_utf8 ts ≡ true) (sym (pieces_bare (text tree))) (kept_again holds_utf8 refl ss u))

pub utf8_again : AreProper → (bytes : List ℕ) (rules : List PlainStatement) → IsUtf8 bytes → Holds bytes rules → IsUtf8 (canonical rules)
utf8_again proper bytes rules u h =
    subst (λ rs. IsUtf8 (canonical rs)) h.says (utf8_tree h.tree (proper_tree proper bytes rules h) (passing holds_utf8 bytes rules (λ ts places end l. lexed_utf8 bytes 0 ts places end true u l) h))
