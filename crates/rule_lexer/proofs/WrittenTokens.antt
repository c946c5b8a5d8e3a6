-- Terminals that are written are read.
use Rattle.std.proofs.Common.{◌≡◌, ℕ, ◌<◌, ◌^◌, true, false, ◌==◌, List, refl, ap, arith}
use Rattle.std.proofs.lemmas.Bool.{not-true, ltb-true}
use Rattle.std.proofs.lemmas.Bool.Decides.{nat_tests}
use Rattle.event_model.specs.declared.operators.Op.{Op}
use Rattle.event_model.specs.declared.operators.Op.TheVariants as op
use Rattle.rule_ast.specs.declared.conditions.Cmp.{Cmp}
use Rattle.rule_ast.specs.declared.conditions.Cmp.TheVariants as cmp
use Rattle.rule_lexer.specs.declared.tokens.Word.TheVariants as words
use Rattle.rule_lexer.specs.declared.tokens.Mark.TheVariants as marks
use Rattle.rule_lexer.specs.declared.terminals.Terminal.{Terminal}
use Rattle.rule_lexer.specs.declared.terminals.Terminal.TheVariants as made
use Rattle.rule_lexer.specs.Lexing.{terminal_of, word_terminal, mark_terminal}
use Rattle.rule_lexer.specs.Writing.{op_word, cmp_mark, kind_of, spelling, is_proper, may_precede}
use Rattle.rule_lexer.proofs.Stands.{Stands}
use Rattle.rule_lexer.proofs.WrittenWords.{name_stands, var_stands, reserved_stands, wild_stands}
use Rattle.rule_lexer.proofs.WrittenNumbers.{number_stands, huge_stands}
use Rattle.rule_lexer.proofs.WrittenTexts.{text_stands, quoted_content}
use Rattle.rule_lexer.proofs.WrittenSigns.{mark_stands}

-- where the terminal may precede the rest, its spelling is the longest token there
pub terminal_stands : (t : Terminal) (rest : List ℕ) → is_proper t ≡ true → may_precede t rest ≡ true → Stands (kind_of t) (spelling t) rest
terminal_stands (made.Name word) rest p h = name_stands word rest p (not-true _ h)
terminal_stands (made.Var word) rest p h = var_stands word rest p (not-true _ h)
terminal_stands (made.Text text) rest p h = text_stands text rest p
terminal_stands (made.Number n) rest p h = number_stands n rest (ltb-true n (2 ^ 63) p) (not-true _ h)
terminal_stands made.Huge rest p h = huge_stands rest (not-true _ h)
terminal_stands made.Wild rest p h = wild_stands rest (not-true _ h)
terminal_stands (made.Op o) rest p h = reserved_stands (op_word o) rest (not-true _ h)
terminal_stands made.Or rest p h = reserved_stands words.Or rest (not-true _ h)
terminal_stands made.Not rest p h = reserved_stands words.Not rest (not-true _ h)
terminal_stands made.Where rest p h = reserved_stands words.Where rest (not-true _ h)
terminal_stands made.Within rest p h = reserved_stands words.Within rest (not-true _ h)
terminal_stands made.Show rest p h = reserved_stands words.Show rest (not-true _ h)
terminal_stands made.Open rest p h = mark_stands marks.OpenRound rest h
terminal_stands made.Close rest p h = mark_stands marks.CloseRound rest h
terminal_stands made.Stray rest p h = mark_stands marks.OpenSquare rest h
terminal_stands made.Square rest p h = mark_stands marks.CloseSquare rest h
terminal_stands made.Comma rest p h = mark_stands marks.Comma rest h
terminal_stands made.Arrow rest p h = mark_stands marks.Arrow rest h
terminal_stands made.Plus rest p h = mark_stands marks.Plus rest h
terminal_stands made.Minus rest p h = mark_stands marks.Minus rest h
terminal_stands made.Star rest p h = mark_stands marks.Star rest h
terminal_stands made.Slash rest p h = mark_stands marks.Slash rest h
terminal_stands made.Percent rest p h = mark_stands marks.Percent rest h
terminal_stands (made.Compare c) rest p h = mark_stands (cmp_mark c) rest h
terminal_stands made.Both rest p h = mark_stands marks.Both rest h
terminal_stands made.Either rest p h = mark_stands marks.Either rest h
terminal_stands made.Bang rest p h = mark_stands marks.Bang rest h
terminal_stands made.Limits rest p h = mark_stands marks.Limits rest h
terminal_stands made.Length rest p h = mark_stands marks.Length rest h
terminal_stands made.End rest p h = mark_stands marks.End rest h

op_says : (o : Op) → word_terminal (op_word o) ≡ made.Op o
op_says op.Seq = refl
op_says o = refl

cmp_says : (c : Cmp) → mark_terminal (cmp_mark c) ≡ made.Compare c
cmp_says cmp.Eq = refl
cmp_says c = refl

not_huge : (n : ℕ) → n < 2 ^ 63 → (n == 2 ^ 63) ≡ false
not_huge n l = grind (arith, nat_tests)

-- and stands for the terminal
pub terminal_says : (t : Terminal) → is_proper t ≡ true → terminal_of (kind_of t) (spelling t) ≡ t
terminal_says (made.Name word) p = refl
terminal_says (made.Text text) p = ap (λ x. made.Text x) (quoted_content text)
terminal_says (made.Number n) p = rw (not_huge n (ltb-true n (2 ^ 63) p)) refl
terminal_says (made.Op o) p = op_says o
terminal_says (made.Compare c) p = cmp_says c
terminal_says t p = refl
