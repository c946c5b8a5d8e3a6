use Rattle.std.proofs.Common.{rules, ◌+◌, ◌++◌, refl, ap, ◌∙◌, subst, take_all}
use Rattle.std.specs.Fmt.{signed_decimal}
use Rattle.event_model.specs.Text.{quoted}
use Rattle.rule_grammar.specs.Trees.{Literal.Symbol, Literal.Quoted}
use Rattle.rule_writer.specs.Forms.{number_form}
use Rattle.rule_writer.specs.Writes.{Appends, all_arguments}
use Rattle.rule_writer.proofs.Formed.{term_form-Var, term_form-Any, term_form-Num, term_form-Sym, term_form-Text, term_form-Comp}
use Rattle.rule_writer.proofs.Appending.{literal_written, number_bytes, first_argument, next_argument, compound_written}
use Rattle.rule_writer.proofs.terms.+term.Goals as goal

pub write_arguments-loop-i-init : goal.write_arguments-loop-i-init
write_arguments-loop-i-init t c d = first_argument c.args.place c.args.names.now c.args.args.now c.index-args-0.result d (search rules) c.index-args-0.is (c.in_ok-write_term.ensures d)

pub write_arguments-loop-i-preserved : goal.write_arguments-loop-i-preserved
write_arguments-loop-i-preserved t c d =
    next_argument c.args.place c.args.names.now c.args.args.now c.loop-i.i c.index-args-i.result d c.loop-i.auto.i c.loop-i-test.true c.index-args-i.is
    (c.loop-i.invariant d) c.in_ok-write_str.ensures (c.in_ok-write_term-2.ensures d)

pub write_arguments-returns : goal.write_arguments-returns
write_arguments-returns t c d =
    subst (λ xs. Appends c.args.out.now.items c.loop-i.out.items (all_arguments c.args.place c.args.names.now xs d)) (take_all c.loop-i.i c.args.args.now c.loop-i-test.false) (c.loop-i.invariant d)

pub write_compound-returns : goal.write_compound-returns
write_compound-returns t c d =
    compound_written c.args.place c.args.names.now c.args.name.now c.args.args.now d (search rules)
    (c.in_ok-write_str.ensures ∙ ap (λ x. c.args.out.now.items ++ x) c.as_str.ensures) c.in_ok-write_str-2.ensures (c.in_ok-write_arguments.ensures (d + 1)) c.in_ok-write_str-3.ensures

pub write_term-returns-in_ok-write_slot-in-Var : goal.write_term-returns-in_ok-write_slot-in-Var
write_term-returns-in_ok-write_slot-in-Var t c d = rw (c.in-Var.is, term_form-Var) (c.in_ok-write_slot-in-Var.ensures d)

pub write_term-returns-in_ok-write_any-in-Any : goal.write_term-returns-in_ok-write_any-in-Any
write_term-returns-in_ok-write_any-in-Any t c d = rw (c.in-Any.is, term_form-Any) (c.in_ok-write_any-in-Any.ensures d)

pub write_term-returns-in_ok-write_signed-in-Num : goal.write_term-returns-in_ok-write_signed-in-Num
write_term-returns-in_ok-write_signed-in-Num t c d =
    rw (c.in-Num.is, term_form-Num) (literal_written c.args.place (number_form c.in-Num.n) d (signed_decimal c.in-Num.n) (search rules) (number_bytes c.in-Num.n))

pub write_term-returns-in_ok-write_str-in-Sym : goal.write_term-returns-in_ok-write_str-in-Sym
write_term-returns-in_ok-write_str-in-Sym t c d =
    rw (c.in-Sym.is, term_form-Sym) (literal_written c.args.place (Symbol c.in-Sym.name) d c.in-Sym.name
    (c.in_ok-write_str-in-Sym.ensures ∙ ap (λ x. c.args.out.now.items ++ x) c.as_str.ensures) (λ rest. refl))

pub write_term-returns-in_ok-write_quoted-in-Text : goal.write_term-returns-in_ok-write_quoted-in-Text
write_term-returns-in_ok-write_quoted-in-Text t c d =
    rw (c.in-Text.is, term_form-Text) (literal_written c.args.place (Quoted c.in-Text.text) d (quoted c.in-Text.text) c.in_ok-write_quoted-in-Text.ensures (λ rest. refl))

pub write_term-returns-in_ok-write_compound-in-Comp : goal.write_term-returns-in_ok-write_compound-in-Comp
write_term-returns-in_ok-write_compound-in-Comp t c d = rw (c.in-Comp.is, term_form-Comp) (rw c.as_slice.ensures at (c.in_ok-write_compound-in-Comp.ensures d))
