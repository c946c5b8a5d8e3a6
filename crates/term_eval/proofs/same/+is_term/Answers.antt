use Rattle.std.proofs.Common.{sym, ap, ◌∙◌}
use Rattle.std.specs.Prelude.{◌&&◌}
use Rattle.ev_bind.specs.Fits.{same}
use Rattle.ev_bind.specs.Matching.{instance, instance-Num, instance-Sym, instance-Text, instance-Comp}
use Rattle.term_eval.specs.Alike.{each_with}
use Rattle.term_eval.proofs.Equal.{unlike, compound_term}
use Rattle.term_eval.proofs.same.+is_term.Goals as goal

pub is_term-returns-in_default : goal.is_term-returns-in_default
is_term-returns-in_default t c = rw (c.in_default.is-0, instance-Num) (unlike _ _ (λ e. c.in_default.not-Num-1 c.in_default.field-0-0 (sym e)))

pub is_term-returns-in_default-2 : goal.is_term-returns-in_default-2
is_term-returns-in_default-2 t c = rw (c.in_default.is-0, instance-Sym) (unlike _ _ (λ e. c.in_default.not-Sym-1 c.in_default.field-0-0 (sym e)))

pub is_term-returns-in_default-3 : goal.is_term-returns-in_default-3
is_term-returns-in_default-3 t c = rw (c.in_default.is-0, instance-Text) (unlike _ _ (λ e. c.in_default.not-Text-1 c.in_default.field-0-0 (sym e)))

pub is_term-returns-in_default-4 : goal.is_term-returns-in_default-4
is_term-returns-in_default-4 t c = rw (c.in_default.is-0, instance-Comp) (unlike _ _ (λ e. c.in_default.not-Comp-1 _ _ (sym e)))

pub is_term-returns-then-same_names : goal.is_term-returns-then-same_names
is_term-returns-then-same_names t c =
    let k = c.in-Comp-Comp in
    rw (k.is-0, k.is-1) (
    c.are_terms.ensures
    ∙ (λ i. each_with (λ p t. same (instance p c.args.b.now) t) (c.as_slice.ensures i) (c.as_slice-then-same_names.ensures i))
    ∙ sym (compound_term k.f k.g k.xs k.ys c.args.b.now
    ∙ ap (λ r. r && each_with (λ p t. same (instance p c.args.b.now) t) k.xs k.ys) (sym c.same_names-in-Comp-Comp.ensures ∙ c.if-same_names.true)))
