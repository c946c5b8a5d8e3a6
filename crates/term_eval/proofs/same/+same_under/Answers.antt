use Rattle.std.proofs.Common.{sym, ap, ◌∙◌}
use Rattle.std.specs.Prelude.{◌&&◌}
use Rattle.ev_bind.specs.Fits.{same}
use Rattle.ev_bind.specs.Matching.{instance}
use Rattle.term_eval.specs.Alike.{each_with}
use Rattle.term_eval.proofs.Equal.{same_turned, compounds}
use Rattle.term_eval.proofs.same.+same_under.Goals as goal

pub same_under-returns-in-Var-q : goal.same_under-returns-in-Var-q
same_under-returns-in-Var-q t c = rw c.in-Var-q.is (c.is_value-in-Var-q.ensures ∙ same_turned _ _)

pub same_under-returns-in-Var-q-2 : goal.same_under-returns-in-Var-q-2
same_under-returns-in-Var-q-2 t c = rw c.in-Var-q-2.is (c.is_value-in-Var-q-2.ensures ∙ same_turned _ _)

pub same_under-returns-in-Var-q-3 : goal.same_under-returns-in-Var-q-3
same_under-returns-in-Var-q-3 t c = rw c.in-Var-q-3.is (c.is_value-in-Var-q-3.ensures ∙ same_turned _ _)

pub same_under-returns-then-same_names : goal.same_under-returns-then-same_names
same_under-returns-then-same_names t c =
    let k = c.in-Comp in
    let l = c.in-Comp-q-3 in
    rw (k.is, l.is) (
    c.all_same.ensures
    ∙ (λ i. each_with (λ p q. same (instance p c.args.b.now) (instance q c.args.b.now)) (c.as_slice.ensures i) (c.as_slice-then-same_names.ensures i))
    ∙ sym (compounds k.f l.g k.xs l.ys c.args.b.now
    ∙ ap (λ r. r && each_with (λ p q. same (instance p c.args.b.now) (instance q c.args.b.now)) k.xs l.ys) (sym c.same_names-in-Comp-q-3.ensures ∙ c.if-same_names.true)))
