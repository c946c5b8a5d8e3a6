use Rattle.std.proofs.Common.{◌≡◌, ◌∙◌, ap, sym}
use Rattle.std.specs.Ordering.{ordering_then}
use Rattle.std.specs.declared.cmp.Ordering.TheVariants.{Equal}
use Rattle.event_model.specs.TermOrder.{args_cmp, bytes_cmp, comps}
use Rattle.event_model.proofs.compare.+compare.Goals as goal

pub cmp_terms-returns-in-Equal : goal.cmp_terms-returns-in-Equal
cmp_terms-returns-in-Equal t c =
    let f = c.in-Comp-Comp.f in
    let g = c.in-Comp-Comp.g in
    let xs = c.in-Comp-Comp.xs in
    let ys = c.in-Comp-Comp.ys in
    let tied : Equal ≡ bytes_cmp f g = c.in-Equal.ensures in
    let args : c.cmp_args.result ≡ args_cmp xs ys = c.cmp_args.ensures ∙ (λ i. args_cmp (c.as_slice.ensures i) (c.as_slice-in-Equal.ensures i)) in
    rw (c.in-Comp-Comp.is-0, c.in-Comp-Comp.is-1) (args ∙ ap (λ o. ordering_then o (args_cmp xs ys)) tied ∙ sym (comps f g xs ys))
