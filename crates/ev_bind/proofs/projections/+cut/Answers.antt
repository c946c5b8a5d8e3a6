use Rattle.std.proofs.Common.{sym, ap, ◌∙◌}
use Rattle.std.specs.Prelude.{unwrap_or}
use Rattle.ev_bind.proofs.Chaining.{kept_binding}
use Rattle.ev_bind.proofs.projections.+cut.Goals as goal

pub with-requires : goal.with-requires
with-requires t c = kept_binding c.args.slots.now (c.in-Some.cell.now.slot, c.in-Some.cell.now.term) c.in-Some.cell.now.rest c.in-Some-rest.rest c.args.binding.now
    c.in-Some.ensures.pairs c.first.ensures.binding (sym c.if-has-2.ensures)
    (ap (λ o. unwrap_or o c.in-Some.cell.now.rest) (sym c.in-Some-rest.is) ∙ c.in_ok-rest-in-Some.ensures)
