use Rattle.std.proofs.Common.{ap, sym, ◌∙◌}
use Rattle.ev_bind.specs.Matching.{values}
use Rattle.ev_bind.specs.Rows.{same_rows}
use Rattle.revision.proofs.TellLaws.{values_numbered}
use Rattle.revision.proofs.telling.values_of.Goals as goal

pub returns-then-eq : goal.returns-then-eq
returns-then-eq c =
    sym (values_numbered 0 c.in_ok-found.found.items)
    ∙ ap values (sym (rw c.deref.ensures.value at c.in_ok-binding.ensures))
    ∙ ap (λ r. values r.binding) (same_rows _ c.args.row.now (sym c.eq.ensures ∙ c.if-eq.true))
