use Rattle.std.proofs.Common.{Some, ap, sym, ◌∙◌}
use Rattle.support_table.proofs.Asking.{row_there}
use Rattle.support_table.proofs.kept.Supports.keep_number.Goals as goal

pub returns-then-is_some-clause-others : goal.returns-then-is_some-clause-others
returns-then-is_some-clause-others g c = λ s r none.
    let row = row_there c.row.result (sym c.is_some.ensures ∙ c.if-is_some.true) in
    c.release.ensures.counts s r ∙ c.keep_steps.ensures.others row.0 (sym c.row.ensures ∙ row.1) s r
    (λ e. none (sym c.row.ensures ∙ row.1 ∙ ap Some (sym e)))
