use Rattle.std.proofs.Common.{Some, None, sym, ◌∙◌}
use Rattle.support_table.specs.Supports.{counts_only, same_counts}
use Rattle.support_table.proofs.Counting.{on_err, with_count}
use Rattle.support_table.proofs.kept.Supports.set_at.Goals as goal

pub returns-then-n-eq0-clause-counts : goal.returns-then-n-eq0-clause-counts
returns-then-n-eq0-clause-counts c = λ row held.
    with_count c.args.self.now _ c.args.step row c.args.n 0
    (counts_only c.args.self.now _ c.args.number c.args.step row None held c.remove.ensures.gone c.remove.ensures.steps
    c.remove.ensures.others c.remove.ensures.keys)
    (sym c.if-n-eq0.true)

pub returns-in_err-put-clause-err : goal.returns-in_err-put-clause-err
returns-in_err-put-clause-err c = on_err _ _ (same_counts c.args.self.now _ c.in_err-put.ensures.err (λ n k e. c.put.ensures.keys n ∙ e))

pub returns-clause-counts : goal.returns-clause-counts
returns-clause-counts c = λ row held.
    counts_only c.args.self.now _ c.args.number c.args.step row (Some c.args.n) held c.in_ok-put.ensures.here c.in_ok-put.ensures.steps
    c.put.ensures.others c.put.ensures.keys
