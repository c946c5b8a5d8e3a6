use Rattle.step_changes.proofs.ChangeLaws.{counts_through}
use Rattle.step_changes.proofs.finishing.change_count.Goals as goal

pub returns-clause-counts : goal.returns-clause-counts
returns-clause-counts c = counts_through _ _ _ _ c.args.step c.args.row.now _ c.number_near.ensures.counts
    (c.in_ok-set_at.ensures.counts c.args.row.now c.in_ok-number.ensures.held) c.release.ensures.counts
