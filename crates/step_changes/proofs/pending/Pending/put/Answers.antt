use Rattle.std.proofs.Common.{Some, ap, ◌∙◌}
use Rattle.std.specs.BTreeMap.{get}
use Rattle.std.specs.Cmp.{eq_by_cmp_equiv}
use Rattle.ev_bind.specs.Rows.{row_cmp, exact_rows}
use Rattle.step_changes.specs.Notes.{noted, part}
use Rattle.step_changes.proofs.ChangeLaws.{part_if}
use Rattle.step_changes.proofs.pending.Pending.put.Goals as goal

pub returns-clause-ok : goal.returns-clause-ok
unfolding noted
returns-clause-ok c = λ s r. ap (part s) (c.in_ok-insert.ensures.updates.0 r)
    ∙ part_if (part s) _ _ (Some c.args.tally) (get row_cmp c.args.self.now.map r) ((eq_by_cmp_equiv exact_rows.total).symm c.args.row r)
