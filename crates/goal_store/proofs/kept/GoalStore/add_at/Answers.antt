use Rattle.std.proofs.Common.{Some, sym, ◌∙◌}
use Rattle.goal_store.specs.declared.marks.Mark.TheVariants.{Fresh}
use Rattle.goal_store.proofs.Holding.{some_row}
use Rattle.goal_store.proofs.Marking.{mark_under}
use Rattle.goal_store.proofs.Storing.{marks_result, same_marks}
use Rattle.std.proofs.lemmas.Result.{on_err_weaker}
use Rattle.goal_store.proofs.kept.GoalStore.add_at.Goals as goal

pub add_at-requires-clause-absent : goal.add_at-requires-clause-absent
add_at-requires-clause-absent c =
    let row = some_row _ c.requires.held in
    sym (mark_under c.args.self.now c.args.step row.0 c.args.number row.1) ∙ c.requires.absent row.0 row.1

pub returns-clause-marks : goal.returns-clause-marks
returns-clause-marks c row at = marks_result c.args.self.now _ c.add_at.result c.args.step row (Some Fresh) (c.add_at.ensures.mark row at)

pub returns-clause-err : goal.returns-clause-err
returns-clause-err c = on_err_weaker c.add_at.result (same_marks c.args.self.now _ c.add_at.ensures.rows) c.add_at.ensures.err
