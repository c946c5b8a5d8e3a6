use Rattle.std.proofs.Common.{Some}
use Rattle.goal_store.specs.declared.marks.Mark.TheVariants.{Fresh}
use Rattle.goal_store.proofs.Storing.{unmarked, marks_result, same_marks_result}
use Rattle.goal_store.proofs.kept.GoalStore.add.Goals as goal

pub add-requires-clause-absent : goal.add-requires-clause-absent
add-requires-clause-absent c = unmarked c.args.self.now c.args.step c.args.row c.requires.absent

pub returns-clause-marks : goal.returns-clause-marks
returns-clause-marks c = marks_result c.args.self.now _ c.add.result c.args.step c.args.row (Some Fresh) c.add.ensures.mark

pub returns-clause-err : goal.returns-clause-err
returns-clause-err c = same_marks_result c.add.result c.args.self.now _ c.add.ensures.err_rows c.add.ensures.err
