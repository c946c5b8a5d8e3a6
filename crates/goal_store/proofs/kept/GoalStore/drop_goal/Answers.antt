use Rattle.std.proofs.Common.{Some, sym, ap, ◌∙◌}
use Rattle.goal_store.specs.Marks.{was_old}
use Rattle.goal_store.specs.declared.marks.Mark.TheVariants.{Dying}
use Rattle.goal_store.proofs.Marking.{mark_under, mark_nowhere}
use Rattle.goal_store.proofs.Storing.{marks_of, same_marks}
use Rattle.goal_store.proofs.kept.GoalStore.drop_goal.Goals as goal

pub returns-in-None-clause-was : goal.returns-in-None-clause-was
returns-in-None-clause-was c = sym (ap was_old (mark_nowhere c.args.self.now c.args.step c.args.row.now c.in-None.ensures))

pub returns-in-Some-clause-was : goal.returns-in-Some-clause-was
returns-in-Some-clause-was c = c.drop_at.ensures.was ∙ sym (ap was_old (mark_under c.args.self.now c.args.step c.args.row.now c.in-Some.number c.in-Some.ensures))

pub returns-in-Some-clause-dropped : goal.returns-in-Some-clause-dropped
returns-in-Some-clause-dropped c dropped =
    marks_of c.args.self.now _ c.args.step c.args.row.now (Some Dying) (c.drop_at.ensures.dropped c.args.row.now c.in-Some.ensures dropped)

pub returns-in-Some-clause-other : goal.returns-in-Some-clause-other
returns-in-Some-clause-other c other = same_marks c.args.self.now _ c.drop_at.ensures.rows (c.drop_at.ensures.other other)
