use Rattle.std.proofs.Common.{Some, sym, ap, ◌∙◌}
use Rattle.goal_store.specs.Marks.{was_old}
use Rattle.goal_store.specs.declared.marks.Mark.TheVariants.{Dying}
use Rattle.goal_store.proofs.Marking.{mark_under}
use Rattle.goal_store.proofs.Storing.{marks_of, same_marks}
use Rattle.goal_store.proofs.kept.GoalStore.drop_at.Goals as goal

pub returns-clause-was : goal.returns-clause-was
returns-clause-was c row at = c.drop_at.ensures.was ∙ sym (ap was_old (mark_under c.args.self.now c.args.step row c.args.number at))

pub returns-clause-dropped : goal.returns-clause-dropped
returns-clause-dropped c row at dropped = marks_of c.args.self.now _ c.args.step row (Some Dying) (c.drop_at.ensures.dropped row at dropped)

pub returns-clause-other : goal.returns-clause-other
returns-clause-other c other = same_marks c.args.self.now _ c.drop_at.ensures.rows (c.drop_at.ensures.other other)
