use Rattle.std.proofs.Common.{ap, sym}
use Rattle.goal_store.specs.Marks.{was_old}
use Rattle.goal_store.proofs.Marking.{mark_nowhere}
use Rattle.goal_purge.proofs.purging.drop_goal.Goals as goal

pub returns-in-None-clause-was : goal.returns-in-None-clause-was
returns-in-None-clause-was c = sym (ap was_old (mark_nowhere c.args.goals.now c.args.step c.args.row.now c.in-None.ensures))

pub returns-in-Some-clause-dropped : goal.returns-in-Some-clause-dropped
returns-in-Some-clause-dropped c = c.drop_at.ensures.dropped c.args.row.now c.in-Some.ensures
