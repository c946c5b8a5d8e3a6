use Rattle.goal_store.proofs.Storing.{fewer_marks}
use Rattle.goal_store.proofs.kept.GoalStore.release.Goals as goal

pub returns-clause-marks : goal.returns-clause-marks
returns-clause-marks c = fewer_marks c.args.self.now _ c.release.ensures.rows c.release.ensures.values
