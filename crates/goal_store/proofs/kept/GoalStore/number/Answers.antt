use Rattle.goal_store.proofs.Storing.{more_marks}
use Rattle.goal_store.proofs.kept.GoalStore.number.Goals as goal

pub returns-clause-marks : goal.returns-clause-marks
returns-clause-marks c = more_marks c.args.self.now _ c.number.ensures.rows c.number.ensures.values
