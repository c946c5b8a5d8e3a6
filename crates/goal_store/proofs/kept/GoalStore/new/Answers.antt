use Rattle.goal_store.proofs.Building.{no_marks}
use Rattle.goal_store.proofs.kept.GoalStore.new.Goals as goal

pub returns-clause-marks : goal.returns-clause-marks
returns-clause-marks c = no_marks _ c.no_goals.ensures.rows
