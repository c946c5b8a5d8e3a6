use Rattle.std.proofs.Common.{refl}
use Rattle.goal_store.proofs.Opening.{opened}
use Rattle.goal_store.proofs.kept.GoalStore.rows_of.Goals as goal

pub returns-in-Some-clause-rows : goal.returns-in-Some-clause-rows
returns-in-Some-clause-rows c ix index edge = opened _ c.args.range refl c.first_at.ensures ix index edge
