use Rattle.std.proofs.Common.{refl}
use Rattle.goal_store.proofs.Building.{none_good}
use Rattle.goal_store.proofs.built.no_goals.Goals as goal

pub returns-clause-good : goal.returns-clause-good
returns-clause-good c = none_good _ c.new.ensures.empty c.new.ensures.table c.requires.bare refl c.new-2.ensures.len
