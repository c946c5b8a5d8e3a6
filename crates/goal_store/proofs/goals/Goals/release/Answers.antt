use Rattle.std.proofs.Common.{refl}
use Rattle.goal_store.proofs.Changing.{good_fewer}
use Rattle.goal_store.proofs.goals.Goals.release.Goals as goal

pub returns-clause-good : goal.returns-clause-good
returns-clause-good c =
    good_fewer c.args.self.now _ c.requires.good c.tidy.ensures.table c.tidy.ensures.values refl refl refl c.tidy.ensures.rows
