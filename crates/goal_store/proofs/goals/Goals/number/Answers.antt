use Rattle.std.proofs.Common.{refl}
use Rattle.goal_store.proofs.Changing.{good_more, numbered_values, numbered_rows}
use Rattle.goal_store.proofs.goals.Goals.number.Goals as goal

pub returns-clause-good : goal.returns-clause-good
returns-clause-good c =
    good_more c.args.self.now _ c.requires.good c.number.ensures.table
    (numbered_values c.number.result c.args.self.now.held.rows c.number.new.self c.number.ensures.values c.number.ensures.err) refl refl refl
    (numbered_rows c.number.result c.args.self.now.held.rows c.number.new.self c.number.ensures.keys c.number.ensures.err)
