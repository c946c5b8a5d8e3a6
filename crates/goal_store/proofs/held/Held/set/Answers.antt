use Rattle.std.proofs.Common.{Some, refl}
use Rattle.goal_store.proofs.Holding.{is_held_set, mark_set, one_set}
use Rattle.goal_store.proofs.held.Held.set.Goals as goal

pub returns-clause-held : goal.returns-clause-held
returns-clause-held c =
    is_held_set c.args.self.now _ c.requires.held c.set.ensures.table c.set.ensures.keys c.args.number c.args.step c.args.mark c.requires.there
    (one_set c.args.self.now.rows c.set.new.self c.args.number c.args.step (Some c.args.mark) c.set.ensures.here c.set.ensures.steps c.set.ensures.others)
    refl refl

pub returns-clause-mark : goal.returns-clause-mark
returns-clause-mark c row at =
    mark_set c.args.self.now.rows c.set.new.self c.requires.held.table c.set.ensures.table c.args.number c.args.step row at (Some c.args.mark)
    c.set.ensures.keys c.set.ensures.here c.set.ensures.steps c.set.ensures.others
