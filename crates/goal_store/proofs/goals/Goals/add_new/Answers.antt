use Rattle.std.proofs.Common.{Some}
use Rattle.goal_store.specs.declared.marks.Mark.TheVariants.{Fresh}
use Rattle.goal_store.proofs.Changing.{mark_through}
use Rattle.goal_store.proofs.goals.Goals.add_new.Goals as goal

pub returns-in-Ok-clause-mark : goal.returns-in-Ok-clause-mark
returns-in-Ok-clause-mark c =
    mark_through c.args.self.now.held.rows c.number.new.self.held.rows c.add_at.new.self.held.rows c.requires.good.held.table c.number.ensures.good.held.table
    c.number.ensures.values c.number.ensures.rows c.args.step c.args.row (Some Fresh) (c.in-Ok.ensures.mark c.args.row c.in_ok-number.ensures.held)
