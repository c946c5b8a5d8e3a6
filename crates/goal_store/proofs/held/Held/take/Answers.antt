use Rattle.std.proofs.Common.{◌<◌, arith}
use Rattle.goal_store.proofs.Holding.{goal_there, is_held_less}
use Rattle.goal_store.proofs.held.Held.take.Goals as goal

some_goal : (c : goal.After-self-1) → 0 < c.args.self.now.number
some_goal c =
    goal_there c.args.self.now (record { rows = c.clear.new.rows; steps = c.unlist_row.new.steps; number = 0 }) c.requires.held c.args.number c.args.step
    c.requires.there c.clear.ensures.table c.clear.ensures.rows c.clear.ensures.one c.clear.ensures.mark c.unlist_row.ensures.others
    c.unlist_row.ensures.length

pub overflow_sub-self : goal.overflow_sub-self
overflow_sub-self c = omega (
  arith,
  goal_there c.args.self.now (record { rows = c.clear.new.rows; steps = c.unlist_row.new.steps; number = 0 }) c.requires.held c.args.number c.args.step
      c.requires.there c.clear.ensures.table c.clear.ensures.rows c.clear.ensures.one c.clear.ensures.mark c.unlist_row.ensures.others
      c.unlist_row.ensures.length,
)

pub returns-clause-number : goal.returns-clause-number
returns-clause-number c = omega (arith, some_goal c)

pub returns-clause-held : goal.returns-clause-held
returns-clause-held c =
    is_held_less c.args.self.now _ c.requires.held c.args.number c.args.step
    c.requires.there c.clear.ensures.table c.clear.ensures.rows c.clear.ensures.one c.clear.ensures.mark c.unlist_row.ensures.others
    c.unlist_row.ensures.length c.unlist_row.ensures.less (omega (arith, some_goal c))
