use Rattle.ev_bind.specs.Rows.{exact_rows}
use Rattle.std.proofs.Common.{None}
use Rattle.goal_store.proofs.Holding.{mark_set, mark_cleared}
use Rattle.goal_store.proofs.held.clear.Goals as goal

pub tidy-requires-clause-exact : goal.tidy-requires-clause-exact
tidy-requires-clause-exact c = exact_rows

pub returns-clause-mark : goal.returns-clause-mark
returns-clause-mark c row at =
    mark_cleared c.args.rows.now c.remove.new.self c.requires.table c.remove.ensures.table c.args.number c.args.step row at None c.tidy.new.self c.tidy.ensures.table
    (mark_set c.args.rows.now c.remove.new.self c.requires.table c.remove.ensures.table c.args.number c.args.step row at None
    c.remove.ensures.keys c.remove.ensures.gone c.remove.ensures.steps c.remove.ensures.others)
    c.tidy.ensures.values c.tidy.ensures.rows
