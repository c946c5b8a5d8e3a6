use Rattle.std.proofs.Common.{refl}
use Rattle.goal_store.proofs.Standing.{cursor_rest, cursor_end}
use Rattle.goal_store.proofs.walks.RowsFrom.cursor.Goals as goal

pub returns-in-None : goal.returns-in-None
returns-in-None c = cursor_end c.args.self.now c.in-None.ensures.none _ refl

pub returns-in-Some : goal.returns-in-Some
returns-in-Some c = cursor_rest c.args.self.now c.in-Some.stop.place.now c.in-Some.stop.at c.in-Some.stop.behind c.in-Some.ensures.stop
