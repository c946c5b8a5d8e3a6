use Rattle.goal_store.proofs.Standing.{first_is}
use Rattle.goal_store.proofs.walks.RowsFrom.next_row.Goals as goal

pub returns-in-Some-clause-rows : goal.returns-in-Some-clause-rows
returns-in-Some-clause-rows c = first_is c.args.self.now c.in-Some.stop.place.now c.in-Some.stop.at c.in-Some.stop.behind c.in-Some.ensures.stop
    c.standing_at.result c.standing_at.ensures.rows
