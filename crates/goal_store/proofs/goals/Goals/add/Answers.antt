use Rattle.goal_store.proofs.Changing.{absent_value}
use Rattle.goal_store.proofs.goals.Goals.add.Goals as goal

pub add_at-requires-clause-absent : goal.add_at-requires-clause-absent
add_at-requires-clause-absent c =
    absent_value c.args.self.now.held.rows c.requires.good.held.table c.in-Some.number c.args.step c.args.row c.in-Some.ensures c.requires.absent
