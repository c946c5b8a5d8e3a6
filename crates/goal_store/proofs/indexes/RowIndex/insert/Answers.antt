use Rattle.goal_store.specs.Places.{exact_places}
use Rattle.key_lists.specs.Lists.{list_in}
use Rattle.goal_store.proofs.Indexing.{also_result}
use Rattle.goal_store.proofs.indexes.RowIndex.insert.Goals as goal

pub insert-requires-clause-exact : goal.insert-requires-clause-exact
insert-requires-clause-exact c = exact_places

pub returns-clause-ok : goal.returns-clause-ok
returns-clause-ok c held was = also_result c.insert.result c.args.self.now.key c.args.self.now.edge c.args.row.now c.args.number c.edge_time.result c.hash_on.result
    c.edge_time.ensures c.hash_on.ensures (list_in c.args.self.now.lists) (list_in c.insert.new.self) c.insert.ensures.others held was c.in_ok-share.field-0
    c.in_ok-share.ensures c.insert.ensures.placed
