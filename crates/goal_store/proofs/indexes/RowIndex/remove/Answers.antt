use Rattle.key_lists.specs.Lists.{list_in}
use Rattle.goal_store.specs.Places.{exact_places}
use Rattle.goal_store.proofs.Indexing.{less_from}
use Rattle.goal_store.proofs.indexes.RowIndex.remove.Goals as goal

pub remove_like-requires-clause-exact : goal.remove_like-requires-clause-exact
remove_like-requires-clause-exact c = exact_places

pub returns-clause-less : goal.returns-clause-less
returns-clause-less c held was =
    less_from c.args.self.now.key c.args.self.now.edge c.args.row.now c.args.number c.edge_time.result c.hash_on.result c.edge_time.ensures c.hash_on.ensures
    (list_in c.args.self.now.lists) (list_in c.remove_like.new.self) c.remove_like.ensures.others held was c.remove_like.ensures.rest
