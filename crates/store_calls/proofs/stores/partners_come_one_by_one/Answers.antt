use Rattle.std.proofs.Common.{◌∙◌}
use Rattle.store_calls.proofs.stores.partners_come_one_by_one.Goals as goal

pub start-requires : goal.start-requires
start-requires g c = c.in_ok-way_of.ensures c.put.new.store (c.put.ensures.1 ∙ c.in_ok-store.ensures.indexes)
