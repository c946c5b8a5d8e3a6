use Rattle.store_calls.proofs.Sweeps.{left_old, settled_old}
use Rattle.store_calls.proofs.stores.a_sweep_leaves_the_rows_that_count.Goals as goal

pub sweep-requires-2 : goal.sweep-requires-2
sweep-requires-2 g c = record { old = left_old _ _ c.in_ok-caps.caps _ (settled_old _ _ c.settle.ensures.marks) c.sweep.ensures.marks }
