use Rattle.std.proofs.Common.{◌+◌, sym, subst, arith}
use Rattle.goal_store.proofs.Building.{PlacedTo, placed_more}
use Rattle.goal_store.proofs.built.place_indexes.Goals as goal

pub loop-at-preserved : goal.loop-at-preserved
loop-at-preserved c =
    subst (λ l. PlacedTo c.args.indexes.now l c.args.steps.now.items c.place_index.new.steps.items (c.loop-at.at + 1)) (sym c.in_ok-push.ensures.items)
    (placed_more c.args.indexes.now c.loop-at.spots.items c.args.steps.now.items c.loop-at.steps.items c.place_index.new.steps.items c.loop-at.at
    c.in_ok-place_index.field-0 c.index-indexes-at.result c.loop-at.invariant (omega (arith, c.loop-at-test.true)) c.index-indexes-at.is
    c.in_ok-place_index.ensures)
