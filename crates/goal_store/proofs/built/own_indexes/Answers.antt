use Rattle.std.proofs.Common.{◌+◌, sym, subst, arith}
use Rattle.goal_store.proofs.Building.{OwnTo, own_more}
use Rattle.goal_store.proofs.built.own_indexes.Goals as goal

pub loop-at-preserved : goal.loop-at-preserved
loop-at-preserved c =
    subst (λ l. OwnTo c.args.indexes.now l (c.loop-at.at + 1)) (sym c.in_ok-push.ensures.items)
    (own_more c.args.indexes.now c.loop-at.own.items c.loop-at.at c.loop-at.invariant (omega (arith, c.loop-at-test.true)) c.index-indexes-at.result
    c.index-indexes-at.is c.all_slots-all.result c.meet.result c.all_slots-all.ensures c.meet.ensures)
