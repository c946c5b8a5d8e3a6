use Rattle.std.proofs.Common.{arith}
use Rattle.goal_store.specs.Indexed.{less}
use Rattle.goal_store.proofs.Stepping.{walked_next, walked_all}
use Rattle.goal_store.proofs.steps.StepPlaces.remove.Goals as goal

pub loop-i-preserved : goal.loop-i-preserved
loop-i-preserved c =
    walked_next (less c.args.row.now c.args.number) c.args.self.now.indexes.items c.loop-i.i c.loop-i.self.indexes.items c.loop-i.invariant
    c.index_mut.result.now c.remove.new.self c.index_mut.ensures.value (omega (arith, c.loop-i-test.true, c.len-i-end.ensures)) c.remove.ensures.less
    c.remove.ensures.kind

pub returns-clause-less : goal.returns-clause-less
returns-clause-less c =
    walked_all (less c.args.row.now c.args.number) c.args.self.now.indexes.items c.loop-i.i c.loop-i.self.indexes.items c.loop-i.invariant
    (omega (arith, c.loop-i-test.false, c.len-i-end.ensures))
