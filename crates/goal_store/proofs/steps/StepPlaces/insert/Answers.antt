use Rattle.std.proofs.Common.{slice_set, arith}
use Rattle.goal_store.specs.Indexed.{also}
use Rattle.goal_store.proofs.Stepping.{walked_next, walked_stay, walked_all, taken_back, same_kinds_after}
use Rattle.goal_store.proofs.steps.StepPlaces.insert.Goals as goal

pub loop-i-preserved : goal.loop-i-preserved
loop-i-preserved c =
    walked_next (also c.args.row.now c.args.number) c.args.self.now.indexes.items c.loop-i.i c.loop-i.self.indexes.items c.loop-i.invariant
    c.index_mut.result.now c.insert.new.self c.index_mut.ensures.value (omega (arith, c.loop-i-test.true, c.len-i-end.ensures)) c.in-Ok.ensures.ok
    c.insert.ensures.kind

pub returns-clause-ok : goal.returns-clause-ok
returns-clause-ok c =
    walked_all (also c.args.row.now c.args.number) c.args.self.now.indexes.items c.loop-i.i c.loop-i.self.indexes.items c.loop-i.invariant
    (omega (arith, c.loop-i-test.false, c.len-i-end.ensures))

pub returns-in-Err-clause-err : goal.returns-in-Err-clause-err
returns-in-Err-clause-err c =
    taken_back c.args.row.now c.args.number c.args.self.now.indexes.items (slice_set c.loop-i.self.indexes.items c.loop-i.i c.insert.new.self)
    c.remove.new.self.indexes.items c.loop-i.i
    (walked_stay (also c.args.row.now c.args.number) c.args.self.now.indexes.items c.loop-i.i c.loop-i.self.indexes.items c.loop-i.invariant
    c.index_mut.result.now c.insert.new.self c.index_mut.ensures.value (omega (arith, c.loop-i-test.true, c.len-i-end.ensures)) c.in-Err.ensures.err
    c.insert.ensures.kind)
    c.remove.ensures.less

pub returns-in-Err-clause-kinds : goal.returns-in-Err-clause-kinds
returns-in-Err-clause-kinds c =
    same_kinds_after c.args.row.now c.args.number c.args.self.now.indexes.items (slice_set c.loop-i.self.indexes.items c.loop-i.i c.insert.new.self)
    c.remove.new.self.indexes.items
    (walked_stay (also c.args.row.now c.args.number) c.args.self.now.indexes.items c.loop-i.i c.loop-i.self.indexes.items c.loop-i.invariant
    c.index_mut.result.now c.insert.new.self c.index_mut.ensures.value (omega (arith, c.loop-i-test.true, c.len-i-end.ensures)) c.in-Err.ensures.err
    c.insert.ensures.kind).kinds
    c.remove.ensures.kinds
