use Rattle.std.proofs.Common.{arith}
use Rattle.goal_store.proofs.Building.{added}
use Rattle.goal_store.proofs.built.place_index.Goals as goal

pub returns-then-step-len : goal.returns-then-step-len
returns-then-step-len c =
    added c.add.result c.args.steps.now.items c.args.index c.index_mut.result.now c.add.new.self c.new.result
    (omega (arith, c.if-step-len.true, c.len.ensures)) c.index_mut.ensures.value c.add.ensures.at c.add.ensures.ok c.new.ensures.kind c.new.ensures.listed
