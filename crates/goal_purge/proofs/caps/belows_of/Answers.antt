use Rattle.std.proofs.Common.{◌<◌, ◌≤◌, length, arith, ap, ◌∙◌}
use Rattle.goal_purge.proofs.Laws.{operands_under}
use Rattle.goal_purge.proofs.caps.belows_of.Goals as goal

pub below_of-below-requires : goal.below_of-below-requires
below_of-below-requires c =
    let l : c.loop-step.step-index < length c.args.steps.now = omega (arith, c.loop-step-test.true) in
    let size = ap length c.deref.ensures.value ∙ c.loop-step.invariant.size in
    let le : c.loop-step.step-index ≤ length c.deref.result.now = omega (arith, size) in
    operands_under c.args.steps.now c.step-item.result c.loop-step.step-index (length c.deref.result.now) c.requires l
    c.step-item.is le
