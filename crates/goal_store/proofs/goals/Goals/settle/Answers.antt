use Rattle.std.proofs.Common.{◌∙◌, sym}
use Rattle.goal_store.proofs.Changing.{settled_end}
use Rattle.goal_store.proofs.goals.Goals.settle.Goals as goal

pub returns-clause-marks : goal.returns-clause-marks
returns-clause-marks c s r =
    sym (settled_end c.loop-changed.self c.loop-changed.invariant.good (c.in_default.ensures.cases).0 s r) ∙ c.loop-changed.invariant.marks s r
