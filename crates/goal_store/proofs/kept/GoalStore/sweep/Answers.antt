use Rattle.std.proofs.Common.{◌∙◌, arith}
use Rattle.goal_store.specs.Sweeping.{keeps_at}
use Rattle.goal_store.proofs.Swept.{below_more, below_all}
use Rattle.goal_store.proofs.kept.GoalStore.sweep.Goals as goal

pub loop-number-preserved : goal.loop-number-preserved
loop-number-preserved c = record {
  plan = (
    c.sweep_number.ensures.plan.0 ∙ c.loop-number.invariant.plan.0,
    c.sweep_number.ensures.plan.1 ∙ c.loop-number.invariant.plan.1,
  );
  swept = below_more (keeps_at c.args.caps.now c.args.bound) c.loop-number.number c.args.self.now c.loop-number.self c.sweep_number.new.self
      c.loop-number.invariant.swept c.sweep_number.ensures.marks c.sweep_number.ensures.others c.sweep_number.ensures.rows;
}

pub returns-clause-marks : goal.returns-clause-marks
returns-clause-marks c =
    below_all (keeps_at c.args.caps.now c.args.bound) c.loop-number.number c.args.self.now c.loop-number.self c.settle.new.self
    c.loop-number.invariant.swept
    (λ m le. c.numbers-number-end.ensures m (let past = c.loop-number-test.false in omega (arith, past, le)))
    c.requires.old c.settle.ensures.marks
