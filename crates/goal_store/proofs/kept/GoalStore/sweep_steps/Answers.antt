use Rattle.std.proofs.Common.{◌∙◌}
use Rattle.goal_store.specs.Sweeping.{keeps_at}
use Rattle.goal_store.proofs.Swept.{steps_more, steps_end}
use Rattle.goal_store.proofs.kept.GoalStore.sweep_steps.Goals as goal

pub loop-step-preserved : goal.loop-step-preserved
loop-step-preserved c = record {
  plan = (
    c.sweep_at.ensures.plan.0 ∙ c.loop-step.invariant.plan.0,
    c.sweep_at.ensures.plan.1 ∙ c.loop-step.invariant.plan.1,
  );
  rows = λ m. c.sweep_at.ensures.rows m ∙ c.loop-step.invariant.rows m;
  marks = λ row held.
      let now = c.loop-step.invariant.rows c.args.number ∙ held in
      steps_more (keeps_at c.args.caps.now c.args.bound) c.loop-step.last row c.args.self.now c.loop-step.self
      (c.loop-step.invariant.marks row held) c.args.number now c.in-Some.step c.sweep_at.new.self c.in-Some.ensures
      (c.sweep_at.ensures.mark row now);
}

pub returns-clause-marks : goal.returns-clause-marks
returns-clause-marks c = λ row held.
    steps_end (keeps_at c.args.caps.now c.args.bound) c.loop-step.last row c.args.self.now c.loop-step.self
    (c.loop-step.invariant.marks row held) c.args.number (c.loop-step.invariant.rows c.args.number ∙ held) c.in_default.ensures

pub returns-clause-others : goal.returns-clause-others
returns-clause-others c = λ row held. (c.loop-step.invariant.marks row held).others
