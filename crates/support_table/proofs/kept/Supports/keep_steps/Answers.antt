use Rattle.std.proofs.Common.{◌∙◌}
use Rattle.support_table.proofs.Asking.{steps_more, steps_end}
use Rattle.support_table.proofs.kept.Supports.keep_steps.Goals as goal

pub loop-step-preserved : goal.loop-step-preserved
loop-step-preserved g c = record {
  rows = λ m. c.keep_at.ensures.rows m ∙ c.loop-step.invariant.rows m;
  kept = λ row held.
      let now = c.loop-step.invariant.rows c.args.number ∙ held in
      steps_more g.F.Fn c.args.keep.now c.loop-step.last row c.args.self.now c.loop-step.self
      (c.loop-step.invariant.kept row held) c.args.number now
      c.in-Some.step c.keep_at.new.self c.in-Some.ensures (c.keep_at.ensures.kept row now) (c.keep_at.ensures.others row now);
}

pub returns-clause-kept : goal.returns-clause-kept
returns-clause-kept g c = λ row held.
    steps_end g.F.Fn c.args.keep.now c.loop-step.last row c.args.self.now c.loop-step.self (c.loop-step.invariant.kept row held)
    c.args.number (c.loop-step.invariant.rows c.args.number ∙ held) c.in_default.ensures

pub returns-clause-others : goal.returns-clause-others
returns-clause-others g c = λ row held. (c.loop-step.invariant.kept row held).others
