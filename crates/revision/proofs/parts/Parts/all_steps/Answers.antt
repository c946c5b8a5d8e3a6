use mathlib.Core.Logic.{∥∥₁_map}
use Rattle.std.proofs.Common.{◌<◌, ◌≤◌, length, inr, arith}
use Rattle.revision.proofs.EndLaws.{falls, further_on, stays_on, all_done}
use Rattle.revision.proofs.TurnLaws.{turned_on, turned_more}
use Rattle.revision.proofs.parts.Parts.all_steps.Goals as goal

pub one_step-requires-clause-course : goal.one_step-requires-clause-course
one_step-requires-clause-course c = ∥∥₁_map c.requires (λ p. let i = c.loop-self.invariant.on p.0 p.1 p.2 in (p.0, i.0, i.1))

pub returns-in-None-clause-turned : goal.returns-in-None-clause-turned
returns-in-None-clause-turned c = λ k left g.
    let i = c.loop-self.invariant.on k left g in
    let t = rw c.in-None.is at (c.in_ok-one_step.ensures.turn k i.0 i.1) in
    (t.0, t.1, turned_on i.0 c.loop-self.units left c.args.units t.0 i.2 t.2, t.3)

pub returns-in-None-clause-less : goal.returns-in-None-clause-less
returns-in-None-clause-less c =
    let me = c.loop-self.self in
    let n : me.finished < length me.plan.steps.items = omega (arith, c.loop-self-test.true, c.len.ensures, me.plan.steps.ok.0) in
    falls c.args.self.now me c.one_step.new.self c.loop-self.units c.args.units c.loop-self.invariant.ahead c.loop-self.invariant.stays
    (rw c.in-None.is at c.in_ok-one_step.ensures.further) n

pub loop-self-preserved : goal.loop-self-preserved
loop-self-preserved c =
    let f = rw c.in-Some.is at c.in_ok-one_step.ensures.further in
    record {
      on = λ k left g.
          (let i = c.loop-self.invariant.on k left g in
          let t = rw c.in-Some.is at (c.in_ok-one_step.ensures.turn k i.0 i.1) in
          (t.0, t.1, turned_more i.0 c.loop-self.units left c.args.units t.0 c.in-Some.rest i.2 t.2));
      stays = stays_on c.args.self.now c.loop-self.self c.one_step.new.self c.loop-self.invariant.stays c.one_step.ensures.stays;
      ahead = inr (further_on c.args.self.now c.loop-self.self c.one_step.new.self c.loop-self.units c.args.units
          c.loop-self.invariant.ahead f.1);
    }

pub returns-clause-turned : goal.returns-clause-turned
returns-clause-turned c = λ k left g.
    let me = c.loop-self.self in
    let i = c.loop-self.invariant.on k left g in
    let le : length me.plan.steps.items ≤ me.finished = omega (arith, c.loop-self-test.false, c.len.ensures, me.plan.steps.ok.0) in
    all_done me k i.0 left c.args.units c.loop-self.units i.1 i.2 le
