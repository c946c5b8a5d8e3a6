use Rattle.std.proofs.Common.{refl, ap, map}
use Rattle.rule_ast.specs.PlainPlans.{plain_step}
use Rattle.change_meaning.specs.Caps.{caps_in}
use Rattle.revision.specs.InHand.{told_in}
use Rattle.revision.specs.Working.{hand_of, shown_of, IsFit, HasDue, change_of, made_of, is_working, is_broken}
use Rattle.revision.proofs.WorkLaws.{stands_idle}
use Rattle.revision.proofs.work.Work.sweep.Goals as goal

pub returns-clause-holds : goal.returns-clause-holds
unfolding hand_of IsFit HasDue is_working is_broken
returns-clause-holds c = λ b E w. let done = c.sweep.ensures in record {
  holds = done.holds b E w.holds w.due;
  due = done.due b E w.holds w.due;
  fit = done.ready w.fit;
  resting = w.resting;
  unbroken = w.unbroken;
}

pub returns-clause-change : goal.returns-clause-change
unfolding change_of
returns-clause-change c = ap told_in c.sweep.ensures.rest

pub returns-clause-made : goal.returns-clause-made
unfolding made_of
returns-clause-made c = ap (λ p. p.made) c.sweep.ensures.rest

pub returns-clause-working : goal.returns-clause-working
unfolding is_working
returns-clause-working c = c.requires.resting

pub returns-clause-broken : goal.returns-clause-broken
unfolding is_broken
returns-clause-broken c = refl

pub returns-clause-plan : goal.returns-clause-plan
unfolding hand_of shown_of
returns-clause-plan c = record {
  steps = ap (λ p. map plain_step p.plan.steps.items) c.sweep.ensures.rest;
  caps = ap (λ p. caps_in p.caps) c.sweep.ensures.rest;
  shown = ap (λ p. p.plan.shown.items) c.sweep.ensures.rest;
}

pub invariant_of-self : goal.invariant_of-self
unfolding is_working
invariant_of-self c = record { stands = ∣ stands_idle c.args.self.now.state c.sweep.new.self c.requires.resting ∣₁ }
