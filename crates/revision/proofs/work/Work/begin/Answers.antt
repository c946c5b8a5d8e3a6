use mathlib.Core.Logic.{∥∥₁_map}
use Rattle.std.proofs.Common.{refl, ap, map}
use Rattle.rule_ast.specs.PlainPlans.{plain_step}
use Rattle.change_meaning.specs.Caps.{caps_in}
use Rattle.change_meaning.specs.Courses.{course_of}
use Rattle.revision.specs.Holding.{visits_to}
use Rattle.revision.specs.InHand.{steps_in}
use Rattle.revision.specs.Working.{hand_of, shown_of, IsFit, HasDue, change_of, made_of, is_working, is_broken}
use Rattle.revision.proofs.WorkLaws.{made_none}
use Rattle.revision.proofs.work.Work.begin.Goals as goal

pub returns-clause-works : goal.returns-clause-works
unfolding hand_of IsFit HasDue made_of is_working is_broken
returns-clause-works c = λ b E F can. let done = c.begin.ensures in record {
  works = done.works b E F can.can can.fit;
  due = done.due b E can.due;
  fit = done.ready can.fit;
  made = made_none c.args.self.now.parts c.begin.new.self done.plan done.caps b E F done.made;
  working = refl;
  unbroken = refl;
}

pub returns-clause-change : goal.returns-clause-change
unfolding change_of
returns-clause-change c = c.begin.ensures.told

pub returns-clause-plan : goal.returns-clause-plan
unfolding hand_of shown_of
returns-clause-plan c = record {
  steps = ap (λ p. map plain_step p.steps.items) c.begin.ensures.plan;
  caps = ap caps_in c.begin.ensures.caps;
  shown = ap (λ p. p.shown.items) c.begin.ensures.plan;
}

pub returns-clause-working : goal.returns-clause-working
unfolding is_working
returns-clause-working c = refl

pub returns-clause-unbroken : goal.returns-clause-unbroken
unfolding is_broken
returns-clause-unbroken c = refl

pub invariant_of-self : goal.invariant_of-self
unfolding hand_of IsFit
invariant_of-self c = record {
  stands = ∥∥₁_map c.requires (λ p.
      let old = c.args.self.now.parts in
      let new = c.begin.new.self in (
        course_of (steps_in new) (caps_in new.caps) p.0 p.1 p.2,
        visits_to (steps_in old) (caps_in old.caps) p.0 p.1 p.2,
        record {
          on = (c.begin.ensures.works p.0 p.1 p.2 p.3.can p.3.fit).course;
          ready = c.begin.ensures.ready p.3.fit;
        },
      ));
}
