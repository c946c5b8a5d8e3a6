use Rattle.std.proofs.Common.{refl, ap, map}
use Rattle.rule_ast.specs.PlainPlans.{plain_step}
use Rattle.change_meaning.specs.Caps.{caps_in}
use Rattle.revision.specs.Apart.{parts_of}
use Rattle.revision.specs.Working.{hand_of, shown_of, IsFit, HasDue, change_of, made_of, is_working, is_broken}
use Rattle.revision.proofs.work.Work.over.Goals as goal

pub returns-clause-holds : goal.returns-clause-holds
unfolding hand_of IsFit HasDue is_working is_broken
returns-clause-holds c = λ b E h. record {
  holds = c.in_ok-parts.ensures.holds b E h;
  due = c.in_ok-parts.ensures.due b E h;
  fit = c.in_ok-parts.ensures.ready;
  resting = refl;
  unbroken = refl;
}

pub returns-clause-parts : goal.returns-clause-parts
unfolding parts_of
returns-clause-parts c = c.in_ok-parts.ensures.kept

pub returns-clause-steps : goal.returns-clause-steps
unfolding hand_of
returns-clause-steps c = ap (λ p. map plain_step p.plan.steps.items) c.in_ok-parts.ensures.kept

pub returns-clause-caps : goal.returns-clause-caps
unfolding hand_of
returns-clause-caps c = ap (λ p. caps_in p.caps) c.in_ok-parts.ensures.kept

pub returns-clause-shown : goal.returns-clause-shown
unfolding shown_of
returns-clause-shown c = ap (λ p. p.plan.shown.items) c.in_ok-parts.ensures.kept

pub returns-clause-change : goal.returns-clause-change
unfolding change_of
returns-clause-change c = c.in_ok-parts.ensures.told

pub returns-clause-made : goal.returns-clause-made
unfolding made_of
returns-clause-made c = c.in_ok-parts.ensures.made
