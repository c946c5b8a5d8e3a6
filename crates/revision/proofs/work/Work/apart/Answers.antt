use Rattle.std.proofs.Common.{sym, ap, subst}
use Rattle.change_meaning.specs.Caps.{caps_in}
use Rattle.revision.specs.Apart.{parts_of, plan_apart, PartsHold}
use Rattle.revision.specs.Working.{hand_of, shown_of, IsFit}
use Rattle.revision.proofs.ApartLaws.{parts_hold}
use Rattle.revision.proofs.work.Work.apart.Goals as goal

pub returns-clause-holds : goal.returns-clause-holds
unfolding hand_of IsFit
returns-clause-holds c = λ b E w.
    subst (λ p. PartsHold p b E) (sym c.apart.ensures) (parts_hold c.args.self.parts b E w.holds w.fit)

pub returns-clause-parts : goal.returns-clause-parts
unfolding parts_of
returns-clause-parts c = c.apart.ensures

pub returns-clause-plan : goal.returns-clause-plan
unfolding hand_of shown_of
returns-clause-plan c = ap plan_apart c.apart.ensures

pub returns-clause-caps : goal.returns-clause-caps
unfolding hand_of
returns-clause-caps c = ap (λ p. caps_in p.caps) c.apart.ensures
