use Rattle.event_model.specs.Presence.{settled, present}
use Rattle.etalis_core.specs.StandsFor.{late_of, horizon}
use Rattle.etalis_core.proofs.EngineLaws.{parts_stand}
use Rattle.etalis_core.proofs.engine.Engine.apart.Goals as goal

pub apart-requires-clause-resting : goal.apart-requires-clause-resting
apart-requires-clause-resting c = c.requires.1.holds.resting

pub apart-requires-clause-unbroken : goal.apart-requires-clause-unbroken
apart-requires-clause-unbroken c = c.requires.1.holds.unbroken

pub returns-clause-stands : goal.returns-clause-stands
returns-clause-stands c = λ h s.
    let engine = c.args.self in
    let kept = c.apart-bound in
    let done = c.apart.ensures in
    parts_stand engine c.requires.0 h c.requires.1 c.requires.2 s kept.result.0 kept.ensures.bound kept.result.1 kept.ensures.copies
    c.apart.result done.plan done.caps (done.holds (horizon (late_of engine) h) (present (settled h)) s.holds)

pub returns-clause-parts : goal.returns-clause-parts
returns-clause-parts c = λ i. record {
  checked = c.args.self.rules;
  late = c.args.self.late;
  bound = c.apart-bound.ensures.bound i;
  copies = c.apart-bound.ensures.copies i;
  work = c.apart.ensures.parts i;
}
