use Rattle.std.proofs.Common.{refl}
use Rattle.event_model.specs.Presence.{settled, present}
use Rattle.step_meaning.specs.PlanOf.{plan_indexes}
use Rattle.etalis_core.specs.StandsFor.{horizon}
use Rattle.etalis_core.specs.Apart.{rules_apart}
use Rattle.etalis_core.proofs.EngineLaws.{work_over}
use Rattle.etalis_core.proofs.engine.Engine.over.Goals as goal

pub over-requires : goal.over-requires
over-requires c =
    let h = c.requires.0 in (horizon c.args.parts.late h, present (settled h), c.requires.1.holds)

pub returns-clause-stands : goal.returns-clause-stands
returns-clause-stands c = λ h s.
    let parts = c.args.parts in
    let done = c.in_ok-work.ensures in
    let holds = done.holds (horizon parts.late h) (present (settled h)) s.holds in
    record {
      accepted = s.accepted;
      spans = s.spans;
      ledger = c.over-2.ensures parts.late h s.outside s.bound s.copies;
      plan = work_over c.in_ok-work.work parts.work (rules_apart parts) s.plan
          (λ i. record { steps = done.steps i; indexes = plan_indexes (done.steps i); shown = done.shown i }) done.caps;
      holds = holds;
      not_working = holds.resting;
      not_spent = refl;
    }

pub returns-clause-resting : goal.returns-clause-resting
returns-clause-resting c =
    let h = c.requires.0 in
    (c.in_ok-work.ensures.holds (horizon c.args.parts.late h) (present (settled h)) c.requires.1.holds).resting
