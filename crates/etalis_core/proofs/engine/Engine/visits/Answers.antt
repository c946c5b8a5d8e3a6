use Rattle.std.proofs.Common.{◌-◌, ap, ◌∙◌}
use Rattle.event_model.specs.Presence.{settled, all_inputs, extended, present}
use Rattle.revision.specs.Holding.{counted}
use Rattle.etalis_core.specs.StandsFor.{rules_of, late_of, horizon}
use Rattle.etalis_core.proofs.EngineLaws.{same_visits}
use Rattle.etalis_core.proofs.engine.Engine.visits.Goals as goal

pub returns-clause-works : goal.returns-clause-works
returns-clause-works c = λ h input left w.
    c.visits_made.ensures ∙ w.goes.made
    ∙ ap (λ n. counted (n - left)) (same_visits c.args.self.now.work (rules_of c.args.self.now) w.plan (horizon (late_of c.args.self.now) h) (present (settled h)) (present (all_inputs (extended h input))))
