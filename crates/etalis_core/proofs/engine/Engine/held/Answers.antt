use Rattle.std.proofs.Common.{◌∙◌}
use Rattle.event_model.specs.Presence.{settled, present}
use Rattle.etalis_core.specs.StandsFor.{rules_of, late_of, horizon}
use Rattle.etalis_core.proofs.EngineLaws.{same_rows}
use Rattle.etalis_core.proofs.engine.Engine.held.Goals as goal

pub returns-clause-rows : goal.returns-clause-rows
returns-clause-rows c = λ h s.
    let b = horizon (late_of c.args.self.now) h in
    c.held_rows.ensures.held b (present (settled h)) s.holds
    ∙ same_rows c.args.self.now.work (rules_of c.args.self.now) s.plan b (present (settled h))

pub returns-clause-events : goal.returns-clause-events
returns-clause-events c = λ h s. c.held.ensures (late_of c.args.self.now) (settled h) h s.ledger
