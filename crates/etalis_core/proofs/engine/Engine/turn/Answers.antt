use Rattle.std.proofs.Common.{refl, ap, ◌∙◌, subst}
use Rattle.std.specs.Prelude.{max}
use Rattle.event_model.specs.Presence.{settled, all_inputs, extended, present}
use Rattle.revision.specs.Holding.{counted}
use Rattle.revision.specs.Working.{change_of, WorkHolds}
use Rattle.etalis_core.specs.StandsFor.{late_of, rules_of, horizon}
use Rattle.etalis_core.proofs.EngineLaws.{stands_done, same_plan, works_on, change_is, plan_stays, same_visits}
use Rattle.etalis_core.proofs.engine.Engine.turn.Goals as goal

pub returns-in-Done-clause-done : goal.returns-in-Done-clause-done
returns-in-Done-clause-done c = λ h input left w _.
    let t = rw c.in-Done.is at c.in_ok-progress.ensures.turned (horizon (late_of c.args.self.now) h) (present (settled h)) (present (all_inputs (extended h input))) left w.goes in
    stands_done c.args.self.now _ h input left w (same_plan c.args.self.now.work c.turn.new.self c.sweep.new.self c.turn.ensures.plan c.sweep.ensures.plan)
    (c.settle.ensures (late_of c.args.self.now) (settled h) (extended h input) w.ledger)
    (subst (λ b. WorkHolds c.sweep.new.self (max (horizon (late_of c.args.self.now) h) b) (present (all_inputs (extended h input)))) c.bound.ensures
    (c.sweep.ensures.holds (horizon (late_of c.args.self.now) h) (present (all_inputs (extended h input))) t.0)) refl refl refl

pub returns-in-Done-clause-change : goal.returns-in-Done-clause-change
returns-in-Done-clause-change c = λ h input left w _.
    change_is c.args.self.now h input left w (change_of c.sweep.new.self)
    (c.sweep.ensures.change ∙ c.in_ok-progress.ensures.change (horizon (late_of c.args.self.now) h) (present (settled h)) (present (all_inputs (extended h input))) left w.goes c.in-Done.is)

pub returns-in-Done-clause-enough : goal.returns-in-Done-clause-enough
returns-in-Done-clause-enough c = λ h input left w _.
    let t = rw c.in-Done.is at c.in_ok-progress.ensures.turned (horizon (late_of c.args.self.now) h) (present (settled h)) (present (all_inputs (extended h input))) left w.goes in t.1

pub returns-in-Done-clause-visits : goal.returns-in-Done-clause-visits
returns-in-Done-clause-visits c = λ h input left w _.
    let t = rw c.in-Done.is at c.in_ok-progress.ensures.turned (horizon (late_of c.args.self.now) h) (present (settled h)) (present (all_inputs (extended h input))) left w.goes in
    let plan = plan_stays c.args.self.now.work (rules_of c.args.self.now) w.plan c.turn.new.self c.turn.ensures.plan in
    c.sweep.ensures.made ∙ t.2 ∙ ap counted (same_visits c.turn.new.self (rules_of c.args.self.now) plan (horizon (late_of c.args.self.now) h) (present (settled h)) (present (all_inputs (extended h input))))

pub returns-in-More-clause-more : goal.returns-in-More-clause-more
returns-in-More-clause-more c = λ h input left w _.
    let t = rw c.in-More.is at c.in_ok-progress.ensures.turned (horizon (late_of c.args.self.now) h) (present (settled h)) (present (all_inputs (extended h input))) left w.goes in
    (t.0, works_on c.args.self.now _ h input left t.0 w c.turn.ensures.plan refl t.1 refl refl refl, t.2, t.3)
