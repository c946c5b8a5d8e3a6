use Rattle.std.proofs.Common.{refl, ap, sym, ◌∙◌, subst}
use Rattle.event_model.specs.Presence.{NoInput}
use Rattle.rule_ast.specs.Plain.{plain_rules}
use Rattle.step_meaning.specs.PlanOf.{plan_indexes}
use Rattle.change_meaning.specs.Keys.{IsWorkable}
use Rattle.change_meaning.proofs.PlanKeys.{plan_workable}
use Rattle.etalis_core.proofs.engine.Engine.new.Goals as goal

pub new-requires-clause-workable : goal.new-requires-clause-workable
new-requires-clause-workable c =
    let rules = c.rules-rules.ensures in
    subst IsWorkable (sym (ap (λ p. p.steps) c.in-Ok.ensures.0)) (plan_workable (plain_rules c.args.checked) rules.shaped rules.sound rules.ranking)

pub returns-clause-stands : goal.returns-clause-stands
returns-clause-stands c =
    let e = c.in-Ok.ensures.0 in
    let w = c.in_ok-work.ensures in
    record {
      accepted = NoInput;
      spans = tt;
      ledger = c.new-2.ensures c.args.late;
      plan = record {
        ranking = c.rules-rules.ensures.ranking;
        plan = (λ i. record { steps = w.steps i; indexes = plan_indexes (w.steps i); shown = w.shown i })
            ∙ (λ i. record { steps = (e i).steps; indexes = plan_indexes (e i).steps; shown = (e i).shown });
        caps = (c.in_ok-caps.caps, w.caps, c.in_ok-caps.ensures);
      };
      holds = w.holds 0;
      not_working = (w.holds 0).resting;
      not_spent = refl;
    }

pub returns-clause-resting : goal.returns-clause-resting
returns-clause-resting c = (c.in_ok-work.ensures.holds 0).resting
