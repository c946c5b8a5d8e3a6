use Rattle.std.proofs.Common.{map}
use Rattle.rule_ast.specs.PlainPlans.{plain_step}
use Rattle.change_meaning.specs.Caps.{caps_in, kept_rows}
use Rattle.revision.proofs.SweepLaws.{rows_due}
use Rattle.revision.proofs.parts.Parts.over.Goals as goal

pub returns-clause-due : goal.returns-clause-due
returns-clause-due c = λ b E h.
    let kept = c.args.kept in
    rows_due kept.goals (kept_rows (map plain_step kept.plan.steps.items) (caps_in kept.caps) b E) h.rows.before h.rows.after
    (caps_in kept.caps) c.in_ok-expiries.expiries c.in_ok-expiries.ensures
