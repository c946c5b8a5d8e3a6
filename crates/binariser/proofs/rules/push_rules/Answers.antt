use Rattle.std.proofs.lemmas.Result.{err_from_is_err_and}
use Rattle.rule_ast.specs.Plain.{plain_rule}
use Rattle.binariser.specs.Making.{place_in}
use Rattle.binariser.proofs.RuleLaws.{fewer_added, rule_fewer}
use Rattle.binariser.proofs.rules.push_rules.Goals as goal

pub returns-in_err-push_rule : goal.returns-in_err-push_rule
returns-in_err-push_rule c =
    let p = err_from_is_err_and c.from_residual.result c.from_residual.ensures.1 in
    rw (p.1, p.2)
    (fewer_added (Unit {0}) _ _ _ _ _ _ _
    (rule_fewer (place_in c.args.places.now) (λ r. plain_rule r.now) c.args.rules.now c.loop-rule.rule-index c.rule-item.result
    c.loop-rule-test.true c.rule-item.is _ _ _ c.loop-rule.invariant.0)
    c.in_err-push_rule.ensures)
