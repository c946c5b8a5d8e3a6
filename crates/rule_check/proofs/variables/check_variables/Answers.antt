use Rattle.std.proofs.Common.{arith}
use Rattle.std.proofs.lemmas.Result.{err_from_is_err_and}
use Rattle.rule_check.proofs.CleanRules.{few_before, one_more, rule_shaped, rule_among, verdict_at, clean_more}
use Rattle.rule_check.proofs.variables.check_variables.Goals as goal

pub overflow_add-number : goal.overflow_add-number
overflow_add-number c = let few = few_before c.args.rules.now c.loop-rule.rule-index c.loop-rule-test.true c.requires in let counted = c.loop-rule.invariant.counted in omega (arith, few, counted)

pub check_rule-requires : goal.check_rule-requires
check_rule-requires c = rule_shaped c.args.rules.now c.loop-rule.rule-index c.rule-item.result c.loop-rule-test.true c.rule-item.is c.requires

pub loop-rule-preserved : goal.loop-rule-preserved
loop-rule-preserved c =
    clean_more _ _ _ _ (one_more c.args.rules.now c.loop-rule.rule-index c.rule-item.result c.loop-rule-test.true c.rule-item.is) c.loop-rule.invariant c.in_ok-check_rule.ensures

pub returns-in_err-check_rule : goal.returns-in_err-check_rule
returns-in_err-check_rule c =
    let p = err_from_is_err_and c.from_residual.result c.from_residual.ensures.1 in
    rw p.1 (rw p.2 (verdict_at _ _ _ _ _ _ (rule_among c.args.rules.now c.loop-rule.rule-index c.rule-item.result c.loop-rule-test.true c.rule-item.is) c.loop-rule.invariant c.in_err-check_rule.ensures))
