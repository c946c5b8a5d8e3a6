use Rattle.std.proofs.Common.{arith, ap, length}
use Rattle.rule_ast.specs.Plain.{plain_rule}
use Rattle.rule_check.proofs.CleanRules.{rule_shaped, one_more}
use Rattle.rule_check.proofs.Numbering.{head_short, heads_more}
use Rattle.rule_check.proofs.numbers.heads_of.Goals as goal

pub overflow_cast-arity : goal.overflow_cast-arity
overflow_cast-arity c =
    let short = head_short (plain_rule c.rule-item.result.now) (rule_shaped c.args.rules.now c.loop-rule.rule-index c.rule-item.result c.loop-rule-test.true c.rule-item.is c.requires) in
    omega (arith, short, ap length c.as_slice.ensures)

pub loop-rule-preserved : goal.loop-rule-preserved
loop-rule-preserved c =
    rw c.in_ok-add.ensures.ok
    (heads_more _ _ (plain_rule c.rule-item.result.now) _ _ (one_more c.args.rules.now c.loop-rule.rule-index c.rule-item.result c.loop-rule-test.true c.rule-item.is) c.loop-rule.invariant
    (λ i. record { name = c.in_ok-name.ensures i; arity = length (c.as_slice.ensures i) }))
