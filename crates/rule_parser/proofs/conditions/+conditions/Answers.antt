use Rattle.std.proofs.Common.{refl, arith}
use Rattle.rule_ast.specs.Plain.{plain_cond}
use Rattle.rule_parser.specs.Steps.{counted}
use Rattle.rule_parser.specs.Signs.{adding_of, scaling_of}
use Rattle.rule_parser.proofs.CondRuns.{unit_grouped, product_one, product_more, sum_one, sum_more, comparison_one, comparison_two, negation_compared_answer, negation_more, all_one, all_more, condition_one, condition_more}
use Rattle.rule_parser.proofs.conditions.+conditions.Goals as goal

pub all_at-loop-more-init : goal.all_at-loop-more-init
all_at-loop-more-init t c = all_one c.in_ok-left.ensures

pub all_at-loop-more-preserved : goal.all_at-loop-more-preserved
all_at-loop-more-preserved t c =
    rw (c.in_ok-new.ensures.ok, c.in_ok-new-2.ensures.ok)
    (all_more c.loop-more.invariant c.in-Some.ensures c.in_ok-add_part.ensures.ok c.in_ok-add_part.ensures.fine c.in_ok-right.ensures refl)

pub comparison_at-returns-in_default : goal.comparison_at-returns-in_default
comparison_at-returns-in_default t c = comparison_one c.in_ok-left.ensures.0 c.in_ok-left.ensures.1 c.in_default.ensures

pub comparison_at-returns : goal.comparison_at-returns
comparison_at-returns t c =
    rw (c.in_ok-new.ensures.ok, c.in_ok-new-2.ensures.ok)
    (comparison_two c.in_ok-left.ensures.0 c.in-Some.ensures c.in_ok-add_part.ensures.ok c.in_ok-add_part.ensures.fine c.in_ok-right.ensures.0 c.in_ok-right.ensures.1 refl)

pub condition_at-loop-more-init : goal.condition_at-loop-more-init
condition_at-loop-more-init t c = condition_one c.in_ok-left.ensures.0 c.in_ok-left.ensures.1

pub condition_at-loop-more-preserved : goal.condition_at-loop-more-preserved
condition_at-loop-more-preserved t c =
    rw (c.in_ok-new.ensures.ok, c.in_ok-new-2.ensures.ok)
    (condition_more c.loop-more.invariant c.in-Some.ensures c.in_ok-add_part.ensures.ok c.in_ok-add_part.ensures.fine c.in_ok-right.ensures.0 c.in_ok-right.ensures.1 refl)

pub negation_at-returns-in_default : goal.negation_at-returns-in_default
negation_at-returns-in_default t c = negation_compared_answer plain_cond c.args.tokens.now c.args.depth (counted c.args.ledger.now) (counted c.comparison_at.new.ledger) _ c.in_default.ensures c.comparison_at.ensures

pub negation_at-returns : goal.negation_at-returns
negation_at-returns t c =
    rw c.in_ok-new.ensures.ok (negation_more c.in-Some.ensures c.in_ok-add_part.ensures.ok c.in_ok-add_part.ensures.fine c.in_ok-inner.ensures refl)

pub product_at-loop-op-init : goal.product_at-loop-op-init
product_at-loop-op-init t c = product_one c.in_ok-left.ensures

pub product_at-loop-op-preserved : goal.product_at-loop-op-preserved
product_at-loop-op-preserved t c =
    rw (c.in_ok-new.ensures.ok, c.in_ok-new-2.ensures.ok, c.calc.ensures)
    (product_more (scaling_of c.in-Some.op) c.loop-op.invariant c.in-Some.ensures c.in_ok-add_part.ensures.ok c.in_ok-add_part.ensures.fine c.in_ok-right.ensures refl)

pub sum_at-loop-op-init : goal.sum_at-loop-op-init
sum_at-loop-op-init t c = sum_one c.in_ok-left.ensures.0 c.in_ok-left.ensures.1

pub sum_at-loop-op-preserved : goal.sum_at-loop-op-preserved
sum_at-loop-op-preserved t c =
    rw (c.in_ok-new.ensures.ok, c.in_ok-new-2.ensures.ok, c.calc.ensures)
    (sum_more (adding_of c.in-Some.op) c.loop-op.invariant c.in-Some.ensures c.in_ok-add_part.ensures.ok c.in_ok-add_part.ensures.fine c.in_ok-right.ensures.0 c.in_ok-right.ensures.1 refl)

pub unit_at-returns-in_default : goal.unit_at-returns-in_default
unit_at-returns-in_default t c = c.operand_at.ensures c.args.depth

pub unit_at-returns : goal.unit_at-returns
unit_at-returns t c =
    unit_grouped c.requires.fine (let h = c.if-depth-ge-MOST_BRACKETS.false in omega arith) c.in-Some.ensures c.in_ok-inner.ensures.0 c.in_ok-rest.ensures.ok
