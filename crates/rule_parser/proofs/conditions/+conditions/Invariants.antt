use Rattle.std.proofs.Common.{◌+◌, ◌*◌, length}
use Rattle.rule_ast.specs.Plain.{plain_cond}
use Rattle.rule_grammar.specs.Values.{product_value, sum_value, all_value, condition_value}
use Rattle.rule_parser.specs.Steps.{counted, Read, product_level, sum_level, all_level, condition_level}
use Rattle.rule_parser.proofs.conditions.+conditions.Given as goal

abbrev pub decreases-unit_at : goal.decreases-unit_at
decreases-unit_at l = 8 * length l.tokens.now + 0

abbrev pub decreases-product_at : goal.decreases-product_at
decreases-product_at l = 8 * length l.tokens.now + 1

abbrev pub decreases-sum_at : goal.decreases-sum_at
decreases-sum_at l = 8 * length l.tokens.now + 2

abbrev pub decreases-comparison_at : goal.decreases-comparison_at
decreases-comparison_at l = 8 * length l.tokens.now + 3

abbrev pub decreases-negation_at : goal.decreases-negation_at
decreases-negation_at l = 8 * length l.tokens.now + 4

abbrev pub decreases-all_at : goal.decreases-all_at
decreases-all_at l = 8 * length l.tokens.now + 5

abbrev pub decreases-condition_at : goal.decreases-condition_at
decreases-condition_at l = 8 * length l.tokens.now + 6

abbrev pub invariant-product_at-loop-op : goal.invariant-product_at-loop-op
invariant-product_at-loop-op l = Read product_level product_value l.tokens l.depth (counted l.fn.ledger) (counted l.ledger) (plain_cond l.left) l.rest

abbrev pub decreases-product_at-loop-op : goal.decreases-product_at-loop-op
decreases-product_at-loop-op l = length l.rest

abbrev pub invariant-sum_at-loop-op : goal.invariant-sum_at-loop-op
invariant-sum_at-loop-op l = Read sum_level sum_value l.tokens l.depth (counted l.fn.ledger) (counted l.ledger) (plain_cond l.left) l.rest

abbrev pub decreases-sum_at-loop-op : goal.decreases-sum_at-loop-op
decreases-sum_at-loop-op l = length l.rest

abbrev pub invariant-all_at-loop-more : goal.invariant-all_at-loop-more
invariant-all_at-loop-more l = Read all_level all_value l.tokens l.depth (counted l.fn.ledger) (counted l.ledger) (plain_cond l.left) l.rest

abbrev pub decreases-all_at-loop-more : goal.decreases-all_at-loop-more
decreases-all_at-loop-more l = length l.rest

abbrev pub invariant-condition_at-loop-more : goal.invariant-condition_at-loop-more
invariant-condition_at-loop-more l = Read condition_level condition_value l.tokens l.depth (counted l.fn.ledger) (counted l.ledger) (plain_cond l.left) l.rest

abbrev pub decreases-condition_at-loop-more : goal.decreases-condition_at-loop-more
decreases-condition_at-loop-more l = length l.rest
