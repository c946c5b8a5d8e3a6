use Rattle.std.proofs.Common.{◌+◌, ◌*◌, length}
use Rattle.rule_grammar.specs.Values.{round_value, chain_value, tree_value}
use Rattle.rule_parser.specs.Steps.{counted, Read, boxed_pattern, round_level, chain_level, tree_level}
use Rattle.rule_parser.proofs.patterns.+patterns.Given as goal

abbrev pub decreases-without_at : goal.decreases-without_at
decreases-without_at l = 8 * length l.tokens.now + 0

abbrev pub decreases-bracketed_at : goal.decreases-bracketed_at
decreases-bracketed_at l = 8 * length l.tokens.now + 0

abbrev pub decreases-round_at : goal.decreases-round_at
decreases-round_at l = 8 * length l.tokens.now + 1

abbrev pub decreases-part_at : goal.decreases-part_at
decreases-part_at l = 8 * length l.tokens.now + 2

abbrev pub decreases-chain_at : goal.decreases-chain_at
decreases-chain_at l = 8 * length l.tokens.now + 3

abbrev pub decreases-pattern_at : goal.decreases-pattern_at
decreases-pattern_at l = 8 * length l.tokens.now + 4

abbrev pub invariant-round_at-loop-bound : goal.invariant-round_at-loop-bound
invariant-round_at-loop-bound l = Read round_level round_value l.tokens l.depth (counted l.fn.ledger) (counted l.ledger) (boxed_pattern l.left) l.rest

abbrev pub decreases-round_at-loop-bound : goal.decreases-round_at-loop-bound
decreases-round_at-loop-bound l = length l.rest

abbrev pub invariant-chain_at-loop-joint : goal.invariant-chain_at-loop-joint
invariant-chain_at-loop-joint l = Read chain_level chain_value l.tokens l.depth (counted l.fn.ledger) (counted l.ledger) (boxed_pattern l.left) l.rest

abbrev pub decreases-chain_at-loop-joint : goal.decreases-chain_at-loop-joint
decreases-chain_at-loop-joint l = length l.rest

abbrev pub invariant-pattern_at-loop-more : goal.invariant-pattern_at-loop-more
invariant-pattern_at-loop-more l = Read tree_level tree_value l.tokens l.depth (counted l.fn.ledger) (counted l.ledger) (boxed_pattern l.left) l.rest

abbrev pub decreases-pattern_at-loop-more : goal.decreases-pattern_at-loop-more
decreases-pattern_at-loop-more l = length l.rest
