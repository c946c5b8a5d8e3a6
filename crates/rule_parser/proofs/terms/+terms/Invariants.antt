use Rattle.std.proofs.Common.{◌+◌, ◌*◌, length}
use Rattle.rule_parser.specs.Steps.{counted, Read, terms_level, terms_of}
use Rattle.rule_parser.proofs.terms.+terms.Given as goal

abbrev pub decreases-term_at : goal.decreases-term_at
decreases-term_at l = 2 * length l.tokens.now

abbrev pub decreases-named_at : goal.decreases-named_at
decreases-named_at l = 2 * length l.rest.now + 1

abbrev pub decreases-arguments_at : goal.decreases-arguments_at
decreases-arguments_at l = 2 * length l.tokens.now + 1

abbrev pub invariant-arguments_at-loop-more : goal.invariant-arguments_at-loop-more
invariant-arguments_at-loop-more l = Read (terms_level l.kind) (terms_of l.kind) l.tokens l.level (counted l.fn.ledger) (counted l.ledger) l.args.items l.rest

abbrev pub decreases-arguments_at-loop-more : goal.decreases-arguments_at-loop-more
decreases-arguments_at-loop-more l = length l.rest
