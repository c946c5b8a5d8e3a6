use Rattle.std.proofs.Common.{length}
use Rattle.rule_grammar.specs.Values.{head_terms_value}
use Rattle.rule_parser.specs.Steps.{counted, Read, head_terms_level}
use Rattle.rule_parser.proofs.heads.terms_at.Given as goal

abbrev pub invariant-loop-more : goal.invariant-loop-more
invariant-loop-more l = Read head_terms_level head_terms_value l.tokens 0 (counted l.fn.ledger) (counted l.ledger) l.args.items l.rest

abbrev pub decreases-loop-more : goal.decreases-loop-more
decreases-loop-more l = length l.rest
