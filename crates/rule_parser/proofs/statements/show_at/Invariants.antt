use Rattle.std.proofs.Common.{length}
use Rattle.rule_parser.specs.Steps.{ItemsRead}
use Rattle.rule_parser.proofs.statements.show_at.Given as goal

abbrev pub invariant-loop-more : goal.invariant-loop-more
invariant-loop-more l = ItemsRead l.tokens l.names.items l.rest

abbrev pub decreases-loop-more : goal.decreases-loop-more
decreases-loop-more l = length l.rest
