use Rattle.std.proofs.Common.{map}
use Rattle.ordered_lists.specs.Lists.{total}
use Rattle.rule_ast.specs.Plain.{plain_pattern}
use Rattle.binariser.proofs.ClimbingLaws.{size}
use Rattle.binariser.proofs.NeededLaws.{OnWay}
use Rattle.binariser.proofs.names.add_body.Given as goal

abbrev pub invariant-loop-part : goal.invariant-loop-part
invariant-loop-part l = OnWay l.fn.needed.keys (plain_pattern l.body) l.needed.keys (map (λ p. plain_pattern p.now) l.parts.items)

abbrev pub decreases-loop-part : goal.decreases-loop-part
decreases-loop-part l = total size (map (λ p. plain_pattern p.now) l.parts.items)
