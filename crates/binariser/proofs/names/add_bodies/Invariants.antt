use Rattle.std.proofs.Common.{map, take}
use Rattle.rule_ast.specs.Plain.{plain_rule}
use Rattle.binariser.specs.Needed.{IsGrown, bodies_names}
use Rattle.binariser.proofs.names.add_bodies.Given as goal

abbrev pub invariant-loop-rule : goal.invariant-loop-rule
invariant-loop-rule l =
    IsGrown l.fn.needed.keys (bodies_names (map (λ r. plain_rule r.now) (take l.rule-index l.rules))) l.needed.keys
