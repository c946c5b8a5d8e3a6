use Rattle.std.proofs.Common.{sym, subst}
use Rattle.rule_ast.specs.Plain.{plain_rule}
use Rattle.binariser.specs.Needed.{IsGrown}
use Rattle.binariser.proofs.NeededLaws.{grown_then, one_body, short_body}
use Rattle.binariser.proofs.names.add_bodies.Goals as goal

pub add_body-requires : goal.add_body-requires
add_body-requires c =
    short_body (λ r. plain_rule r.now) c.args.rules.now c.loop-rule.rule-index c.rule-item.result c.loop-rule-test.true c.rule-item.is
    c.requires

pub loop-rule-preserved : goal.loop-rule-preserved
loop-rule-preserved c =
    subst (λ xs. IsGrown c.args.needed.now.keys xs c.add_body.new.needed.keys)
    (sym (one_body (λ r. plain_rule r.now) c.args.rules.now c.loop-rule.rule-index c.rule-item.result c.loop-rule-test.true
    c.rule-item.is))
    (grown_then _ _ _ _ _ c.loop-rule.invariant c.in_ok-add_body.ensures)
