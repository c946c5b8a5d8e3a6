use Rattle.std.proofs.Common.{◌∙◌, ap, sym}
use Rattle.rule_ast.specs.Plain.{plain_rule}
use Rattle.rule_check.specs.Cycles.{graph_of}
use Rattle.rule_check.specs.Gathered.{rules_at}
use Rattle.rule_check.proofs.CleanRules.{one_more, rule_among}
use Rattle.rule_check.proofs.NameGraph.{graph_step}
use Rattle.rule_check.proofs.Numbering.{heads_are_narrow, heads_distinct, head_among}
use Rattle.rule_check.proofs.dependencies.graph_of.Goals as goal

pub add_rule-requires-clause-narrow : goal.add_rule-requires-clause-narrow
add_rule-requires-clause-narrow c = heads_are_narrow (rules_at c.args.rules.now) c.args.heads.now c.requires.heads c.requires.shaped

pub add_rule-requires-clause-known : goal.add_rule-requires-clause-known
add_rule-requires-clause-known c =
    head_among (rules_at c.args.rules.now) c.args.heads.now c.requires.heads _ _ (plain_rule c.rule-item.result.now)
    (rule_among c.args.rules.now c.loop-rule.rule-index c.rule-item.result c.loop-rule-test.true c.rule-item.is)

pub loop-rule-preserved : goal.loop-rule-preserved
loop-rule-preserved c =
    let known =
    head_among (rules_at c.args.rules.now) c.args.heads.now c.requires.heads _ _ (plain_rule c.rule-item.result.now)
    (rule_among c.args.rules.now c.loop-rule.rule-index c.rule-item.result c.loop-rule-test.true c.rule-item.is) in
    graph_step c.args.heads.now _ (plain_rule c.rule-item.result.now) _ _ (heads_distinct (rules_at c.args.rules.now) c.args.heads.now c.requires.heads) known c.loop-rule.invariant c.in_ok-add_rule.ensures
    ∙ ap (graph_of c.args.heads.now) (sym (one_more c.args.rules.now c.loop-rule.rule-index c.rule-item.result c.loop-rule-test.true c.rule-item.is))
