use Rattle.std.proofs.Common.{arith, length, ◌∙◌, ap, sym, subst}
use Rattle.std.proofs.lemmas.Bool.{both_ways}
use Rattle.rule_ast.specs.Plain.{plain_rule}
use Rattle.rule_check.specs.Gathered.{rules_at}
use Rattle.rule_check.specs.Graphs.{IsGraph}
use Rattle.rule_check.proofs.CleanRules.{few_before, one_more, rule_among}
use Rattle.rule_check.proofs.NameGraph.{graph_is, graph_length}
use Rattle.rule_check.proofs.Numbering.{heads_are_narrow, heads_have, head_among}
use Rattle.rule_check.proofs.Cycling.{cycle_at, one_off}
use Rattle.rule_check.proofs.dependencies.first_cycle.Goals as goal

pub overflow_add-number : goal.overflow_add-number
overflow_add-number c = let few = few_before c.args.rules.now c.loop-rule.rule-index c.loop-rule-test.true c.requires.shaped in let counted = c.loop-rule.invariant.counted in omega (arith, few, counted)

pub is_on_cycle-requires-clause-narrow : goal.is_on_cycle-requires-clause-narrow
is_on_cycle-requires-clause-narrow c = heads_are_narrow (rules_at c.args.rules.now) c.args.heads.now c.requires.heads c.requires.shaped

pub is_on_cycle-requires-clause-known : goal.is_on_cycle-requires-clause-known
is_on_cycle-requires-clause-known c =
    head_among (rules_at c.args.rules.now) c.args.heads.now c.requires.heads _ _ (plain_rule c.rule-item.result.now)
    (rule_among c.args.rules.now c.loop-rule.rule-index c.rule-item.result c.loop-rule-test.true c.rule-item.is)

pub is_on_cycle-requires-clause-graph : goal.is_on_cycle-requires-clause-graph
is_on_cycle-requires-clause-graph c = subst IsGraph (sym c.requires.graph) (graph_is c.args.heads.now (rules_at c.args.rules.now))

pub is_on_cycle-requires-clause-sized : goal.is_on_cycle-requires-clause-sized
is_on_cycle-requires-clause-sized c = ap length c.requires.graph ∙ graph_length c.args.heads.now (rules_at c.args.rules.now)

pub returns-then-branch : goal.returns-then-branch
returns-then-branch c =
    cycle_at (rules_at c.args.rules.now) _ _ c.loop-rule.number (plain_rule c.rule-item.result.now)
    (rule_among c.args.rules.now c.loop-rule.rule-index c.rule-item.result c.loop-rule-test.true c.rule-item.is)
    c.loop-rule.invariant
    ((c.in_ok-is_on_cycle.ensures (rules_at c.args.rules.now) (heads_have (rules_at c.args.rules.now) c.args.heads.now c.requires.heads) c.requires.graph).0 c.if-branch.true)

pub loop-rule-preserved : goal.loop-rule-preserved
loop-rule-preserved c =
    let decides = c.in_ok-is_on_cycle.ensures (rules_at c.args.rules.now) (heads_have (rules_at c.args.rules.now) c.args.heads.now c.requires.heads) c.requires.graph in
    rw (one_more c.args.rules.now c.loop-rule.rule-index c.rule-item.result c.loop-rule-test.true c.rule-item.is)
    (one_off _ _ _ _ c.loop-rule.invariant (λ h. both_ways _ c.if-branch.false (decides.1 h)))
