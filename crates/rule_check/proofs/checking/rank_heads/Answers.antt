use Rattle.std.proofs.Common.{◌∙◌}
use Rattle.rule_check.specs.Gathered.{rules_at}
use Rattle.rule_check.proofs.Verdicts.{graph_nodes, few_nodes, cycle_somewhere, name_ranks}
use Rattle.rule_check.proofs.checking.rank_heads.Goals as goal

pub ranks_of-requires-clause-graph : goal.ranks_of-requires-clause-graph
ranks_of-requires-clause-graph c =
    graph_nodes (rules_at c.args.rules.now) c.args.heads.now c.requires.heads c.deref.result.now (c.deref.ensures.value ∙ c.in_ok-graph.ensures)

pub ranks_of-requires-clause-few : goal.ranks_of-requires-clause-few
ranks_of-requires-clause-few c =
    few_nodes (rules_at c.args.rules.now) c.args.heads.now c.requires.heads c.deref.result.now (c.deref.ensures.value ∙ c.in_ok-graph.ensures) c.requires.shaped.few

pub returns-in-Some-clause-ranks : goal.returns-in-Some-clause-ranks
returns-in-Some-clause-ranks c =
    name_ranks (rules_at c.args.rules.now) c.args.heads.now c.requires.heads c.deref.result.now (c.deref.ensures.value ∙ c.in_ok-graph.ensures) c.in-Some.ranks.items
    (rw c.in-Some.is at c.in_ok-ranks.ensures)

pub unreachable-requires : goal.unreachable-requires
unreachable-requires c =
    cycle_somewhere (rules_at c.args.rules.now) c.args.heads.now c.requires.heads c.deref.result.now (c.deref.ensures.value ∙ c.in_ok-graph.ensures)
    (rw c.in-None.is at c.in_ok-ranks.ensures) (rw c.in-None-2.is at c.in_ok-number-in-None.ensures)
