use Rattle.std.proofs.Common.{◌≡◌, ◌++◌, true, drop, map}
use Rattle.std.specs.List.{filter, list_all}
use Rattle.rule_ast.specs.Plain.{plain_rules, plain_statement}
use Rattle.rule_ast.specs.Shaped.{is_shaped_statement}
use Rattle.rule_check.specs.Sound.{rules_of}
use Rattle.rule_check.specs.Cycles.{rank_of}
use Rattle.rule_check.specs.Graphs.{greatest}
use Rattle.rule_check.specs.Names.{outputs}
use Rattle.pattern_meaning.specs.Found.{is_within}
use Rattle.pattern_meaning.specs.RuleOrder.{ranked_by, ranked_at}
use Rattle.pattern_meaning.proofs.rule_order.ranked_rules.Given as goal

-- the rules so far and those that are left are all, and the statements that are left are shaped
abbrev pub invariant-loop-statement : goal.invariant-loop-statement
invariant-loop-statement l =
    let rules = rules_of (plain_rules l.checked) in
    let most = greatest (map (rank_of rules) (outputs (plain_rules l.checked))) in
    let left = map plain_statement (drop l.statement-index l.statement-items) in
    (ranked_at l.ranked.items ++ map (ranked_by rules) (filter (is_within rules most) (rules_of left)) ≡ map (ranked_by rules) (filter (is_within rules most) rules))
    × (list_all is_shaped_statement left ≡ true)
