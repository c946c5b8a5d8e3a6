use Rattle.std.proofs.Common.{◌≡◌, max, drop, map}
use Rattle.rule_ast.specs.Plain.{plain_rules}
use Rattle.rule_check.specs.Cycles.{rank_of}
use Rattle.rule_check.specs.Graphs.{greatest}
use Rattle.rule_check.specs.Names.{outputs}
use Rattle.rule_check.specs.Sound.{rules_of}
use Rattle.pattern_meaning.proofs.rule_order.deepest.Given as goal

-- the greatest so far and that of those that are left
abbrev pub invariant-loop-name : goal.invariant-loop-name
invariant-loop-name l = max l.depth (greatest (map (rank_of (rules_of (plain_rules l.checked))) (drop l.name-index l.names))) ≡ greatest (map (rank_of (rules_of (plain_rules l.checked))) (outputs (plain_rules l.checked)))
