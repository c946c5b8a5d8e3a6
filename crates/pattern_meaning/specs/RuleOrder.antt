-- Rules with the ranks of their heads.
use Rattle.std.specs.Prelude.{ℕ, List, map}
use Rattle.rule_ast.specs.Plain.{plain_rule}
use Rattle.rule_ast.specs.Trees.{PlainRule}
use Rattle.rule_check.specs.Names.{head_name}
use Rattle.rule_check.specs.Cycles.{rank_of}
use Rattle.pattern_meaning.specs.declared.rule_order.Ranked.{Ranked}

abbrev pub rules_at : List Ranked → List PlainRule
rules_at ranked = map (λ r. plain_rule r.rule.now) ranked

abbrev pub ranked_at : List Ranked → List (PlainRule × ℕ)
ranked_at ranked = map (λ r. (plain_rule r.rule.now, r.rank)) ranked

-- a rule and the rank of its head
abbrev pub ranked_by : List PlainRule → PlainRule → PlainRule × ℕ
ranked_by rules r = (r, rank_of rules (head_name r))
