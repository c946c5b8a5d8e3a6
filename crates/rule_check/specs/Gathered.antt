-- Rules behind references.
use denote.Ref.{Bor}
use Rattle.std.specs.Prelude.{◌≡◌, ◌<◌, ◌^◌, true, List, map, length}
use Rattle.std.specs.List.{list_all}
use Rattle.rule_ast.specs.Plain.{plain_rule}
use Rattle.rule_ast.specs.Shaped.{is_shaped_rule}
use Rattle.rule_ast.specs.Trees.{PlainRule}
use Rattle.rule_ast.specs.declared.statements.Rule.{Rule}

abbrev pub rules_at : List (Bor Rule) → List PlainRule
rules_at rules = map (λ r. plain_rule r.now) rules

-- rules of a shaped file, so few that a u32 counts them
pub record AreShaped (rules : List PlainRule) : Type 0 where
  pub few : length rules < 2 ^ 32
  pub each : list_all is_shaped_rule rules ≡ true
