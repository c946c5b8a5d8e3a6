-- The rules that head each name.
use Rattle.std.specs.Prelude.{option_map, unwrap_or, List, [], map}
use Rattle.std.specs.Ordering.{eq_by_cmp}
use Rattle.std.specs.List.{filter}
use Rattle.std.specs.Map.{lookup}
use Rattle.event_model.specs.EventOrder.{name_cmp}
use Rattle.event_model.specs.declared.atoms.NameArity.{NameArity}
use Rattle.rule_ast.specs.Plain.{plain_rule}
use Rattle.rule_ast.specs.Trees.{PlainRule, PlainStatement}
use Rattle.rule_check.specs.Sound.{rules_of}
use Rattle.pattern_meaning.specs.RuleRows.{has_head}
use Rattle.binariser.specs.declared.heads.HeadRules.{HeadRules}

-- the rules that are kept at a name
abbrev pub rules_in : HeadRules → NameArity → List PlainRule
rules_in h n = unwrap_or (option_map (λ v. map (λ r. plain_rule r.now) v.items) (lookup (eq_by_cmp name_cmp n) h.by_name.entries)) []

-- the rules of these statements that head a name
abbrev pub rules_for : List PlainStatement → NameArity → List PlainRule
rules_for statements n = filter (has_head n) (rules_of statements)
