-- The names that the events of a rule file can have.
use Rattle.std.specs.Prelude.{Bool, not, List, filter}
use Rattle.std.specs.List.{flat_map}
use Rattle.ordered_lists.specs.Canon.{has}
use Rattle.event_model.specs.EventOrder.{name_cmp}
use Rattle.event_model.specs.declared.atoms.NameArity.{NameArity}
use Rattle.rule_ast.specs.Trees.{PlainRule, PlainStatement}
use Rattle.rule_check.specs.Names.{body_names, head_names}
use Rattle.rule_check.specs.Numbers.{first_seen}
use Rattle.rule_check.specs.Sound.{rules_of}

-- none of the heads
abbrev pub is_open : List NameArity → NameArity → Bool
is_open heads n = not (has name_cmp n heads)

abbrev pub all_body_names : List PlainRule → List NameArity
all_body_names rules = flat_map (λ r. body_names r.body) rules

-- the names that stand in the rules' bodies and aren't among the heads, each once, in the order of first occurrence
abbrev pub open_in : List NameArity → List PlainRule → List NameArity
open_in heads rules = first_seen (filter (is_open heads) (all_body_names rules))

-- the names that stand in bodies and head no rule
abbrev pub open_names : List PlainStatement → List NameArity
open_names statements = open_in (head_names (rules_of statements)) (rules_of statements)
