-- The detections that stand over a set of events.
use Rattle.std.specs.Prelude.{List, map}
use Rattle.std.specs.List.{flat_map}
use Rattle.ordered_lists.specs.Canon.{canon}
use Rattle.event_model.specs.declared.events.Event.{Event}
use Rattle.event_model.specs.EventOrder.{detection_cmp}
use Rattle.event_model.specs.declared.atoms.NameArity.{NameArity}
use Rattle.event_model.specs.declared.events.Detection.{Detection}
use Rattle.ev_bind.specs.declared.rows.Row.{Row}
use Rattle.rule_ast.specs.Trees.{PlainStatement}
use Rattle.rule_check.specs.Sound.{rules_of}
use Rattle.rule_check.specs.Names.{outputs}
use Rattle.pattern_meaning.specs.PatternRows.{args_of}
use Rattle.pattern_meaning.specs.RuleRows.{name_rows}

abbrev pub detection_of : NameArity → Row → Detection
detection_of n r = record { atom = record { name = n.name; args = args_of r }; span = r.span }

-- the rows of the names that are given out, as detections in order, each once
unfoldable pub standing : List PlainStatement → List Event → List Detection
standing statements events =
    canon detection_cmp (flat_map (λ n. map (detection_of n) (name_rows (rules_of statements) events n)) (outputs statements))
