use Rattle.std.proofs.Common.{◌≡◌, ◌≤◌, [], map, length, drop}
use Rattle.rule_ast.specs.PlainPlans.{plain_step}
use Rattle.binariser.specs.declared.faults.TheConstants.{MOST_STEPS}
use Rattle.binariser.specs.Heads.{rules_in}
use Rattle.binariser.specs.Making.{place_in, names_steps_by}
use Rattle.binariser.proofs.rules.push_names.Given as goal

-- what the names that are left make of the steps so far is all
abbrev pub invariant-loop-name : goal.invariant-loop-name
invariant-loop-name l =
    (names_steps_by (rules_in l.rules) (drop l.name-index l.names) (place_in l.places) (map plain_step l.steps.items)
    ≡ names_steps_by (rules_in l.rules) l.names (place_in []) (map plain_step l.fn.steps.items))
    × (length l.steps.items ≤ MOST_STEPS)
