use Rattle.std.proofs.Common.{◌≡◌, ◌≤◌, map, length, drop}
use Rattle.rule_ast.specs.Plain.{plain_rule}
use Rattle.rule_ast.specs.PlainPlans.{plain_step}
use Rattle.step_meaning.specs.PlanOf.{rule_steps}
use Rattle.binariser.specs.declared.faults.TheConstants.{MOST_STEPS}
use Rattle.binariser.specs.Making.{place_in}
use Rattle.binariser.proofs.rules.push_rules.Given as goal

-- what the rules that are left make of the steps so far is all
abbrev pub invariant-loop-rule : goal.invariant-loop-rule
invariant-loop-rule l =
    (rule_steps (place_in l.places) (map (λ r. plain_rule r.now) (drop l.rule-index l.rules)) (map plain_step l.steps.items) l.heads.items
    ≡ rule_steps (place_in l.places) (map (λ r. plain_rule r.now) l.rules) (map plain_step l.fn.steps.items) l.fn.heads.items)
    × (length l.steps.items ≤ MOST_STEPS)
