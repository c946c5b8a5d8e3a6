use Rattle.std.proofs.Common.{◌≡◌, ◌≤◌, ◌+◌, ◌*◌, List, map, length}
use Rattle.std.specs.List.{All}
use Rattle.rule_ast.specs.Plain.{plain_pattern}
use Rattle.rule_ast.specs.PlainPlans.{PlainStep}
use Rattle.step_meaning.specs.PlanOf.{top, body_steps}
use Rattle.rule_ast.specs.PlainPlans.{plain_step}
use Rattle.binariser.specs.Making.{place_in, steps_climbed}
use Rattle.binariser.specs.declared.faults.TheConstants.{MOST_STEPS}
use Rattle.binariser.proofs.ClimbingLaws.{size}
use Rattle.binariser.proofs.bodies.+bodies.Given as goal

abbrev pub decreases-body_steps : goal.decreases-body_steps
decreases-body_steps l = 3 * size (plain_pattern l.pattern.now) + 1

abbrev pub decreases-first_steps : goal.decreases-first_steps
decreases-first_steps l = 3 * size (plain_pattern l.first.now)

abbrev pub decreases-operand_steps : goal.decreases-operand_steps
decreases-operand_steps l = 3 * size (plain_pattern l.operand.now) + 2

abbrev pub decreases-steps_over : goal.decreases-steps_over
decreases-steps_over l = 3 * size (plain_pattern l.whole.now)

-- what the way so far makes of the steps of what is left
abbrev pub invariant-body_steps-loop-left : goal.invariant-body_steps-loop-left
invariant-body_steps-loop-left l =
    ((ss : List PlainStep)
    → steps_climbed (place_in l.places) (map (λ p. plain_pattern p.now) l.spine.items)
    (body_steps (place_in l.places) (plain_pattern l.first) ss) ≡ body_steps (place_in l.places) (plain_pattern l.pattern) ss)
    × All (λ p. size (plain_pattern p.now) ≤ size (plain_pattern l.pattern)) l.spine.items
    × (size (plain_pattern l.first) ≤ size (plain_pattern l.pattern))

abbrev pub decreases-body_steps-loop-left : goal.decreases-body_steps-loop-left
decreases-body_steps-loop-left l = size (plain_pattern l.first)

-- what the rest of the way makes of the steps so far
abbrev pub invariant-body_steps-loop-whole : goal.invariant-body_steps-loop-whole
invariant-body_steps-loop-whole l =
    (steps_climbed (place_in l.places) (map (λ p. plain_pattern p.now) l.spine.items) (map plain_step l.steps.items)
    ≡ body_steps (place_in l.places) (plain_pattern l.pattern) (map plain_step l.fn.steps.items))
    × (l.last ≡ top (map plain_step l.steps.items))
    × (length l.steps.items ≤ MOST_STEPS)
    × All (λ p. size (plain_pattern p.now) ≤ size (plain_pattern l.pattern)) l.spine.items

abbrev pub decreases-body_steps-loop-whole : goal.decreases-body_steps-loop-whole
decreases-body_steps-loop-whole l = length l.spine.items
