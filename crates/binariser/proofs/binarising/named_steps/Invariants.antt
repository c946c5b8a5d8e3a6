use Rattle.std.proofs.Common.{ℕ, ◌≡◌, ◌≤◌, ◌+◌, map, drop, length}
use Rattle.event_model.specs.declared.atoms.NameArity.{NameArity}
use Rattle.rule_ast.specs.PlainPlans.{plain_step}
use Rattle.step_meaning.specs.PlanOf.{step_of}
use Rattle.binariser.specs.Making.{place_or}
use Rattle.binariser.proofs.binarising.named_steps.Given as goal

-- the steps from the number on are those that have theirs
abbrev pub invariant-loop-number : goal.invariant-loop-number
invariant-loop-number l =
    (l.number ≤ length l.steps)
    × ((n : NameArity) → place_or (length l.steps) l.named.entries n ≡ l.number + step_of (map plain_step (drop l.number l.steps)) n)

abbrev pub decreases-loop-number : goal.decreases-loop-number
decreases-loop-number l = l.number
