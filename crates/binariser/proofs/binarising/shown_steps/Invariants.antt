use Rattle.std.proofs.Common.{◌≡◌, map, take}
use Rattle.rule_ast.specs.PlainPlans.{plain_step}
use Rattle.step_meaning.specs.PlanOf.{step_of}
use Rattle.binariser.proofs.binarising.shown_steps.Given as goal

abbrev pub invariant-loop-name : goal.invariant-loop-name
invariant-loop-name l = l.shown.items ≡ map (step_of (map plain_step l.steps)) (take l.name-index l.names)
