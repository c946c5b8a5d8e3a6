use Rattle.std.proofs.Common.{◌≡◌, map, drop, []}
use Rattle.rule_ast.specs.PlainPlans.{plain_step, slots_list}
use Rattle.step_meaning.specs.PlanOf.{slots_table}
use Rattle.step_work.proofs.keys.all_slots.Given as goal

abbrev pub invariant-loop-step : goal.invariant-loop-step
invariant-loop-step l = slots_table (map plain_step (drop l.step-index l.steps)) (map slots_list l.slots.items)
    ≡ slots_table (map plain_step l.steps) []
