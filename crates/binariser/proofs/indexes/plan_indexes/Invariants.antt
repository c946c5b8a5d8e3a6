use Rattle.std.proofs.Common.{◌≡◌, map, take, []}
use Rattle.std.specs.List.{flat_map}
use Rattle.rule_ast.specs.PlainPlans.{plain_index, plain_step, slots_list}
use Rattle.step_meaning.specs.PlanOf.{each_once, step_indexes, slots_in, slots_table}
use Rattle.binariser.proofs.indexes.plan_indexes.Given as goal

abbrev pub invariant-loop-step : goal.invariant-loop-step
invariant-loop-step l =
    (map slots_list l.slots.items ≡ slots_table (map plain_step (take l.step-index l.steps)) [])
    × (map plain_index l.indexes.items
    ≡ flat_map (λ s. each_once (step_indexes (slots_in (slots_table (map plain_step l.steps) [])) s))
    (map plain_step (take l.step-index l.steps)))
