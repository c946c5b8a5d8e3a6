use Rattle.std.proofs.Common.{◌∙◌, ◌∷◌, [], ap, map, length}
use Rattle.std.proofs.lemmas.List.{map-append}
use Rattle.rule_ast.specs.PlainPlans.{plain_index, plain_step, slots_list}
use Rattle.step_meaning.specs.PlanOf.{each_once, slots_in, step_indexes, step_slots}
use Rattle.binariser.proofs.IndexLaws.{step_lower, slots_more, indexes_more, table_long}
use Rattle.binariser.proofs.indexes.plan_indexes.Goals as goal

pub step_indexes-requires : goal.step_indexes-requires
step_indexes-requires c =
    step_lower c.args.steps.now c.loop-step.step-index c.step-item.result c.loop-step-test.true c.step-item.is c.requires _
    (ap length c.deref.ensures.value
    ∙ table_long c.args.steps.now c.loop-step.step-index c.step-item.result c.loop-step-test.true c.step-item.is c.requires slots_list
    c.loop-step.slots.items c.loop-step.invariant.0)

pub step_slots-bound-requires : goal.step_slots-bound-requires
step_slots-bound-requires c =
    step_lower c.args.steps.now c.loop-step.step-index c.step-item.result c.loop-step-test.true c.step-item.is c.requires _
    (ap length c.deref-in-loop-step.ensures.value
    ∙ table_long c.args.steps.now c.loop-step.step-index c.step-item.result c.loop-step-test.true c.step-item.is c.requires slots_list
    c.loop-step.slots.items c.loop-step.invariant.0)

pub loop-step-preserved : goal.loop-step-preserved
loop-step-preserved c = (
  ap (map slots_list) c.in_ok-push.ensures.items ∙ map-append slots_list c.loop-step.slots.items (c.step_slots-bound.result ∷ [])
      ∙ slots_more c.args.steps.now c.loop-step.step-index c.step-item.result c.loop-step-test.true c.step-item.is c.requires
      (map slots_list c.loop-step.slots.items) (slots_list c.step_slots-bound.result) c.loop-step.invariant.0
      (c.step_slots-bound.ensures
      ∙ ap (λ xs. step_slots (slots_in (map slots_list xs)) (plain_step c.step-item.result)) c.deref-in-loop-step.ensures.value),
  indexes_more c.args.steps.now c.loop-step.step-index c.step-item.result c.loop-step-test.true c.step-item.is c.requires
      (map slots_list c.loop-step.slots.items) (map plain_index c.loop-step.indexes.items) (map plain_index c.in_ok-own.own.items) _
      c.loop-step.invariant.0 c.loop-step.invariant.1
      (c.in_ok-own.ensures
      ∙ ap (λ xs. each_once (step_indexes (slots_in (map slots_list xs)) (plain_step c.step-item.result))) c.deref.ensures.value)
      (ap (map plain_index) c.in_ok-append.ensures.items ∙ map-append plain_index c.loop-step.indexes.items c.in_ok-own.own.items),
)
