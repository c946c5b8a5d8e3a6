use Rattle.std.proofs.Common.{◌≡◌, ℕ, ◌++◌, List, Some, length, map, drop, slice_get}
use Rattle.std.specs.List.{flat_map}
use Rattle.rule_ast.specs.PlainPlans.{PlainIndex, PlainStep, plain_index, plain_step}
use Rattle.step_meaning.specs.PlanOf.{each_once, step_indexes}
use Rattle.change_meaning.specs.Caps.{caps_in}
use Rattle.change_meaning.specs.Keys.{slots_at}
use Rattle.step_work.specs.Ways.{IsWayOf}
use Rattle.step_work.specs.declared.ways.StepWay.{StepWay}
use Rattle.step_work.proofs.ways.ways_of.Given as goal

abbrev pub invariant-loop-step : goal.invariant-loop-step
invariant-loop-step l = record {
  long : length l.ways.items ≡ l.step-index;
  place : (before : List PlainIndex) × (length before ≡ l.first) × (map plain_index l.plan.indexes.items
      ≡ before ++ flat_map (λ s. each_once (step_indexes (slots_at (map plain_step l.plan.steps.items)) s))
      (map plain_step (drop l.step-index l.plan.steps.items)));
  ways : (i : ℕ) (s : PlainStep) (w : StepWay) → slice_get (map plain_step l.plan.steps.items) i ≡ Some s
      → slice_get l.ways.items i ≡ Some w
      → IsWayOf (map plain_index l.plan.indexes.items) ((caps_in l.caps).cap i) (slots_at (map plain_step l.plan.steps.items)) s w;
}
