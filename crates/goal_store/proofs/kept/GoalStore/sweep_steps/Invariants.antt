use Rattle.std.proofs.Common.{◌≡◌, Some}
use Rattle.ev_bind.specs.declared.rows.Row.{Row}
use Rattle.row_table.proofs.Behind.{room}
use Rattle.goal_store.specs.Goals.{row_at, SamePlan, SameRows}
use Rattle.goal_store.specs.Sweeping.{keeps_at}
use Rattle.goal_store.proofs.Swept.{StepsSwept}
use Rattle.goal_store.proofs.kept.GoalStore.sweep_steps.Given as goal

-- the goals of the steps so far are swept
abbrev pub invariant-loop-step : goal.invariant-loop-step
invariant-loop-step l = record {
  plan : SamePlan l.initial.self l.self;
  rows : SameRows l.initial.self l.self;
  marks : (row : Row) → row_at l.initial.self l.number ≡ Some row
      → StepsSwept (keeps_at l.caps l.bound) l.last row l.initial.self l.self;
}

abbrev pub decreases-loop-step : goal.decreases-loop-step
decreases-loop-step l = room l.last
