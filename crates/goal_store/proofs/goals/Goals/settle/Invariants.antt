use Rattle.std.proofs.Common.{ℕ, ◌≡◌, length}
use Rattle.ev_bind.specs.Rows.{row_cmp}
use Rattle.ev_bind.specs.declared.rows.Row.{Row}
use Rattle.goal_store.specs.Good.{IsGood}
use Rattle.goal_store.specs.Marks.{settled}
use Rattle.goal_store.specs.Steps.{SameSteps}
use Rattle.goal_store.specs.Values.{value_in}
use Rattle.goal_store.proofs.goals.Goals.settle.Given as goal

-- what becomes of the marks is as it was at first
abbrev pub invariant-loop-changed : goal.invariant-loop-changed
invariant-loop-changed l = record {
  good : IsGood l.self;
  marks : (s : ℕ) (r : Row) → settled (value_in row_cmp l.self.held.rows s r) ≡ settled (value_in row_cmp l.initial.self.held.rows s r);
  kinds : SameSteps l.initial.self.held.steps.items l.self.held.steps.items;
  length : length l.self.held.steps.items ≡ length l.initial.self.held.steps.items;
}

abbrev pub decreases-loop-changed : goal.decreases-loop-changed
decreases-loop-changed l = length l.self.changed.items
