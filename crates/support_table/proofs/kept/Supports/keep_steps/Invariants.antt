use Rattle.std.proofs.Common.{◌≡◌, ℕ, Some}
use Rattle.ev_bind.specs.declared.rows.Row.{Row}
use Rattle.row_table.proofs.Behind.{room}
use Rattle.support_table.specs.Supports.{row_at}
use Rattle.support_table.proofs.Asking.{KeptSteps}
use Rattle.support_table.proofs.kept.Supports.keep_steps.Given as goal

-- the row was asked for at the steps so far, and all else is as it was
abbrev pub invariant-loop-step : goal.invariant-loop-step
invariant-loop-step g l = record {
  rows : (m : ℕ) → row_at l.self m ≡ row_at l.initial.self m;
  kept : (row : Row) → row_at l.initial.self l.number ≡ Some row → KeptSteps g.F.Fn l.keep l.last row l.initial.self l.self;
}

abbrev pub decreases-loop-step : goal.decreases-loop-step
decreases-loop-step g l = room l.last
