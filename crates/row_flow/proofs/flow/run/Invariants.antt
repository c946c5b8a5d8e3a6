use Rattle.std.proofs.Common.{◌≤◌, length}
use Rattle.row_flow.proofs.flow.run.Given as goal

abbrev pub invariant-loop-n : goal.invariant-loop-n
invariant-loop-n l = length l.flow.held.items ≤ l.job.held
