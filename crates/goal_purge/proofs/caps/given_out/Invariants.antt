use Rattle.std.proofs.Common.{◌≡◌, length, drop}
use Rattle.std.specs.Prelude.{None, replicate}
use Rattle.row_changes.specs.declared.caps.Reach.TheVariants.{NoUser}
use Rattle.goal_purge.specs.Charges.{charged}
use Rattle.goal_purge.proofs.caps.given_out.Given as goal

abbrev pub invariant-loop-step : goal.invariant-loop-step
invariant-loop-step l = record {
  size : length l.reaches.items ≡ l.count;
  rest : charged None (drop l.step-index l.shown) l.reaches.items ≡ charged None l.shown (replicate l.count NoUser);
}
