use Rattle.std.proofs.Common.{◌≡◌, length, drop}
use Rattle.goal_purge.specs.Charges.{charged}
use Rattle.goal_purge.proofs.caps.charge_all.Given as goal

abbrev pub invariant-loop-step : goal.invariant-loop-step
invariant-loop-step l = record {
  size : length l.reaches.items ≡ length l.initial.reaches.items;
  rest : charged l.cap (drop l.step-index l.steps) l.reaches.items ≡ charged l.cap l.steps l.initial.reaches.items;
}
