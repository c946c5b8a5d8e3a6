use Rattle.std.proofs.Common.{◌≡◌, [], length, drop, map}
use Rattle.rule_ast.specs.PlainPlans.{plain_step}
use Rattle.horizon_meaning.specs.Caps.{belows}
use Rattle.goal_purge.proofs.caps.belows_of.Given as goal

abbrev pub invariant-loop-step : goal.invariant-loop-step
invariant-loop-step l = record {
  size : length l.belows.items ≡ l.step-index;
  rest : belows (map plain_step (drop l.step-index l.steps)) l.belows.items ≡ belows (map plain_step l.steps) [];
}
