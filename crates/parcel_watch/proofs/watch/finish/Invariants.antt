use Rattle.std.proofs.Common.{ℕ, ◌≡◌, true}
use Rattle.event_model.specs.Presence.{History}
use Rattle.event_model.specs.declared.inputs.Input.{Input}
use Rattle.etalis_core.specs.StandsFor.{WorksFrom, rules_of, late_of, is_working, work_left}
use Rattle.parcel_watch.proofs.watch.finish.Given as goal

abbrev pub invariant-loop : goal.invariant-loop
invariant-loop l = record {
  working : is_working l.engine ≡ true;
  works : (h : History) (input : Input) (left : ℕ) → WorksFrom l.initial.engine h input left → (now : ℕ) × WorksFrom l.engine h input now;
  rules : rules_of l.engine ≡ rules_of l.initial.engine;
  late : late_of l.engine ≡ late_of l.initial.engine;
}

abbrev pub decreases-loop : goal.decreases-loop
decreases-loop l = work_left l.engine
