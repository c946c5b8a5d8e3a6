use Rattle.std.proofs.Common.{◌≡◌, length}
use Rattle.goal_store.specs.Built.{IsBare}
use Rattle.goal_store.proofs.built.bare_steps.Given as goal

-- so many steps, each without indexes
abbrev pub invariant-loop : goal.invariant-loop
invariant-loop l = (length l.steps.items ≡ l.counter) × IsBare l.steps.items
