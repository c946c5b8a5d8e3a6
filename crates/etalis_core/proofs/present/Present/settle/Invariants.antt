use Rattle.std.proofs.Common.{◌≡◌, length}
use Rattle.etalis_core.proofs.present.Present.settle.Given as goal

abbrev pub invariant-loop : goal.invariant-loop
invariant-loop l = l.self.numbers ≡ l.initial.self.numbers

abbrev pub decreases-loop : goal.decreases-loop
decreases-loop l = length l.self.changed.keys
