use Rattle.std.proofs.Common.{◌≡◌, map}
use Rattle.std.specs.Map.Iter.{deref}
use Rattle.etalis_core.specs.Kept.{net_change}
use Rattle.etalis_core.proofs.present.Present.changes.Given as goal

abbrev pub invariant-loop-event : goal.invariant-loop-event
invariant-loop-event l = l.changes.items ≡ map (net_change l.self) (map deref l.yielded)
