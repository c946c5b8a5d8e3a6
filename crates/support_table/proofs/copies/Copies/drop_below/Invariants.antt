use Rattle.std.proofs.Common.{◌≡◌, false, length}
use Rattle.std.specs.Prelude.{nat_lt}
use Rattle.event_model.specs.Events.{time_of}
use Rattle.event_model.specs.declared.events.Event.{Event}
use Rattle.support_table.specs.Copies.{copies_of}
use Rattle.support_table.proofs.copies.Copies.drop_below.Given as goal

abbrev pub invariant-loop : goal.invariant-loop
invariant-loop l = (e : Event) → nat_lt (time_of e) l.bound ≡ false → copies_of l.self e ≡ copies_of l.initial.self e

abbrev pub decreases-loop : goal.decreases-loop
decreases-loop l = length l.self.times.entries
