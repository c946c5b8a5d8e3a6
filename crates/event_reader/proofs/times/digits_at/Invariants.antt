use Rattle.std.proofs.Common.{◌-◌, length}
use Rattle.event_reader.specs.Reads.{DigitsRead}
use Rattle.event_reader.proofs.times.digits_at.Given as goal

abbrev pub invariant-loop-digit : goal.invariant-loop-digit
invariant-loop-digit l = DigitsRead l.line l.so_far l.at l.time l.end

abbrev pub decreases-loop-digit : goal.decreases-loop-digit
decreases-loop-digit l = length l.line - l.end
