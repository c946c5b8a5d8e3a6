use Rattle.std.proofs.Common.{◌-◌, length}
use Rattle.term_reader.specs.Readings.{DigitsRead}
use Rattle.term_reader.proofs.numbers.digits_at.Given as goal

abbrev pub invariant-loop-digit : goal.invariant-loop-digit
invariant-loop-digit l = DigitsRead l.bytes l.negative l.so_far l.at l.size l.end

abbrev pub decreases-loop-digit : goal.decreases-loop-digit
decreases-loop-digit l = length l.bytes - l.end
