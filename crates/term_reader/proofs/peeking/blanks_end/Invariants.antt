use Rattle.std.proofs.Common.{◌-◌, length}
use Rattle.term_reader.specs.Readings.{BlanksRead}
use Rattle.term_reader.proofs.peeking.blanks_end.Given as goal

abbrev pub invariant-loop-sign : goal.invariant-loop-sign
invariant-loop-sign l = BlanksRead l.bytes l.at l.end

abbrev pub decreases-loop-sign : goal.decreases-loop-sign
decreases-loop-sign l = length l.bytes - l.end
