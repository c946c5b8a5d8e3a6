use Rattle.std.proofs.Common.{◌-◌, length}
use Rattle.term_reader.specs.Readings.{WordRead}
use Rattle.term_reader.proofs.words.word_end.Given as goal

abbrev pub invariant-loop-sign : goal.invariant-loop-sign
invariant-loop-sign l = WordRead l.bytes l.at l.end

abbrev pub decreases-loop-sign : goal.decreases-loop-sign
decreases-loop-sign l = length l.bytes - l.end
