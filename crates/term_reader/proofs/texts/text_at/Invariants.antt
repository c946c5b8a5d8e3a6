use Rattle.std.proofs.Common.{◌-◌, length}
use Rattle.term_reader.specs.Readings.{LettersRead}
use Rattle.term_reader.proofs.texts.text_at.Given as goal

abbrev pub invariant-loop-sign : goal.invariant-loop-sign
invariant-loop-sign l = LettersRead l.bytes l.at l.end l.text.items

abbrev pub decreases-loop-sign : goal.decreases-loop-sign
decreases-loop-sign l = length l.bytes - l.end
