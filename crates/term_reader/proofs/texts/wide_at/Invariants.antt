use Rattle.std.proofs.Common.{◌≡◌, ◌-◌, length}
use Rattle.term_reader.specs.Readings.{WideRead}
use Rattle.term_reader.proofs.texts.wide_at.Given as goal

abbrev pub invariant-loop-byte : goal.invariant-loop-byte
invariant-loop-byte l = WideRead l.bytes l.at l.end l.need × (l.text.items ≡ l.initial.text.items)

abbrev pub decreases-loop-byte : goal.decreases-loop-byte
decreases-loop-byte l = length l.bytes - l.end
