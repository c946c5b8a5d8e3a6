use Rattle.std.proofs.Common.{◌-◌, length}
use Rattle.event_reader.specs.Reads.{BlanksRead}
use Rattle.event_reader.proofs.peeking.blanks_end.Given as goal

abbrev pub invariant-loop-end : goal.invariant-loop-end
invariant-loop-end l = BlanksRead l.line l.at l.end

abbrev pub decreases-loop-end : goal.decreases-loop-end
decreases-loop-end l = length l.line - l.end
