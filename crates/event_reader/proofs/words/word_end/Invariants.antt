use Rattle.std.proofs.Common.{drop}
use Rattle.event_reader.specs.Reads.{SpelledSoFar}
use Rattle.event_reader.proofs.words.word_end.Given as goal

abbrev pub invariant-loop-letter : goal.invariant-loop-letter
invariant-loop-letter l = SpelledSoFar l.line l.at l.word (drop l.letter-index l.word) l.end
