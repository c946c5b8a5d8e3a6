use Rattle.event_reader.proofs.LineLaws as laws
use Rattle.event_reader.proofs.reading.lines_are_heard_exactly.Goals as goal

pub returns : goal.returns
returns c = record { heard = laws.heard_is; one = laws.hears_one }
