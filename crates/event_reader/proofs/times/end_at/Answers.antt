use Rattle.event_reader.proofs.Pieces.{more_left}
use Rattle.event_reader.proofs.times.end_at.Goals as goal

pub returns-then-end-line : goal.returns-then-end-line
returns-then-end-line c = more_left _ _ _ c.blanks_end-end.ensures.read c.if-end-line.true c.blanks_end-end.ensures.over
