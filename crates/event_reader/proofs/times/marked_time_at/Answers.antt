use Rattle.event_reader.proofs.Pieces.{marked_given}
use Rattle.event_reader.proofs.times.marked_time_at.Goals as goal

pub returns : goal.returns
returns c = marked_given _ _ _ _ c.in-Some.ensures c.time_at.ensures
