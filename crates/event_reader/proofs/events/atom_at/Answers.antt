use Rattle.event_reader.proofs.Pieces.{atom_read, atom_stops}
use Rattle.event_reader.proofs.events.atom_at.Goals as goal

pub returns-in-Ok : goal.returns-in-Ok
returns-in-Ok c = atom_read _ _ _ _ c.requires.inside c.requires.dark c.in-Ok.ensures.steps

pub returns-in-Err : goal.returns-in-Err
returns-in-Err c = rw c.from.ensures (atom_stops _ _ _ c.requires.inside c.requires.dark c.in-Err.ensures.steps)
