use Rattle.term_reader.proofs.Wholes.{atom_read}
use Rattle.term_reader.proofs.Canonical.{atom_back}
use Rattle.term_reader.proofs.Found.{atom_found}
use Rattle.term_reader.proofs.reading.read_atom.Goals as goal

pub returns-clause-read : goal.returns-clause-read
returns-clause-read c = atom_read _ _ _ c.requires c.atom_at.ensures

pub returns-clause-canonical : goal.returns-clause-canonical
returns-clause-canonical c = atom_back _ _ _ c.atom_at.ensures

pub returns-clause-found : goal.returns-clause-found
returns-clause-found c = atom_found _ _ _ c.atom_at.ensures
