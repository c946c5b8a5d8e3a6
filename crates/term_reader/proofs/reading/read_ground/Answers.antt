use Rattle.term_reader.proofs.Wholes.{term_read}
use Rattle.term_reader.proofs.Canonical.{term_back}
use Rattle.term_reader.proofs.Found.{term_found}
use Rattle.term_reader.proofs.reading.read_ground.Goals as goal

pub returns-clause-read : goal.returns-clause-read
returns-clause-read c = term_read _ _ _ c.requires c.term_at.ensures

pub returns-clause-canonical : goal.returns-clause-canonical
returns-clause-canonical c = term_back _ _ _ c.term_at.ensures

pub returns-clause-found : goal.returns-clause-found
returns-clause-found c = term_found _ _ _ c.term_at.ensures
