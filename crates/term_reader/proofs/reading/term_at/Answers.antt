use Rattle.term_reader.proofs.Wholes.{tree_given}
use Rattle.term_reader.proofs.reading.term_at.Goals as goal

pub returns : goal.returns
returns c = tree_given _ _ _ c.tree_at.ensures
