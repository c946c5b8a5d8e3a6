use Rattle.term_reader.proofs.Branches.{text_tree}
use Rattle.term_reader.proofs.trees.quoted_at.Goals as goal

pub returns : goal.returns
returns c = text_tree _ _ _ _ c.requires c.in_ok-text.ensures
