use Rattle.term_reader.proofs.Letters.{escape_read}
use Rattle.term_reader.proofs.texts.escape_at.Goals as goal

pub returns : goal.returns
returns c = escape_read _ _ _ _ _ _ c.requires c.in-Some.ensures c.in-Some-escape_of.ensures.0 c.in-Some-escape_of.ensures.1 c.in_ok-keep.ensures
