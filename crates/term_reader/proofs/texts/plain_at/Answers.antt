use Rattle.std.proofs.Common.{sym, ◌∙◌}
use Rattle.term_reader.proofs.Letters.{plain_read}
use Rattle.term_reader.proofs.texts.plain_at.Goals as goal

pub returns : goal.returns
returns c = plain_read _ _ _ _ _ c.requires.sign (sym c.is_plain.ensures ∙ c.if-not-is_plain.false) c.in_ok-keep.ensures
