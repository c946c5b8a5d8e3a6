use Rattle.term_reader.proofs.Letters.{letters_more}
use Rattle.term_reader.proofs.texts.text_at.Goals as goal

pub loop-sign-preserved : goal.loop-sign-preserved
loop-sign-preserved c = letters_more _ _ _ _ _ _ c.loop-sign.invariant c.in_ok-end.ensures
