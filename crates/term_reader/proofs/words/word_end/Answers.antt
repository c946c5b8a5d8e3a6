use Rattle.term_reader.proofs.Forms.{word_more}
use Rattle.term_reader.proofs.words.word_end.Goals as goal

pub loop-sign-preserved : goal.loop-sign-preserved
loop-sign-preserved c = word_more _ _ _ _ c.loop-sign.invariant c.in-Some.ensures c.in-Lower.is
