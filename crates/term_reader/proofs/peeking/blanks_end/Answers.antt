use Rattle.term_reader.proofs.Forms.{blanks_start, blanks_more}
use Rattle.term_reader.proofs.peeking.blanks_end.Goals as goal

pub loop-sign-init : goal.loop-sign-init
loop-sign-init c = blanks_start _ _ c.requires

pub loop-sign-preserved : goal.loop-sign-preserved
loop-sign-preserved c = blanks_more _ _ _ _ c.loop-sign.invariant c.in-Some.ensures c.in-Space.is
