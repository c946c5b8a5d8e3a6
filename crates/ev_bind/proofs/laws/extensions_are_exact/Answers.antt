use Rattle.ev_bind.proofs.Uniting.{extends}
use Rattle.ev_bind.proofs.laws.extensions_are_exact.Goals as goal

pub returns : goal.returns
returns c = extends
