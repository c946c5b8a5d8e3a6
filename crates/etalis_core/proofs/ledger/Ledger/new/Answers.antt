use Rattle.std.proofs.Common.{refl}
use Rattle.etalis_core.proofs.LedgerLaws.{ledger_new}
use Rattle.etalis_core.proofs.ledger.Ledger.new.Goals as goal

pub returns : goal.returns
returns c = λ late. ledger_new _ late c.new.ensures.numbers c.new.ensures.changed refl refl refl
