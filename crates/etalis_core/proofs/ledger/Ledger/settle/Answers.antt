use Rattle.std.proofs.Common.{refl}
use Rattle.etalis_core.proofs.LedgerLaws.{ledger_settled}
use Rattle.etalis_core.proofs.ledger.Ledger.settle.Goals as goal

pub returns : goal.returns
returns c = λ late told history l. ledger_settled c.args.self.now _ late told history l c.settle.ensures.numbers c.settle.ensures.changed refl refl refl
