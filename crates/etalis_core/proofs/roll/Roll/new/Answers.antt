use Rattle.std.proofs.Common.{rules}
use Rattle.etalis_core.proofs.roll.Roll.new.Goals as goal

pub returns : goal.returns
returns c = λ late. record { ledger = c.new.ensures late; events = search rules }
