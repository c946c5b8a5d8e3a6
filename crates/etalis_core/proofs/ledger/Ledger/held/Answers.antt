use Rattle.event_model.specs.Presence.{all_inputs, bound}
use Rattle.etalis_core.proofs.ledger.Ledger.held.Goals as goal

pub returns : goal.returns
returns c = λ late told history l. c.held.ensures (bound late told) (all_inputs history) l.numbers
