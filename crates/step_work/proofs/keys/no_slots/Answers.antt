use Rattle.step_work.proofs.SlotLaws.{no_slots}
use Rattle.step_work.proofs.keys.no_slots.Goals as goal

pub returns : goal.returns
returns c = no_slots c.empty.result c.empty.ensures
