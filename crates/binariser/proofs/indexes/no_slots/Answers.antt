use Rattle.binariser.proofs.SlotLaws.{no_slots}
use Rattle.binariser.proofs.indexes.no_slots.Goals as goal

pub returns : goal.returns
returns c = no_slots c.empty.result c.empty.ensures
