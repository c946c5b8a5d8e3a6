use Rattle.binariser.proofs.SlotLaws.{both_slots}
use Rattle.binariser.proofs.indexes.both_slots.Goals as goal

pub returns : goal.returns
returns c = both_slots c.meet.result c.args.left.now c.args.right.now c.meet.ensures
