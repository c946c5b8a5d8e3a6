use Rattle.binariser.proofs.SlotLaws.{either_slots}
use Rattle.binariser.proofs.indexes.either_slots.Goals as goal

pub returns : goal.returns
returns c = either_slots c.union.result c.args.left.now c.args.right.now c.union.ensures
