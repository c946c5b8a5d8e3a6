use Rattle.step_work.proofs.SlotLaws.{either_slots}
use Rattle.step_work.proofs.keys.either_slots.Goals as goal

pub returns : goal.returns
returns c = either_slots c.union.result c.args.left.now c.args.right.now c.union.ensures
