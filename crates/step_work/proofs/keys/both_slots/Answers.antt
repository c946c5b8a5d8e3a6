use Rattle.step_work.proofs.SlotLaws.{both_slots}
use Rattle.step_work.proofs.keys.both_slots.Goals as goal

pub returns : goal.returns
returns c = both_slots c.meet.result c.args.left.now c.args.right.now c.meet.ensures
