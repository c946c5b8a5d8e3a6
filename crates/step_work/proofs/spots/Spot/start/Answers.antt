use Rattle.step_work.proofs.WayLaws.{start_left}
use Rattle.step_work.proofs.spots.Spot.start.Goals as goal

pub returns : goal.returns
returns c = λ goals changed count indexes cap slots s way e h.
    start_left goals changed count indexes cap slots s way (record { join = c.start.result; tests = c.start-2.result })
    (c.start.ensures goals) (c.start-2.ensures goals) e h
