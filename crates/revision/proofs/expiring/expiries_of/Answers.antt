use Rattle.std.proofs.Common.{arith}
use Rattle.change_meaning.specs.Caps.{caps_in}
use Rattle.revision.proofs.AnewLaws.{below_next, all_below}
use Rattle.revision.proofs.expiring.expiries_of.Goals as goal

pub loop-number-preserved : goal.loop-number-preserved
loop-number-preserved c =
    below_next (caps_in c.args.caps.now) c.args.goals.now c.loop-number.number c.loop-number.expiries c.follow_number.new.expiries
    c.loop-number.invariant c.in_ok-follow_number.ensures

pub returns : goal.returns
returns c =
    all_below (caps_in c.args.caps.now) c.args.goals.now c.loop-number.number c.loop-number.expiries
    (λ m le. c.numbers-number-end.ensures m (let past = c.loop-number-test.false in omega (arith, past, le))) c.loop-number.invariant
