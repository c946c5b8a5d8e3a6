use Rattle.std.proofs.Common.{arith, drop}
use Rattle.ev_bind.proofs.Chaining.{front_binding, numbered_binding, higher_numbered}
use Rattle.ev_bind.proofs.matching.number_values.Goals as goal

pub in_front-requires : goal.in_front-requires
in_front-requires c = rw c.loop-left.invariant.made
    (front_binding (c.new.result, c.in_ok-share.field-0) _ (numbered_binding c.loop-left.left (drop c.loop-left.left c.args.terms.now))
    (higher_numbered c.new.result c.loop-left.left (drop c.loop-left.left c.args.terms.now) (omega (arith, c.new.ensures, c.loop-left-test.true))))
