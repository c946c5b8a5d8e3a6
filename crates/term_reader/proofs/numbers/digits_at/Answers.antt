use Rattle.std.proofs.Common.{◌≤◌, ◌-◌, ◌/◌}
use Rattle.term_reader.specs.Readings.{most_of}
use Rattle.term_reader.proofs.Forms.{digits_more, digit_small, range_more}
use Rattle.term_reader.proofs.numbers.digits_at.Goals as goal

pub loop-digit-preserved : goal.loop-digit-preserved
loop-digit-preserved c =
    let d = c.in-Some-Digit.digit in
    let under : c.loop-digit.size ≤ (most_of c.args.negative - d) / 10 = rw (← c.most_of-most.ensures, ← c.from.ensures) c.if-size-most.false in
    let small = digit_small _ _ _ d c.in-Some-Digit.ensures c.in-Some-Digit.field-0-is in
    rw c.from-in-Some-Digit.ensures (digits_more _ _ _ _ c.loop-digit.size _ d _ c.loop-digit.invariant c.in-Some-Digit.ensures c.in-Some-Digit.field-0-is (range_more c.args.negative c.loop-digit.size d small under))
