use Rattle.std.proofs.Common.{arith}
use Rattle.support_table.proofs.Asking.{below_more, below_all}
use Rattle.support_table.proofs.kept.Supports.keep_only.Goals as goal

pub loop-number-preserved : goal.loop-number-preserved
loop-number-preserved g c =
    below_more g.F.Fn c.args.keep c.loop-number.number c.args.self.now c.loop-number.self c.keep_number.new.self c.loop-number.invariant
    c.keep_number.ensures.kept c.keep_number.ensures.others c.keep_number.ensures.rows

pub returns : goal.returns
returns g c =
    below_all g.F.Fn c.args.keep c.loop-number.number c.args.self.now c.loop-number.self c.loop-number.invariant
    (λ m le. c.numbers-number-end.ensures m (let past = c.loop-number-test.false in omega (arith, past, le)))
