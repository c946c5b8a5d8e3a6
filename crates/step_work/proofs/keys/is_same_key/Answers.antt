use Rattle.std.proofs.Common.{◌≡◌, ◌∙◌, sym, ap, not, arith, true≢false}
use Rattle.std.specs.Cmp.{booleans_Decides}
use Rattle.step_work.proofs.SlotLaws.{same_slots, other_slots}
use Rattle.step_work.proofs.keys.is_same_key.Goals as goal

pub returns-then-has : goal.returns-then-has
returns-then-has c =
    other_slots c.args.left.now c.args.right.now c.loop-number.number (omega (arith, c.loop-number-test.true))
    (λ same.
    let alike : c.has.result ≡ c.has-in-loop-number.result = cc in
    true≢false (sym c.if-has.true ∙ ap not ((booleans_Decides c.has.result c.has-in-loop-number.result).1 alike)))

pub returns : goal.returns
returns c =
    same_slots c.args.left.now c.args.right.now (λ t h. c.loop-number.invariant t (omega (arith, h, c.loop-number-test.false)))
