use Rattle.std.proofs.Common.{ℕ, ◌≡◌, ◌<◌, ◌-◌, suc, ap, ◌∙◌, length, arith}
use Rattle.rule_ast.specs.PlainPlans.{plain_step}
use Rattle.binariser.specs.Making.{place_or}
use Rattle.binariser.proofs.PlaceLaws.{one_named}
use Rattle.binariser.proofs.binarising.named_steps.Goals as goal

pub loop-number-preserved-in-Continue-1 : goal.loop-number-preserved-in-Continue-1
loop-number-preserved-in-Continue-1 c =
    let within = c.loop-number.invariant.0 in
    let some = c.loop-number-test.true in
    let next : c.loop-number.number ≡ suc (c.loop-number.number - 1) = omega (arith, some) in
    let lt : c.loop-number.number - 1 < length c.args.steps.now = omega (arith, some, within) in (
      omega (arith, within),
      λ n. c.in_ok-put_number.ensures (length c.args.steps.now) n
          ∙ one_named c.args.steps.now (c.loop-number.number - 1) c.loop-number.number next lt c.index-steps-number.result
          c.index-steps-number.is c.in-Named.name c.in-Named.heads.items (ap plain_step c.in-Named.is)
          (place_or (length c.args.steps.now) c.loop-number.named.entries) c.loop-number.invariant.1 n,
    )
