use Rattle.std.proofs.Common.{rules, ◌≡◌, ◌<◌, ◌≤◌, ◌-◌, [], length, map, get_or, ap, sym, ◌∙◌, arith, subst}
use Rattle.std.proofs.lemmas.List.{length-map}
use Rattle.rule_ast.specs.PlainPlans.{plain_step}
use Rattle.step_meaning.specs.Operands.{AreLower}
use Rattle.horizon_meaning.specs.Caps.{belows}
use Rattle.horizon_meaning.specs.Lengths.{least}
use Rattle.goal_purge.proofs.Laws.{operands_under, swept_end, swept_more}
use Rattle.goal_purge.proofs.caps.caps_of.Goals as goal

pub loop-i-init : goal.loop-i-init
loop-i-init c =
    let V = c.as_slice-steps.ensures.value in
    let S = c.args.plan.now.steps.items in
    let size : length c.as_slice-steps.result.now ≡ length (map plain_step S) = ap length V ∙ sym (length-map S plain_step) in
    rw (c.new-cap.ensures.items, c.new-reach.ensures.items)
    (swept_end c.args.plan.now.shown.items (map plain_step S) (length c.as_slice-steps.result.now) c.in_ok-users.users.items
    c.in_ok-seekers.seekers.items size (search rules) (search rules))

pub charge_step-requires : goal.charge_step-requires
charge_step-requires c =
    let V = c.as_slice-steps.ensures.value in
    let S = c.args.plan.now.steps.items in
    let l : c.loop-i.i - 1 < length c.as_slice-steps.result.now = omega (arith, c.loop-i.auto.i, c.loop-i-test.true) in
    let le : c.loop-i.i - 1 ≤ length c.loop-i.users.items =
    omega (arith, l, ap length V, length-map S plain_step, c.loop-i.invariant.all.size) in
    operands_under c.as_slice-steps.result.now c.index-steps-i.result (c.loop-i.i - 1) (length c.loop-i.users.items)
    (subst (λ x. AreLower (map plain_step x)) (sym V) c.requires) l c.index-steps-i.is le

pub charge_seeker-requires : goal.charge_seeker-requires
charge_seeker-requires c =
    let V = c.as_slice-steps.ensures.value in
    let S = c.args.plan.now.steps.items in
    let l : c.loop-i.i - 1 < length c.as_slice-steps.result.now = omega (arith, c.loop-i.auto.i, c.loop-i-test.true) in
    let le : c.loop-i.i - 1 ≤ length c.loop-i.seekers.items =
    omega (arith, l, ap length V, length-map S plain_step, c.loop-i.invariant.some.size) in
    operands_under c.as_slice-steps.result.now c.index-steps-i.result (c.loop-i.i - 1) (length c.loop-i.seekers.items)
    (subst (λ x. AreLower (map plain_step x)) (sym V) c.requires) l c.index-steps-i.is le

pub loop-i-preserved : goal.loop-i-preserved
loop-i-preserved c =
    let V = c.as_slice-steps.ensures.value in
    let S = c.args.plan.now.steps.items in
    let z : 0 < c.loop-i.i = omega (arith, c.loop-i-test.true) in
    let l : c.loop-i.i ≤ length S = omega (arith, ap length V, c.loop-i.auto.i) in
    let n : length c.in_ok-belows.belows.items ≡ length c.as_slice-steps.result.now = search rules in
    let s = c.index-steps-i.result in
    swept_more c.args.plan.now.shown.items S c.in_ok-belows.belows.items c.loop-i.i s
    c.loop-i.users.items c.charge_step.new.reaches.items c.loop-i.seekers.items c.charge_seeker.new.reaches.items
    c.loop-i.cap.items c.push.new.self.items c.loop-i.reach.items c.push-in-loop-i.new.self.items
    c.index.result.now c.least-most.result c.index-in-loop-i.result.now c.index-reached.result.now
    z l (c.index-steps-i.is ∙ ap (λ xs. get_or xs (c.loop-i.i - 1) s) V)
    (c.in_ok-belows.ensures.items ∙ ap (λ xs. belows (map plain_step xs) []) V) (n ∙ ap length V)
    c.index-in-loop-i.ensures c.index-reached.ensures c.index.ensures
    (c.least-most.ensures ∙ ap (least c.index.result.now) c.needed.ensures)
    c.charge_step.ensures c.charge_seeker.ensures c.in_ok-push.ensures.items c.in_ok-push-2.ensures.items c.loop-i.invariant
