use Rattle.std.proofs.Common.{◌≤◌, Some, length, map, arith, sym, ap, refl}
use Rattle.std.proofs.lemmas.List.Elements.{All-push, All-pop, All-same}
use Rattle.std.proofs.lemmas.List.{length-map}
use Rattle.std.proofs.lemmas.Result.{err_from_is_err_and}
use Rattle.rule_ast.specs.Plain.{plain_pattern}
use Rattle.rule_ast.specs.PlainPlans.{plain_step}
use Rattle.binariser.specs.Making.{place_in}
use Rattle.binariser.proofs.ClimbingLaws.{size, left_smaller, down, up, up_grows, climbed_below, fewer, not_is, not_before, not_after, not_joined}
use Rattle.binariser.proofs.bodies.+bodies.Goals as goal

pub body_steps-loop-left-preserved : goal.body_steps-loop-left-preserved
body_steps-loop-left-preserved t c =
    let h = c.loop-left.invariant in
    let pushed = c.in_ok-push.ensures.items in
    let left_is = c.in-Some.ensures in
    let less = left_smaller (plain_pattern c.loop-left.first.now) (plain_pattern c.in-Some.left.now) (sym left_is) in (
      λ ss. down (place_in c.args.places.now) (λ p. plain_pattern p.now) _ _ c.loop-left.first
          (plain_pattern c.in-Some.left.now) ss _ pushed left_is (h.0 ss),
      All-same (λ p. size (plain_pattern p.now) ≤ size (plain_pattern c.args.pattern.now)) _ _ pushed
          (All-push (λ p. size (plain_pattern p.now) ≤ size (plain_pattern c.args.pattern.now)) _ _ h.1 h.2),
      omega (arith, less, h.2),
    )

pub body_steps-returns-in_err-last : goal.body_steps-returns-in_err-last
body_steps-returns-in_err-last t c =
    let p = err_from_is_err_and c.from_residual-in_err-last.result c.from_residual-in_err-last.ensures.1 in
    rw (p.1, p.2) (fewer _ _ _ _ _
    (climbed_below (place_in c.args.places.now) (map (λ p. plain_pattern p.now) c.loop-left.spine.items) _ _
    (c.loop-left.invariant.0 (map plain_step c.args.steps.now.items))) c.in_err-last.ensures)

pub body_steps-returns-in_err-last-2 : goal.body_steps-returns-in_err-last-2
body_steps-returns-in_err-last-2 t c =
    let p = err_from_is_err_and c.from_residual-in_err-last-2.result c.from_residual-in_err-last-2.ensures.1 in
    rw (p.1, p.2) (fewer _ _ _ _ _
    (up_grows (place_in c.args.places.now)
    (λ p. plain_pattern p.now) _ _ c.in-Some-pop.whole _ _ c.in-Some-pop.ensures.items c.loop-whole.invariant.0) c.in_err-last-2.ensures)

pub body_steps-loop-whole-preserved : goal.body_steps-loop-whole-preserved
body_steps-loop-whole-preserved t c =
    let h = c.loop-whole.invariant in
    let popped = c.in-Some-pop.ensures.items in
    let made = c.in_ok-last-2.ensures in (
      up (place_in c.args.places.now) (λ p. plain_pattern p.now) _ _ c.in-Some-pop.whole _ _ _ popped h.0 made.0,
      rw made.0 made.1,
      (let same = ap length made.0 in let few = made.2 in let kept = length-map c.steps_over.new.steps.items plain_step in
          omega (arith, same, few, kept)),
      (All-pop (λ p. size (plain_pattern p.now) ≤ size (plain_pattern c.args.pattern.now)) _ _ (Some c.in-Some-pop.whole) popped h.3).0,
    )

pub first_steps-returns-in_err-before_step-in-Not : goal.first_steps-returns-in_err-before_step-in-Not
first_steps-returns-in_err-before_step-in-Not t c =
    let p = err_from_is_err_and c.from_residual-in_err-before_step-in-Not.result c.from_residual-in_err-before_step-in-Not.ensures.1 in
    rw (p.1, p.2) (fewer _ _ _ _ _
    (not_before (place_in c.args.places.now) _ _ _ _ _
    (not_is _ _ _ _ (plain_pattern c.deref.result.now) _ (ap plain_pattern c.in-Not.is)
    (ap plain_pattern c.deref.ensures) refl)) c.in_err-before_step-in-Not.ensures)

pub first_steps-returns-in_err-after_step-in-Not : goal.first_steps-returns-in_err-after_step-in-Not
first_steps-returns-in_err-after_step-in-Not t c =
    let p = err_from_is_err_and c.from_residual-in_err-after_step-in-Not.result c.from_residual-in_err-after_step-in-Not.ensures.1 in
    rw (p.1, p.2) (fewer _ _ _ _ _
    (not_after (place_in c.args.places.now) _ _ _ _ _ _
    (not_is _ _ _ _ (plain_pattern c.deref.result.now) (plain_pattern c.deref-in-Not.result.now) (ap plain_pattern c.in-Not.is)
    (ap plain_pattern c.deref.ensures)
    (ap plain_pattern c.deref-in-Not.ensures)) c.in_ok-before_step-in-Not.ensures.0) c.in_err-after_step-in-Not.ensures)

pub first_steps-returns-in_err-joined-in-Not : goal.first_steps-returns-in_err-joined-in-Not
first_steps-returns-in_err-joined-in-Not t c =
    let p = err_from_is_err_and c.from_residual-in_err-joined-in-Not.result c.from_residual-in_err-joined-in-Not.ensures.1 in
    rw (p.1, p.2) (fewer _ _ _ _ _
    (not_joined (place_in c.args.places.now) _ _ _ _ _ _ _ _
    (not_is _ _ _ _ (plain_pattern c.deref.result.now) (plain_pattern c.deref-in-Not.result.now) (ap plain_pattern c.in-Not.is)
    (ap plain_pattern c.deref.ensures)
    (ap plain_pattern c.deref-in-Not.ensures)) c.in_ok-before_step-in-Not.ensures.0 c.in_ok-after_step-in-Not.ensures.0)
    c.in_err-joined-in-Not.ensures)
