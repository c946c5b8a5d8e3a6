use Rattle.std.proofs.Common.{◌≡◌, ◌∙◌, sym, ap, map, subst, slice_get}
use Rattle.rule_ast.specs.PlainPlans.{plain_index}
use Rattle.step_meaning.specs.PlanOf.{with_index}
use Rattle.step_work.proofs.IndexLaws.{known_index, known_place}
use Rattle.step_work.proofs.ways.place_of.Goals as goal

pub returns-then-is_same-clause-indexes : goal.returns-then-is_same-clause-indexes
returns-then-is_same-clause-indexes c =
    subst (λ xs. map plain_index xs ≡ with_index (map plain_index xs) (plain_index c.args.wanted)) c.as_slice-known-items.ensures.value
    (known_index c.as_slice-known-items.result.now c.args.wanted c.known-item.result c.loop-known.known-index c.loop-known-test.true
    c.known-item.is (sym c.is_same.ensures ∙ c.if-is_same.true))

pub returns-then-is_same-clause-place : goal.returns-then-is_same-clause-place
returns-then-is_same-clause-place c =
    ap (λ xs. slice_get (map plain_index xs) c.loop-known.place) (sym c.as_slice-known-items.ensures.value)
    ∙ known_place c.as_slice-known-items.result.now c.args.wanted c.known-item.result c.loop-known.known-index c.loop-known-test.true
    c.known-item.is (sym c.is_same.ensures ∙ c.if-is_same.true) c.loop-known.place c.loop-known.invariant.0
