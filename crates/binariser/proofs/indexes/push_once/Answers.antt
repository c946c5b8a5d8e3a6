use Rattle.std.proofs.Common.{◌∙◌, sym, ap, map}
use Rattle.std.specs.List.{list_any}
use Rattle.rule_ast.specs.PlainPlans.{plain_index}
use Rattle.step_meaning.specs.PlanOf.{same_index}
use Rattle.binariser.proofs.IndexLaws.{any_at, known_index}
use Rattle.binariser.proofs.indexes.push_once.Goals as goal

pub returns-then-is_same : goal.returns-then-is_same
returns-then-is_same c =
    known_index (map plain_index c.args.indexes.now.items) (plain_index c.args.index)
    (ap (λ xs. list_any (same_index (plain_index c.args.index)) (map plain_index xs)) (sym c.as_slice-known-items.ensures.value)
    ∙ any_at (same_index (plain_index c.args.index)) plain_index c.as_slice-known-items.result.now c.loop-known.known-index
    c.known-item.result c.loop-known-test.true c.known-item.is (sym c.is_same.ensures ∙ c.if-is_same.true))
