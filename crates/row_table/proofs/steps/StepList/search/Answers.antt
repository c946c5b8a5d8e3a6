use Rattle.std.proofs.Common.{◌≡◌, ◌-◌, length, get_or, sym, ap, ◌∙◌, subst, arith, rules}
use Rattle.std.proofs.lemmas.List.Sorted.{answers_always}
use Rattle.row_table.specs.Pairs.{IsGapFor}
use Rattle.row_table.proofs.Place.{searched, gap_at_end}
use Rattle.row_table.proofs.steps.StepList.search.Goals as goal

-- the closure gives a pair's key, and the slice is the map's pairs
pub returns : goal.returns
returns g c =
    let facts = c.binary_search_by_key.ensures in
    let by_key = facts.position (λ pair. pair.0) (answers_always _ _ _ (λ f a r g called. search rules)) in
    rw (← c.self.view_is, ← c.deref.ensures.value) (searched _ (rw c.deref.ensures.value c.self.invariant) c.args.step _ facts.bound by_key)

-- above the last step
pub returns-then-index-step-clause-absent : goal.returns-then-index-step-clause-absent
returns-then-index-step-clause-absent g c =
    let e : c.len-len.result ≡ length c.self.inside.pairs.items = c.len-len.ensures ∙ c.self.inside.pairs.ok.0 in
    subst (λ l. IsGapFor l c.args.step c.len-len.result) c.self.view_is
    (subst (λ n. IsGapFor c.self.inside.pairs.items c.args.step n) (sym e)
    (gap_at_end c.self.inside.pairs.items c.self.invariant c.args.step c.index.result.now (omega (arith, c.if-len-gt0.true, e))
    (c.index.ensures ∙ ap (λ n. get_or c.self.inside.pairs.items (n - 1) c.index.result.now) e) c.if-index-step.true))
