use Rattle.std.proofs.Common.{◌+◌, Some, None, sym, ap, ◌∙◌, arith}
use Rattle.std.specs.Prelude.{◌==◌, if◌then◌else◌}
use Rattle.std.proofs.lemmas.Bool.{ne_eqb}
use Rattle.support_table.specs.Supports.{count_of, row_at, counts_only, same_counts}
use Rattle.support_table.specs.declared.supports.Change.TheVariants.{Appeared, Same}
use Rattle.support_table.proofs.Counting.{on_err, some_row, was, with_count}
use Rattle.support_table.proofs.kept.Supports.add_at.Goals as goal

pub overflow_add-count : goal.overflow_add-count
overflow_add-count c =
    let held = some_row (row_at c.args.self.now c.args.number) c.requires.held in
    omega (arith, c.requires.fits held.0 held.1, was c.args.self.now c.args.number c.args.step held.0 held.1 (Some c.in-Some.count) (sym c.at.ensures ∙ c.in-Some.is))

pub returns-in_err-put-in-None-clause-err : goal.returns-in_err-put-in-None-clause-err
returns-in_err-put-in-None-clause-err c = on_err _ _ (same_counts c.args.self.now _ c.in_err-put-in-None.ensures.err (λ n k e. c.put.ensures.keys n ∙ e))

pub returns-in_ok-put-in-None-clause-counts : goal.returns-in_ok-put-in-None-clause-counts
returns-in_ok-put-in-None-clause-counts c = λ row held.
    with_count c.args.self.now _ c.args.step row (count_of c.args.self.now c.args.step row + c.args.n) c.args.n
    (counts_only c.args.self.now _ c.args.number c.args.step row (Some c.args.n) held c.in_ok-put-in-None.ensures.here c.in_ok-put-in-None.ensures.steps c.put.ensures.others c.put.ensures.keys)
    (omega (arith, was c.args.self.now c.args.number c.args.step row held None (sym c.at.ensures ∙ c.in-None.is)))

pub returns-in_ok-put-in-None-clause-change : goal.returns-in_ok-put-in-None-clause-change
returns-in_ok-put-in-None-clause-change c = λ row held.
    sym (ap (λ m. if m == 0 then Appeared else Same) (was c.args.self.now c.args.number c.args.step row held None (sym c.at.ensures ∙ c.in-None.is)))

pub returns-then-count-eq0-clause-counts : goal.returns-then-count-eq0-clause-counts
returns-then-count-eq0-clause-counts c = λ row held.
    with_count c.args.self.now _ c.args.step row (count_of c.args.self.now c.args.step row + c.args.n) (c.in-Some.count + c.args.n)
    (counts_only c.args.self.now _ c.args.number c.args.step row (Some (c.in-Some.count + c.args.n)) held c.set.ensures.here c.set.ensures.steps c.set.ensures.others c.set.ensures.keys)
    (omega (arith, was c.args.self.now c.args.number c.args.step row held (Some c.in-Some.count) (sym c.at.ensures ∙ c.in-Some.is)))

pub returns-then-count-eq0-clause-change : goal.returns-then-count-eq0-clause-change
returns-then-count-eq0-clause-change c = λ row held.
    sym (ap (λ m. if m == 0 then Appeared else Same) (was c.args.self.now c.args.number c.args.step row held (Some c.in-Some.count) (sym c.at.ensures ∙ c.in-Some.is) ∙ c.if-count-eq0.true))

pub returns-else-count-eq0-clause-counts : goal.returns-else-count-eq0-clause-counts
returns-else-count-eq0-clause-counts c = λ row held.
    with_count c.args.self.now _ c.args.step row (count_of c.args.self.now c.args.step row + c.args.n) (c.in-Some.count + c.args.n)
    (counts_only c.args.self.now _ c.args.number c.args.step row (Some (c.in-Some.count + c.args.n)) held c.set.ensures.here c.set.ensures.steps c.set.ensures.others c.set.ensures.keys)
    (omega (arith, was c.args.self.now c.args.number c.args.step row held (Some c.in-Some.count) (sym c.at.ensures ∙ c.in-Some.is)))

pub returns-else-count-eq0-clause-change : goal.returns-else-count-eq0-clause-change
returns-else-count-eq0-clause-change c = λ row held.
    sym (ap (λ b. if b then Appeared else Same) (ap (λ m. m == 0) (was c.args.self.now c.args.number c.args.step row held (Some c.in-Some.count) (sym c.at.ensures ∙ c.in-Some.is)) ∙ ne_eqb c.in-Some.count 0 c.if-count-eq0.false))
