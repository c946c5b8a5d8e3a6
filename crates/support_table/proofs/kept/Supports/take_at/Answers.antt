use Rattle.std.proofs.Common.{◌≡◌, ◌-◌, Some, None, sym, ap, ◌∙◌, arith}
use Rattle.std.specs.Prelude.{if◌then◌else◌}
use Rattle.std.proofs.lemmas.Bool.{ne_eqb, eq-eqb}
use Rattle.support_table.specs.Supports.{count_of, counts_only}
use Rattle.support_table.specs.declared.supports.Change.TheVariants.{Vanished, Same}
use Rattle.support_table.proofs.Counting.{was, with_count}
use Rattle.support_table.proofs.kept.Supports.take_at.Goals as goal

pub returns-in-None-clause-counts : goal.returns-in-None-clause-counts
returns-in-None-clause-counts c = λ row held.
    absurd (omega (arith, was c.args.self.now c.args.number c.args.step row held None (sym c.at.ensures ∙ c.in-None.is), c.requires.enough row held, c.requires.some))

pub returns-in-None-clause-change : goal.returns-in-None-clause-change
returns-in-None-clause-change c = λ row held.
    absurd (omega (arith, was c.args.self.now c.args.number c.args.step row held None (sym c.at.ensures ∙ c.in-None.is), c.requires.enough row held, c.requires.some))

pub returns-then-count-n-clause-counts : goal.returns-then-count-n-clause-counts
returns-then-count-n-clause-counts c = λ row held.
    with_count c.args.self.now _ c.args.step row (count_of c.args.self.now c.args.step row - c.args.n) (c.in-Some.count - c.args.n)
    (counts_only c.args.self.now _ c.args.number c.args.step row (Some (c.in-Some.count - c.args.n)) held c.set.ensures.here c.set.ensures.steps c.set.ensures.others c.set.ensures.keys)
    (ap (λ m. m - c.args.n) (sym (was c.args.self.now c.args.number c.args.step row held (Some c.in-Some.count) (sym c.at.ensures ∙ c.in-Some.is))))

pub returns-then-count-n-clause-change : goal.returns-then-count-n-clause-change
returns-then-count-n-clause-change c = λ row held.
    let count : count_of c.args.self.now c.args.step row ≡ c.in-Some.count = was c.args.self.now c.args.number c.args.step row held (Some c.in-Some.count) (sym c.at.ensures ∙ c.in-Some.is) in
    sym (ap (λ b. if b then Vanished else Same) (ne_eqb (count_of c.args.self.now c.args.step row) c.args.n (λ e. absurd (omega (arith, e, count, c.if-count-n.true)))))

pub returns-else-count-n-clause-counts : goal.returns-else-count-n-clause-counts
returns-else-count-n-clause-counts c = λ row held.
    let count : count_of c.args.self.now c.args.step row ≡ c.in-Some.count = was c.args.self.now c.args.number c.args.step row held (Some c.in-Some.count) (sym c.at.ensures ∙ c.in-Some.is) in
    with_count c.args.self.now _ c.args.step row (count_of c.args.self.now c.args.step row - c.args.n) 0
    (counts_only c.args.self.now _ c.args.number c.args.step row None held c.remove.ensures.gone c.remove.ensures.steps c.remove.ensures.others c.remove.ensures.keys)
    (omega (arith, count, c.if-count-n.false))

pub returns-else-count-n-clause-change : goal.returns-else-count-n-clause-change
returns-else-count-n-clause-change c = λ row held.
    let count : count_of c.args.self.now c.args.step row ≡ c.in-Some.count = was c.args.self.now c.args.number c.args.step row held (Some c.in-Some.count) (sym c.at.ensures ∙ c.in-Some.is) in
    sym (ap (λ b. if b then Vanished else Same) (eq-eqb (count_of c.args.self.now c.args.step row) c.args.n (omega (arith, count, c.requires.enough row held, c.if-count-n.false))))
