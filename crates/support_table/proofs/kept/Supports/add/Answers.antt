use Rattle.std.proofs.Common.{◌≡◌, ◌+◌, sym, ap, subst, arith}
use Rattle.std.specs.Prelude.{◌==◌, if◌then◌else◌}
use Rattle.support_table.specs.Supports.{count_of, Counts}
use Rattle.support_table.specs.declared.supports.Change.TheVariants.{Appeared, Same}
use Rattle.support_table.proofs.Counting.{counts_none, with_count}
use Rattle.support_table.proofs.kept.Supports.add.Goals as goal

-- a row without a number has no count
none : (c : goal.In_ok-add_new-in-None) → count_of c.args.self.now c.args.step c.args.row.now ≡ 0
none c = (counts_none c.args.self.now c.args.step c.args.row.now c.in-None.ensures).this

pub returns-in_ok-add_new-in-None-clause-counts : goal.returns-in_ok-add_new-in-None-clause-counts
returns-in_ok-add_new-in-None-clause-counts c =
    with_count c.args.self.now _ c.args.step c.args.row.now (count_of c.args.self.now c.args.step c.args.row.now + c.args.n) c.args.n
    (subst (λ r. Counts c.args.self.now c.add_new.new.self c.args.step r c.args.n) c.in_ok-share-in-None.ensures c.in_ok-add_new-in-None.ensures.counts)
    (omega (arith, none c))

pub returns-in_ok-add_new-in-None-clause-change : goal.returns-in_ok-add_new-in-None-clause-change
returns-in_ok-add_new-in-None-clause-change c = sym (ap (λ m. if m == 0 then Appeared else Same) (none c))
