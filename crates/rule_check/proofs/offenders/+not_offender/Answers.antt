use Rattle.std.proofs.Common.{arith, ◌≡◌, ◌++◌}
use Rattle.rule_ast.specs.Plain.{plain_pattern}
use Rattle.rule_check.specs.Offenders.{first, not_offenders}
use Rattle.rule_check.specs.Allowed.{allowed}
use Rattle.rule_check.proofs.FirstOutside.{first-append}
use Rattle.rule_check.proofs.FirstOffender.{negated}
use Rattle.rule_check.proofs.offenders.+not_offender.Goals as goal

pub returns-in-Not : goal.returns-in-Not
returns-in-Not t c =
    let in_edges : c.or-in_edges.result ≡ first (not_offenders (allowed c.args.may.now) (plain_pattern c.in-Not.before.value) ++ not_offenders (allowed c.args.may.now) (plain_pattern c.in-Not.after.value)) =
    grind (arith, first-append) in
    rw c.in-Not.is
    (negated c.args.may.now _ _ _ (plain_pattern c.in-Not.inner.value) (plain_pattern c.in-Not.before.value) (plain_pattern c.in-Not.after.value) _ _ _
    (rw c.deref-in-Not.ensures at c.vars_of.ensures) (rw c.deref-in-Not-2.ensures at c.vars_of-in-Not.ensures) c.union.ensures in_edges
    (rw c.deref-in-Not-5.ensures at c.not_offender-in-Not-3.ensures) c.or-in-Not.ensures)
