use Rattle.rule_ast.specs.Plain.{plain_pattern}
use Rattle.rule_check.proofs.FirstOffender.{both_sides}
use Rattle.rule_check.proofs.offenders.+or_offender.Goals as goal

pub returns-in-Either : goal.returns-in-Either
returns-in-Either t c =
    rw c.in-Either.is
    (both_sides c.args.may.now _ _ _ _ (plain_pattern c.in-Either.left.value) (plain_pattern c.in-Either.right.value) _ _ _
    (rw c.deref-in-Either.ensures at c.vars_of.ensures) c.narrowed-for_left.ensures (rw c.deref-in-Either-3.ensures at c.or_offender-in-Either.ensures)
    (rw c.deref-in-Either-2.ensures at c.vars_of-in-Either.ensures) c.narrowed-for_right.ensures (rw c.deref-in-Either-4.ensures at c.or_offender-in-Either-2.ensures)
    c.or-in-Either.ensures)
