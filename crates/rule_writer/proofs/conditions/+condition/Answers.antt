use Rattle.std.proofs.Common.{◌++◌, nat_lt, ap, ap₂, ◌∙◌}
use Rattle.rule_ast.specs.Plain.{plain_cond}
use Rattle.rule_writer.specs.Forms.{condition_form}
use Rattle.rule_writer.specs.Writes.{condition_rank}
use Rattle.rule_writer.proofs.Arms.{condition_bracketed, value_written, calc_written, compare_written, both_written, either_written, negated_written}
use Rattle.rule_writer.proofs.conditions.+condition.Goals as goal

pub write_bare-returns-in_ok-write_term-in-Value : goal.write_bare-returns-in_ok-write_term-in-Value
write_bare-returns-in_ok-write_term-in-Value t c d = rw c.in-Value.is (value_written c.args.names.now c.in-Value.pat d (c.in_ok-write_term-in-Value.ensures 1))

pub write_bare-returns-in_ok-write_condition-in-Calc-2 : goal.write_bare-returns-in_ok-write_condition-in-Calc-2
write_bare-returns-in_ok-write_condition-in-Calc-2 t c d =
    rw c.in-Calc.is
    (calc_written c.in-Calc.calc (condition_form c.args.names.now (plain_cond c.in-Calc.left.value)) (condition_form c.args.names.now (plain_cond c.in-Calc.right.value)) d (condition_rank c.calc_level.result) (condition_rank c.right_level.result) c.calc_level.ensures c.right_level.ensures
    (rw c.deref.ensures at (c.in_ok-write_condition-in-Calc.ensures d)) (c.in_ok-write_str-in-Calc.ensures ∙ ap (λ x. c.write_condition.new.out.items ++ x) c.calc_sign.ensures)
    (rw c.deref-in-Calc.ensures at (c.in_ok-write_condition-in-Calc-2.ensures d)))

pub write_bare-returns-in_ok-write_condition-in-Compare-2 : goal.write_bare-returns-in_ok-write_condition-in-Compare-2
write_bare-returns-in_ok-write_condition-in-Compare-2 t c d =
    rw c.in-Compare.is
    (compare_written c.in-Compare.cmp (condition_form c.args.names.now (plain_cond c.in-Compare.left.value)) (condition_form c.args.names.now (plain_cond c.in-Compare.right.value)) d (rw c.deref-in-Compare.ensures at (c.in_ok-write_condition-in-Compare.ensures d))
    (c.in_ok-write_str-in-Compare.ensures ∙ ap (λ x. c.write_condition-in-Compare.new.out.items ++ x) c.cmp_sign.ensures)
    (rw c.deref-in-Compare-2.ensures at (c.in_ok-write_condition-in-Compare-2.ensures d)))

pub write_bare-returns-in_ok-write_condition-in-AndAlso-2 : goal.write_bare-returns-in_ok-write_condition-in-AndAlso-2
write_bare-returns-in_ok-write_condition-in-AndAlso-2 t c d =
    rw c.in-AndAlso.is
    (both_written (condition_form c.args.names.now (plain_cond c.in-AndAlso.left.value)) (condition_form c.args.names.now (plain_cond c.in-AndAlso.right.value)) d (rw c.deref-in-AndAlso.ensures at (c.in_ok-write_condition-in-AndAlso.ensures d)) c.in_ok-write_str-in-AndAlso.ensures
    (rw c.deref-in-AndAlso-2.ensures at (c.in_ok-write_condition-in-AndAlso-2.ensures d)))

pub write_bare-returns-in_ok-write_condition-in-OrElse-2 : goal.write_bare-returns-in_ok-write_condition-in-OrElse-2
write_bare-returns-in_ok-write_condition-in-OrElse-2 t c d =
    rw c.in-OrElse.is
    (either_written (condition_form c.args.names.now (plain_cond c.in-OrElse.left.value)) (condition_form c.args.names.now (plain_cond c.in-OrElse.right.value)) d (rw c.deref-in-OrElse.ensures at (c.in_ok-write_condition-in-OrElse.ensures d)) c.in_ok-write_str-in-OrElse.ensures
    (rw c.deref-in-OrElse-2.ensures at (c.in_ok-write_condition-in-OrElse-2.ensures d)))

pub write_bare-returns-in_ok-write_condition-in-Not : goal.write_bare-returns-in_ok-write_condition-in-Not
write_bare-returns-in_ok-write_condition-in-Not t c d =
    rw c.in-Not.is (negated_written (condition_form c.args.names.now (plain_cond c.in-Not.inner.value)) d c.in_ok-write_str-in-Not.ensures (rw c.deref-in-Not.ensures at (c.in_ok-write_condition-in-Not.ensures d)))

pub write_condition-returns : goal.write_condition-returns
write_condition-returns t c d =
    condition_bracketed d (condition_rank c.args.level) (condition_form c.args.names.now (plain_cond c.args.cond.now)) (nat_lt c.rank.result c.rank-2.result)
    (ap₂ nat_lt (c.rank.ensures ∙ c.level_of.ensures c.args.names.now) c.rank-2.ensures) c.in_ok-write_if.ensures c.in_ok-write_bare.ensures c.in_ok-write_if-2.ensures
