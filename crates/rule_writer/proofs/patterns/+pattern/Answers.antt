use Rattle.std.proofs.Common.{◌+◌, ◌++◌, nat_lt, ap, ap₂, ◌∙◌}
use Rattle.rule_ast.specs.Plain.{plain_cond, plain_pattern}
use Rattle.rule_grammar.specs.Trees.{Joint.Joined, Joint.Otherwise}
use Rattle.rule_writer.specs.Forms.{condition_form, pattern_form}
use Rattle.rule_writer.specs.Writes.{pattern_rank}
use Rattle.rule_writer.proofs.Arms.{pattern_bracketed, atom_written, joined_written, filtered_written, exact_written, most_written, not_written}
use Rattle.rule_writer.proofs.patterns.+pattern.Goals as goal

pub write_bare-returns-in_ok-write_compound-in-Atom : goal.write_bare-returns-in_ok-write_compound-in-Atom
write_bare-returns-in_ok-write_compound-in-Atom t c d =
    rw c.in-Atom.is (atom_written c.args.names.now c.in-Atom.atom.name c.in-Atom.atom.args d (rw c.as_slice.ensures at (c.in_ok-write_compound-in-Atom.ensures 0)))

pub write_bare-returns-in_ok-write_pattern-in-Both-2 : goal.write_bare-returns-in_ok-write_pattern-in-Both-2
write_bare-returns-in_ok-write_pattern-in-Both-2 t c d =
    rw c.in-Both.is
    (joined_written (Joined c.in-Both.op) (pattern_form c.args.names.now (plain_pattern c.in-Both.left.value)) (pattern_form c.args.names.now (plain_pattern c.in-Both.right.value)) d (rw c.deref.ensures at (c.in_ok-write_pattern-in-Both.ensures d))
    (c.in_ok-write_str-in-Both.ensures ∙ ap (λ x. c.write_pattern.new.out.items ++ x) c.op_word.ensures) (rw c.deref-in-Both.ensures at (c.in_ok-write_pattern-in-Both-2.ensures d)))

pub write_bare-returns-in_ok-write_pattern-in-Either-2 : goal.write_bare-returns-in_ok-write_pattern-in-Either-2
write_bare-returns-in_ok-write_pattern-in-Either-2 t c d =
    rw c.in-Either.is
    (joined_written Otherwise (pattern_form c.args.names.now (plain_pattern c.in-Either.left.value)) (pattern_form c.args.names.now (plain_pattern c.in-Either.right.value)) d (rw c.deref-in-Either.ensures at (c.in_ok-write_pattern-in-Either.ensures d)) c.in_ok-write_str-in-Either.ensures
    (rw c.deref-in-Either-2.ensures at (c.in_ok-write_pattern-in-Either-2.ensures d)))

pub write_bare-returns-in_ok-write_condition-in-Where : goal.write_bare-returns-in_ok-write_condition-in-Where
write_bare-returns-in_ok-write_condition-in-Where t c d =
    rw c.in-Where.is
    (filtered_written (pattern_form c.args.names.now (plain_pattern c.in-Where.of.value)) (condition_form c.args.names.now (plain_cond c.in-Where.condition)) d (rw c.deref-in-Where.ensures at (c.in_ok-write_pattern-in-Where.ensures d)) c.in_ok-write_str-in-Where.ensures (c.in_ok-write_condition-in-Where.ensures d))

pub write_bare-returns-in_ok-write_number-in-Exact : goal.write_bare-returns-in_ok-write_number-in-Exact
write_bare-returns-in_ok-write_number-in-Exact t c d =
    rw c.in-Exact.is (exact_written (pattern_form c.args.names.now (plain_pattern c.in-Exact.of.value)) c.in-Exact.ticks d (rw c.deref-in-Exact.ensures at (c.in_ok-write_pattern-in-Exact.ensures d)) c.in_ok-write_str-in-Exact.ensures c.in_ok-write_number-in-Exact.ensures)

pub write_bare-returns-in_ok-write_number-in-Within : goal.write_bare-returns-in_ok-write_number-in-Within
write_bare-returns-in_ok-write_number-in-Within t c d =
    rw c.in-Within.is (most_written (pattern_form c.args.names.now (plain_pattern c.in-Within.of.value)) c.in-Within.ticks d (rw c.deref-in-Within.ensures at (c.in_ok-write_pattern-in-Within.ensures d)) c.in_ok-write_str-in-Within.ensures c.in_ok-write_number-in-Within.ensures)

pub write_bare-returns-in_ok-write_str-in-Not-4 : goal.write_bare-returns-in_ok-write_str-in-Not-4
write_bare-returns-in_ok-write_str-in-Not-4 t c d =
    rw c.in-Not.is
    (not_written (pattern_form c.args.names.now (plain_pattern c.in-Not.inner.value)) (pattern_form c.args.names.now (plain_pattern c.in-Not.before.value)) (pattern_form c.args.names.now (plain_pattern c.in-Not.after.value)) d c.in_ok-write_str-in-Not.ensures (rw c.deref-in-Not.ensures at (c.in_ok-write_pattern-in-Not.ensures (d + 1))) c.in_ok-write_str-in-Not-2.ensures
    (rw c.deref-in-Not-2.ensures at (c.in_ok-write_pattern-in-Not-2.ensures (d + 1))) c.in_ok-write_str-in-Not-3.ensures
    (rw c.deref-in-Not-3.ensures at (c.in_ok-write_pattern-in-Not-3.ensures (d + 1))) c.in_ok-write_str-in-Not-4.ensures)

pub write_pattern-returns : goal.write_pattern-returns
write_pattern-returns t c d =
    pattern_bracketed d (pattern_rank c.args.level) (pattern_form c.args.names.now (plain_pattern c.args.pattern.now)) (nat_lt c.rank.result c.rank-2.result)
    (ap₂ nat_lt (c.rank.ensures ∙ c.level_of.ensures c.args.names.now) c.rank-2.ensures) c.in_ok-write_if.ensures c.in_ok-write_bare.ensures c.in_ok-write_if-2.ensures
