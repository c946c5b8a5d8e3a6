use Rattle.rule_ast.specs.Plain.{plain_rule}
use Rattle.rule_writer.proofs.StatementArms.{rule_written}
use Rattle.rule_writer.proofs.statements.write_rule.Goals as goal

pub returns : goal.returns
returns c n =
    rule_written (plain_rule c.args.rule.now) n (rw c.as_slice-names.ensures.value at (c.in_ok-write_head.ensures n)) c.in_ok-write_str.ensures
    (rw c.as_slice-names.ensures.value at (c.in_ok-write_pattern.ensures 0)) c.in_ok-write_str-2.ensures
