use Rattle.rule_writer.proofs.StatementArms.{show_written}
use Rattle.rule_writer.proofs.statements.write_statement.Goals as goal

pub returns-in_ok-write_rule-in-Rule : goal.returns-in_ok-write_rule-in-Rule
returns-in_ok-write_rule-in-Rule c n = rw c.in-Rule.is (c.in_ok-write_rule-in-Rule.ensures n)

pub returns-in_ok-write_str-in-Show-2 : goal.returns-in_ok-write_str-in-Show-2
returns-in_ok-write_str-in-Show-2 c n =
    rw c.in-Show.is (show_written c.in-Show.names.items n c.in_ok-write_str-in-Show.ensures (rw c.as_slice.ensures.value at c.in_ok-write_items-in-Show.ensures) c.in_ok-write_str-in-Show-2.ensures)
