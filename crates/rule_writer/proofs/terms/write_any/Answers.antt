use Rattle.rule_writer.proofs.Appending.{any_wild_written, any_zero_written}
use Rattle.rule_writer.proofs.terms.write_any.Goals as goal

pub returns-in_ok-write_str-in-Argument : goal.returns-in_ok-write_str-in-Argument
returns-in_ok-write_str-in-Argument c d = any_wild_written c.args.place d c.in-Argument.is c.in_ok-write_str-in-Argument.ensures

pub returns-in_ok-write_str-in-Operand : goal.returns-in_ok-write_str-in-Operand
returns-in_ok-write_str-in-Operand c d = any_zero_written c.args.place d c.in-Operand.is c.in_ok-write_str-in-Operand.ensures
