use Rattle.rule_writer.proofs.HeadArms.{leading_written, fixed_written}
use Rattle.rule_writer.proofs.heads.write_head_term.Goals as goal

pub returns-in_ok-write_slot_name-in-Var : goal.returns-in_ok-write_slot_name-in-Var
returns-in_ok-write_slot_name-in-Var c = rw c.in-Var.is (leading_written c.args.names.now c.in-Var.slot c.in_ok-write_slot_name-in-Var.ensures)

pub returns-in_ok-write_term-in_default : goal.returns-in_ok-write_term-in_default
returns-in_ok-write_term-in_default c = fixed_written c.args.names.now c.args.pat.now c.in_default.not-Var (c.in_ok-write_term-in_default.ensures 1)
