use Rattle.rule_writer.proofs.Appending.{slot_name_written, slot_zero_written}
use Rattle.rule_writer.proofs.terms.write_slot.Goals as goal

pub returns-in_ok-write_slot_name-in-Argument : goal.returns-in_ok-write_slot_name-in-Argument
returns-in_ok-write_slot_name-in-Argument c d =
    slot_name_written c.args.place c.args.names.now c.args.slot d c.in-Argument.is c.in_ok-write_slot_name-in-Argument.ensures

pub returns-in_ok-write_str-in-Ground : goal.returns-in_ok-write_str-in-Ground
returns-in_ok-write_str-in-Ground c d = slot_zero_written c.args.place c.args.names.now c.args.slot d c.in-Ground.is c.in_ok-write_str-in-Ground.ensures
