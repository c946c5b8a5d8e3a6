use Rattle.rule_writer.proofs.ReadBack.{held_again, utf8_again}
use Rattle.rule_writer.proofs.round_trip.rule_files_are_read_back.Goals as goal

pub returns-clause-held : goal.returns-clause-held
returns-clause-held c = held_again c.written_is_read.ensures c.terminals_are_proper.ensures

pub returns-clause-utf8 : goal.returns-clause-utf8
returns-clause-utf8 c = utf8_again c.terminals_are_proper.ensures
