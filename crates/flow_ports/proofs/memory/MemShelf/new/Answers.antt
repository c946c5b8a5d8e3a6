use Rattle.flow_ports.proofs.HeldLemmas.{held_at-own}
use Rattle.flow_ports.proofs.memory.MemShelf.new.Goals as goal

pub returns-clause-each : goal.returns-clause-each
returns-clause-each c = held_at-own c.args.files.items c.requires
