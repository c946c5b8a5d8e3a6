-- What a fault of an atom is to its line.
use Rattle.term_reader.specs.declared.faults.TermFault.{TermFault}
use Rattle.term_reader.specs.declared.faults.TermFault.TheVariants as of_term
use Rattle.event_reader.specs.declared.faults.LineFault.{LineFault}
use Rattle.event_reader.specs.declared.faults.LineFault.TheVariants.{Syntax, Memory}

abbrev pub line_fault : TermFault → LineFault
line_fault (of_term.Syntax place) = Syntax place
line_fault (of_term.TooDeep place) = Syntax place
line_fault (of_term.TooWide place) = Syntax place
line_fault (of_term.NumberRange place) = Syntax place
line_fault of_term.Memory = Memory
