use Rattle.event_reader.proofs.LineLaws.{heard_so}
use Rattle.event_reader.proofs.reading.parse_line.Goals as goal

pub returns : goal.returns
returns c = heard_so _ _ c.requires c.line_input.ensures
