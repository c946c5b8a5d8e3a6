use Rattle.line_reader.proofs.CutLaws.{lines_of-given}
use Rattle.line_reader.proofs.cutting.given_lines_are_the_lines.Goals as goal

pub returns : goal.returns
returns c = lines_of-given
