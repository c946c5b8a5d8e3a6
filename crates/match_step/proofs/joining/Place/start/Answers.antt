use Rattle.match_step.proofs.RowLaws.{starts}
use Rattle.match_step.proofs.joining.Place.start.Goals as goal

pub returns : goal.returns
returns c = starts
