use Rattle.change_meaning.proofs.TurnLaws.{join_number, minus_number}
use Rattle.change_meaning.proofs.laws.visits_are_counted.Goals as goal

pub returns : goal.returns
returns c = record { joins = join_number; minuses = minus_number }
