use Rattle.change_meaning.proofs.TurnLaws.{answer_at}
use Rattle.change_meaning.proofs.laws.turns_answer_by_their_units.Goals as goal

pub returns : goal.returns
returns c = answer_at
