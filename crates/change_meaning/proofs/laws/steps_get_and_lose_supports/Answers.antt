use Rattle.change_meaning.specs.Moved.{came_of, went_of}
use Rattle.change_meaning.proofs.MoveLaws.{step_moves}
use Rattle.change_meaning.proofs.ShownLaws.{signed_moved}
use Rattle.change_meaning.proofs.laws.steps_get_and_lose_supports.Goals as goal

pub returns : goal.returns
returns c = record {
  balanced = λ before after es ev. step_moves before after (came_of es) (went_of es) ev;
  signs = signed_moved;
}
