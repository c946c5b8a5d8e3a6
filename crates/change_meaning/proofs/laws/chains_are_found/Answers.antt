use Rattle.change_meaning.proofs.CourseLaws.{blocks_at}
use Rattle.change_meaning.proofs.laws.chains_are_found.Goals as goal

pub returns : goal.returns
returns c = λ steps ok caps b before after spans i j f n l e r there. blocks_at steps ok caps b after spans before i j f n l e r there
