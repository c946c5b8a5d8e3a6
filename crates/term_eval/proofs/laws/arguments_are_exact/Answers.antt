use Rattle.term_eval.proofs.Arguments.{fits_instance}
use Rattle.term_eval.proofs.laws.arguments_are_exact.Goals as goal

pub returns : goal.returns
returns c = fits_instance
