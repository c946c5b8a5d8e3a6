use Rattle.horizon_meaning.specs.Lengths.{reach_is_sum}
use Rattle.horizon_meaning.proofs.laws.reaches_are_sums.Goals as goal

pub returns : goal.returns
returns c = reach_is_sum
