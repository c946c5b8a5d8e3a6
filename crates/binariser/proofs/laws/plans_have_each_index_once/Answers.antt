use Rattle.binariser.proofs.OwnIndexes.{indexes_once}
use Rattle.binariser.proofs.laws.plans_have_each_index_once.Goals as goal

pub returns : goal.returns
returns c = indexes_once
