use Rattle.ev_bind.proofs.Fitting.{found, complete}
use Rattle.ev_bind.proofs.laws.matches_are_exact.Goals as goal

pub returns-clause-found : goal.returns-clause-found
returns-clause-found c = found

pub returns-clause-complete : goal.returns-clause-complete
returns-clause-complete c = complete
