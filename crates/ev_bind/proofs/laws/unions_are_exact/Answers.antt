use Rattle.ev_bind.proofs.Uniting.{agree, values}
use Rattle.ev_bind.proofs.laws.unions_are_exact.Goals as goal

pub returns-clause-agree : goal.returns-clause-agree
returns-clause-agree c = agree

pub returns-clause-values : goal.returns-clause-values
returns-clause-values c = values
