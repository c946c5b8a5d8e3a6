use Rattle.horizon_meaning.specs.Belows.{below_at}
use Rattle.horizon_meaning.specs.Equations.{cap_whole, reach_whole}
use Rattle.horizon_meaning.proofs.laws.caps_are_those_of_users.Goals as goal

pub returns : goal.returns
returns c = record { lengths = below_at; caps = cap_whole; reaches = reach_whole }
