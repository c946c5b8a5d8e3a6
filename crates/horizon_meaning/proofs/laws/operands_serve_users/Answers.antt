use Rattle.horizon_meaning.specs.Holds.{user_cap, user_reach, shown_cap}
use Rattle.horizon_meaning.proofs.laws.operands_serve_users.Goals as goal

pub returns : goal.returns
returns c = record { caps = user_cap; reaches = user_reach; shown = shown_cap }
