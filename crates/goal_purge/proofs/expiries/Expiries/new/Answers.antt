use Rattle.goal_purge.proofs.Entries.{empty_due}
use Rattle.goal_purge.proofs.expiries.Expiries.new.Goals as goal

pub returns : goal.returns
returns c = empty_due (record { entries = c.new.result }) c.new.ensures.empty
