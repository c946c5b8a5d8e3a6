use Rattle.goal_purge.proofs.Entries.{taken_out}
use Rattle.goal_purge.proofs.expiries.Expiries.remove.Goals as goal

pub returns-clause-ok : goal.returns-clause-ok
returns-clause-ok c =
    taken_out c.args.self.now (record { entries = c.remove.new.self }) c.args.cap c.args.reach c.args.row.now.span c.in-Some.bound
    c.args.step c.in_ok-row.row c.args.row.now c.in_ok-row.ensures c.in-Some.ensures c.remove.ensures.updates
