use Rattle.goal_purge.proofs.Entries.{put_in}
use Rattle.goal_purge.proofs.expiries.Expiries.insert.Goals as goal

pub returns-clause-ok : goal.returns-clause-ok
returns-clause-ok c =
    put_in c.args.self.now (record { entries = c.insert.new.self }) c.args.cap c.args.reach c.args.row.now.span c.in-Some.bound c.args.step
    c.in_ok-row.row c.args.row.now c.in_ok-row.ensures c.in-Some.ensures c.in_ok-insert.ensures.updates
