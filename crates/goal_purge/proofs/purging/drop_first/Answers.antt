use Rattle.goal_purge.proofs.Purges.{purges_more}
use Rattle.goal_purge.proofs.purging.drop_first.Goals as goal

pub returns-in-Some-clause-purges : goal.returns-in-Some-clause-purges
returns-in-Some-clause-purges c = λ caps g u h.
    purges_more caps c.args.bound g u c.ranges.bound.fits c.args.goals.now c.drop_goal.new.goals c.args.supports.now c.forget.new.supports
    c.args.expiries.now c.pop.new.self c.in-Some.expiry.bound c.in-Some.expiry.step c.in-Some.expiry.row c.drop_goal.result
    c.in-Some.ensures.within c.in-Some.ensures.was c.in-Some.ensures.less c.drop_goal.ensures.was c.drop_goal.ensures.dropped
    c.forget.ensures h
