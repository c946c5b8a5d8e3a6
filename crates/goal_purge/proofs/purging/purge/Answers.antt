use Rattle.std.proofs.Common.{◌∙◌}
use Rattle.goal_purge.proofs.Purges.{purged_marks, purged_counts, purged_follows}
use Rattle.goal_purge.proofs.purging.purge.Goals as goal

pub loop-last-preserved : goal.loop-last-preserved
loop-last-preserved c = (
  (c.drop_first.ensures.plan.0 ∙ c.loop-last.invariant.0.0, c.drop_first.ensures.plan.1 ∙ c.loop-last.invariant.0.1),
  λ caps old follows. c.drop_first.ensures.purges caps c.args.goals.now c.args.supports.now (c.loop-last.invariant.1 caps old follows),
)

pub returns-clause-marks : goal.returns-clause-marks
returns-clause-marks c = λ caps old follows.
    purged_marks caps c.args.bound c.args.goals.now c.args.supports.now c.ranges.bound.fits c.drop_first.new.goals c.settle.new.self
    c.drop_first.new.supports c.drop_first.new.expiries (c.drop_first.ensures.none c.loop-last-test.false) old
    (c.drop_first.ensures.purges caps c.args.goals.now c.args.supports.now (c.loop-last.invariant.1 caps old follows)) c.settle.ensures.marks

pub returns-clause-counts : goal.returns-clause-counts
returns-clause-counts c = λ caps old follows.
    purged_counts caps c.args.bound c.args.goals.now c.args.supports.now c.ranges.bound.fits c.drop_first.new.goals c.settle.new.self
    c.drop_first.new.supports c.drop_first.new.expiries (c.drop_first.ensures.none c.loop-last-test.false) old
    (c.drop_first.ensures.purges caps c.args.goals.now c.args.supports.now (c.loop-last.invariant.1 caps old follows)) c.settle.ensures.marks

pub returns-clause-follows : goal.returns-clause-follows
returns-clause-follows c = λ caps old follows.
    purged_follows caps c.args.bound c.args.goals.now c.args.supports.now c.ranges.bound.fits c.drop_first.new.goals c.settle.new.self
    c.drop_first.new.supports c.drop_first.new.expiries (c.drop_first.ensures.none c.loop-last-test.false) old
    (c.drop_first.ensures.purges caps c.args.goals.now c.args.supports.now (c.loop-last.invariant.1 caps old follows)) c.settle.ensures.marks
