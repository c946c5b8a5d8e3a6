use Rattle.change_meaning.specs.Caps.{PlainCaps}
use Rattle.goal_store.specs.Goals.{AllOld, SamePlan}
use Rattle.goal_purge.specs.Expiring.{entry_count, has_goal, Follows}
use Rattle.goal_purge.specs.Purging.{Purges}
use Rattle.goal_purge.proofs.purging.purge.Given as goal

abbrev pub invariant-loop-last : goal.invariant-loop-last
invariant-loop-last l = SamePlan l.initial.goals l.goals × ((caps : PlainCaps) → AllOld l.initial.goals
    → Follows caps (has_goal l.initial.goals) l.initial.expiries
    → Purges caps l.bound l.initial.goals l.initial.supports l.goals l.supports l.expiries)

abbrev pub decreases-loop-last : goal.decreases-loop-last
decreases-loop-last l = entry_count l.expiries
