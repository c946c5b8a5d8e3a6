use Rattle.goal_store.specs.Goals.{SamePlan}
use Rattle.goal_store.specs.Sweeping.{keeps_at}
use Rattle.goal_store.proofs.Swept.{SweptBelow}
use Rattle.goal_store.proofs.kept.GoalStore.sweep.Given as goal

-- the goals under the numbers so far are swept
abbrev pub invariant-loop-number : goal.invariant-loop-number
invariant-loop-number l = record {
  plan : SamePlan l.initial.self l.self;
  swept : SweptBelow (keeps_at l.caps l.bound) l.number l.initial.self l.self;
}
