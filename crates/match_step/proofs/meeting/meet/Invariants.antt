use Rattle.row_changes.specs.Visits.{Made}
use Rattle.goal_store.specs.declared.kept.GoalStore.{GoalStore}
use Rattle.match_step.specs.Left.{IsOver, meeting_at}
use Rattle.match_step.proofs.meeting.meet.Given as goal

abbrev pub invariant-loop-units : goal.invariant-loop-units
invariant-loop-units l = record {
  made : Made (meeting_at l.sign l.initial.matches l.initial.pending) (meeting_at l.sign l.matches l.pending) l.initial.units l.units;
  store : (goals : GoalStore) → IsOver goals l.initial.matches → IsOver goals l.matches;
}
