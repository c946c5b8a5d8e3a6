use Rattle.event_model.specs.Presence.{History}
use Rattle.parcel_watch.specs.Watches.{Watches}
use Rattle.parcel_watch.proofs.tests.replies.Given as goal

abbrev pub invariant-loop-line : goal.invariant-loop-line
invariant-loop-line l = record {
  lines : (goal.iterator-loop-line).can_next l.line-iterator;
  ends : (goal.iterator-loop-line).is_finite l.line-iterator;
  watches : (h : History) × Watches l.watch h;
}
