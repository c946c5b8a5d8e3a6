use Rattle.event_model.specs.Presence.{bound, present, settled}
use Rattle.step_meaning.specs.PastEvents.{past_events}
use Rattle.change_meaning.proofs.EventLaws.{changes_follow, changes_moved, present_rises}
use Rattle.change_meaning.proofs.FreeLaws.{moved_at_zero}
use Rattle.change_meaning.proofs.laws.changes_lead_to_the_events_after.Goals as goal

pub returns : goal.returns
returns c = record {
  present = λ b before after sb sa late.
      changes_moved (present before) (present after) (present_rises before) (present_rises after) b late sb sa;
  sets = λ b before after ub ua sb sa late. changes_moved before after ub ua b late sb sa;
  histories = λ late h accepted g follows sb sa.
      changes_follow (bound late (settled h)) (present (settled h)) (present (settled g)) (present_rises (settled h)) (present_rises (settled g))
      (past_events late h accepted g follows) sb sa;
  free = moved_at_zero;
}
