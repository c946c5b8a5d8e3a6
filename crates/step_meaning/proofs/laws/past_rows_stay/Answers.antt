use Rattle.event_model.specs.Presence.{present, settled, bound}
use Rattle.step_meaning.specs.PastEvents.{past_events}
use Rattle.step_meaning.specs.PastRows.{past_presence, past_count}
use Rattle.step_meaning.proofs.laws.past_rows_stay.Goals as goal

pub returns : goal.returns
returns c = record {
  presence = λ late h accepted g follows h_on_spans g_on_spans.
      past_presence (bound late (settled h)) (present (settled h)) (present (settled g)) h_on_spans g_on_spans
      (past_events late h accepted g follows);
  counts = λ late h accepted g follows h_on_spans g_on_spans.
      past_count (bound late (settled h)) (present (settled h)) (present (settled g)) h_on_spans g_on_spans
      (past_events late h accepted g follows);
}
