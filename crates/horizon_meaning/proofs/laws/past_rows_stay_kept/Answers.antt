use Rattle.horizon_meaning.specs.Renewed.{old_rows_stay, old_count, old_kept}
use Rattle.horizon_meaning.proofs.laws.past_rows_stay_kept.Goals as goal

pub returns : goal.returns
returns c = record {
  rows = λ plan low b before after change. old_rows_stay plan low b before after change.spans change.spans_after change.past;
  counts = λ plan low b before after change. old_count plan low b before after change.spans change.spans_after change.past;
  kept = λ plan low b before after change. old_kept plan low b before after change.spans change.spans_after change.past;
}
