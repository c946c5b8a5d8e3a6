use Rattle.horizon_meaning.specs.Renewed.{kept_renewed, count_renewed}
use Rattle.horizon_meaning.proofs.laws.kept_rows_renew_themselves.Goals as goal

pub returns : goal.returns
returns c = record {
  rows = λ plan low b before after change. kept_renewed plan low b before after change.spans change.spans_after change.past;
  counts = λ plan low b before after change. count_renewed plan low b before after change.spans change.spans_after change.past;
}
