use Rattle.std.proofs.Common.{sym}
use Rattle.step_meaning.specs.StepRows.{step_rows}
use Rattle.horizon_meaning.specs.Caps.{cap_of, reach_of}
use Rattle.horizon_meaning.specs.NoLoss.{swept, swept_greater}
use Rattle.horizon_meaning.specs.Renewed.{changes_shown, shown_recent}
use Rattle.horizon_meaning.proofs.laws.sweeping_is_not_noticed.Goals as goal

pub returns : goal.returns
returns c = record {
  later = swept;
  greater = swept_greater;
  kept = λ plan events k. swept_greater (cap_of plan k) (reach_of plan k) (step_rows plan.steps k events);
  come = λ plan low b before after change. changes_shown plan low b before after change.spans change.spans_after change.past;
  go = λ plan low b before after change.
      changes_shown plan low b after before change.spans_after change.spans (sym change.past);
  recent = shown_recent;
}
