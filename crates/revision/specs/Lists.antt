-- The lists of changed rows of steps.
--     rows_at lists j                 those of step j; none past the last list
--     told_by s steps shown lists     what those of the shown steps tell that have this sign
use Rattle.std.specs.Prelude.{ℕ, List}
use Rattle.std.specs.List.{flat_map}
use Rattle.std.specs.declared.alloc.Global.{Global}
use Rattle.std.specs.declared.vec.Vec.{Vec}
use Rattle.event_model.specs.declared.events.Detection.{Detection}
use Rattle.event_changes.specs.declared.changes.Sign.{Sign}
use Rattle.rule_ast.specs.PlainPlans.{PlainStep}
use Rattle.step_meaning.specs.StepRows.{step_at, detections_of}
use Rattle.row_changes.specs.Changes.{SignedRow}
use Rattle.change_meaning.specs.Shown.{signed_rows}
use Rattle.step_changes.specs.declared.deltas.Delta.{Delta}
use Rattle.step_changes.specs.Deltas.{plain_deltas}
use Rattle.step_work.specs.Seen.{changed_rows}

abbrev pub rows_at : List (Vec Delta Global) → ℕ → List SignedRow
rows_at lists j = plain_deltas (changed_rows lists j)

abbrev pub told_by : Sign → List PlainStep → List ℕ → List (Vec Delta Global) → List Detection
told_by s steps shown lists = flat_map (λ i. detections_of (step_at steps i) (signed_rows s (rows_at lists i))) shown
