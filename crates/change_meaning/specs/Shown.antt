-- The detections that a change brings and takes away: the changed rows of the shown steps of a plan.
use Rattle.std.specs.Prelude.{◌≡◌, true, List}
use Rattle.std.specs.List.{filter, flat_map}
use Rattle.ordered_lists.specs.Canon.{canon, has}
use Rattle.ordered_lists.specs.Lists.{Each}
use Rattle.event_model.specs.EventOrder.{detection_cmp}
use Rattle.event_model.specs.declared.events.Detection.{Detection}
use Rattle.event_model.specs.declared.events.Event.{Event}
use Rattle.event_changes.specs.declared.changes.Sign.{Sign}
use Rattle.event_changes.specs.declared.changes.Sign.TheVariants.{Plus, Minus}
use Rattle.ev_bind.specs.Rows.{row_cmp}
use Rattle.ev_bind.specs.declared.rows.Row.{Row}
use Rattle.rule_ast.specs.PlainPlans.{PlainPlan}
use Rattle.pattern_meaning.specs.Replies.{Change}
use Rattle.step_meaning.specs.StepRows.{step_at, step_rows, detections_of}
use Rattle.row_changes.specs.Changes.{SignedRow, delta_rows}
use Rattle.row_changes.specs.Visits.{same_sign}
use Rattle.change_meaning.specs.Caps.{PlainCaps, fits}
use Rattle.change_meaning.specs.Courses.{Course, changed_at}

-- the changed rows of a sign
abbrev pub signed_rows : Sign → List SignedRow → List Row
signed_rows s ds = delta_rows (filter (λ d. same_sign s d.sign) ds)

-- those of the shown steps, as detections
abbrev pub shown_rows : Sign → PlainPlan → Course → List Detection
shown_rows s plan c = flat_map (λ i. detections_of (step_at plan.steps i) (signed_rows s (changed_at c i))) plan.shown

-- what has gone and what has come, each in order and once
abbrev pub shown_change : PlainPlan → Course → Change
shown_change plan c = record {
  gone = canon detection_cmp (shown_rows Minus plan c);
  come = canon detection_cmp (shown_rows Plus plan c);
}

-- no cap cuts off a row of a shown step
abbrev pub AreShownWhole : PlainPlan → PlainCaps → List Event → Type 0
AreShownWhole plan caps events =
    Each (λ i. (r : Row) → has row_cmp r (step_rows plan.steps i events) ≡ true → fits (caps.cap i) r ≡ true) plan.shown
