-- What a work holds between changes, and what it works from, said of events.
--     Holds h b E              it holds the kept rows over the events E, with their supports
--     WorksTo h b E F left     it works from E to F, with so many visits left
use Rattle.std.specs.Prelude.{ℕ, ◌-◌, ◌^◌, ◌≤◌, min, List, length}
use Rattle.std.specs.List.{flat_map}
use Rattle.ordered_lists.specs.Canon.{canon}
use Rattle.event_model.specs.EventOrder.{detection_cmp}
use Rattle.event_model.specs.declared.events.Detection.{Detection}
use Rattle.event_model.specs.declared.events.Event.{Event}
use Rattle.event_changes.specs.declared.changes.Sign.{Sign}
use Rattle.event_changes.specs.declared.changes.Sign.TheVariants.{Plus, Minus}
use Rattle.event_changes.specs.declared.events.EventChange.{EventChange}
use Rattle.rule_ast.specs.PlainPlans.{PlainStep}
use Rattle.pattern_meaning.specs.Replies.{Change}
use Rattle.step_meaning.specs.StepRows.{step_at, detections_of}
use Rattle.change_meaning.specs.Caps.{PlainCaps, kept_rows, kept_count, NoLossOver}
use Rattle.change_meaning.specs.Courses.{course_of}
use Rattle.change_meaning.specs.Keys.{IsWorkable}
use Rattle.change_meaning.specs.Moved.{IsMoved}
use Rattle.change_meaning.specs.Shown.{signed_rows}
use Rattle.change_meaning.specs.Turns.{plan_visits}
use Rattle.goal_store.specs.Goals.{sum_below}
use Rattle.step_work.specs.Views.{View}
use Rattle.revision.specs.Works.{Hand, HasRows, OnCourse}

-- it holds the events E at the bound b: each step has exactly its kept rows, and each of these its supports
pub record Holds (h : Hand) (b : ℕ) (E : List Event) : Type 0 where
  pub workable : IsWorkable h.steps
  pub rows : HasRows h.view (kept_rows h.steps h.caps b E) (kept_count h.steps h.caps b E)

-- how many rows all steps have
abbrev pub rows_held : List PlainStep → PlainCaps → ℕ → List Event → ℕ
rows_held steps caps b E = sum_below (λ i. length (kept_rows steps caps b E i)) (length steps)

-- it holds E, and the changes lead to F, neither before the bound; and with the kept rows of either no support is lost
pub record CanBegin (h : Hand) (b : ℕ) (E F : List Event) (es : List EventChange) : Type 0 where
  pub holds : Holds h b E
  pub moved : IsMoved b E F es
  pub old_whole : NoLossOver h.steps h.caps b E
  pub new_whole : NoLossOver h.steps h.caps b F

-- how many visits there are from E to F
abbrev pub visits_to : List PlainStep → PlainCaps → ℕ → (E F : List Event) → ℕ
visits_to steps caps b E F = length (plan_visits steps caps (course_of steps caps b E F))

-- it works from E to F, with so many visits left
pub record WorksTo (h : Hand) (b : ℕ) (E F : List Event) (left : ℕ) : Type 0 where
  pub workable : IsWorkable h.steps
  pub course : OnCourse h (course_of h.steps h.caps b E F) left
  pub within : left ≤ visits_to h.steps h.caps b E F

-- a number of visits isn't counted further
abbrev pub MOST_COUNTED : ℕ
MOST_COUNTED = 2 ^ 128 - 1

abbrev pub counted : ℕ → ℕ
counted n = min n MOST_COUNTED

-- the detections of these steps whose rows changed so
abbrev pub told : Sign → List PlainStep → List ℕ → View → List Detection
told s steps shown v = flat_map (λ i. detections_of (step_at steps i) (signed_rows s (v.changed i))) shown

-- what has gone and what has come of the shown steps, each in order and once
abbrev pub told_change : List PlainStep → List ℕ → View → Change
told_change steps shown v = record {
  gone = canon detection_cmp (told Minus steps shown v);
  come = canon detection_cmp (told Plus steps shown v);
}
