-- Work on changes of events, step by step and in turns.
--     Hand                     what a work has in hand
--     Between .. c v n         the first n steps went along the course c; the others are as before
--     OnCourse h c left        the work is on that course, with so many visits left
--     StepTurned, Turned       what is so after some units on one step, and on one step after the other
use Rattle.std.specs.Prelude.{ℕ, ◌≡◌, ◌≢◌, ◌+◌, ◌-◌, ◌*◌, ◌^◌, ◌<◌, ◌≤◌, Option, Some, None, List, [], length, drop}
use Rattle.event_changes.specs.declared.changes.Sign.{Sign}
use Rattle.event_changes.specs.declared.changes.Sign.TheVariants as sign
use Rattle.event_changes.specs.declared.events.EventChange.{EventChange}
use Rattle.ev_bind.specs.declared.rows.Row.{Row}
use Rattle.rule_ast.specs.PlainPlans.{PlainStep}
use Rattle.step_meaning.specs.StepRows.{step_at}
use Rattle.row_changes.specs.Changes.{IsChange, IsHeld}
use Rattle.row_changes.specs.Visits.{Visit, At, Made}
use Rattle.change_meaning.specs.Keys.{slots_at}
use Rattle.change_meaning.specs.Caps.{PlainCaps}
use Rattle.change_meaning.specs.Courses.{Course, changed_at, visits, IsCourse}
use Rattle.change_meaning.specs.Turns.{visits_from}
use Rattle.step_work.specs.Views.{View, seen_visits, settled}

-- ---- steps

-- so many steps of a course are finished: they are as after the changes, and the others as before
pub record Between (steps : List PlainStep) (caps : PlainCaps) (es : List EventChange) (c : Course) (v : View) (n : ℕ) : Type 0 where
  pub course : IsCourse steps caps es c
  pub before : (j : ℕ) → v.before j ≡ c.old j
  pub after_done : (j : ℕ) → j < n → v.after j ≡ c.new j
  pub after_ahead : (j : ℕ) → n ≤ j → v.after j ≡ c.old j
  pub counts_done : (j : ℕ) → j < n → (r : Row) → v.count j r ≡ c.new_count j r
  pub counts_ahead : (j : ℕ) → n ≤ j → (r : Row) → v.count j r ≡ c.old_count j r
  pub changed_done : (j : ℕ) → j < n → v.changed j ≡ changed_at c j
  pub small : (j : ℕ) (r : Row) → v.count j r < 2 ^ 128

-- the visits of the steps from this number on
abbrev pub visits_behind : List PlainStep → PlainCaps → Course → ℕ → List Visit
visits_behind steps caps c n = visits_from caps (slots_at steps) c n (drop n steps)

-- a step of which nothing is made
abbrev pub at_start : List Visit → At
at_start left = record { left = left; noted = λ s r. 0 }

-- a step of which some visits are made, and what these give is noted
abbrev pub UnderWay : List Visit → At → Type 0
UnderWay all p = (n : ℕ) × Made (at_start all) p n 0

-- ---- plans

-- the plan and its caps; the changed events; what is seen of the steps; how many of them are finished; and how far the next one is,
-- of which no visit is left where there is none
pub record Hand : Type 0 where
  pub steps : List PlainStep
  pub caps : PlainCaps
  pub changes : List EventChange
  pub view : View
  pub finished : ℕ
  pub at : At

-- the same, with the step under way at another point
abbrev pub with_at : Hand → At → Hand
with_at h p = record { steps = h.steps; caps = h.caps; changes = h.changes; view = h.view; finished = h.finished; at = p }

abbrev pub step_of : Hand → Option PlainStep
step_of h = step_at h.steps h.finished

abbrev pub cap_of : Hand → Option ℕ
cap_of h = h.caps.cap h.finished

-- the step under way is finished: what it noted is applied to its counts and rows, nothing else changes, and of the next step nothing
-- is made
pub record Finishes (s : PlainStep) (h new : Hand) : Type 0 where
  pub steps : new.steps ≡ h.steps
  pub caps : new.caps ≡ h.caps
  pub changes : new.changes ≡ h.changes
  pub finished : new.finished ≡ h.finished + 1
  pub counts : (r : Row) → new.view.count h.finished r + settled s (h.view.count h.finished) h.at.noted sign.Minus r
      ≡ h.view.count h.finished r + settled s (h.view.count h.finished) h.at.noted sign.Plus r
  pub other_counts : (j : ℕ) → j ≢ h.finished → (r : Row) → new.view.count j r ≡ h.view.count j r
  pub small : (r : Row) → new.view.count h.finished r < 2 ^ 128
  pub changed : IsChange (h.view.count h.finished) (new.view.count h.finished) (new.view.changed h.finished)
  pub other_changed : (j : ℕ) → j < h.finished → new.view.changed j ≡ h.view.changed j
  pub before : IsHeld (new.view.before h.finished) (h.view.count h.finished)
  pub after : IsHeld (new.view.after h.finished) (new.view.count h.finished)
  pub other_before : (j : ℕ) → j ≢ h.finished → new.view.before j ≡ h.view.before j
  pub other_after : (j : ℕ) → j ≢ h.finished → new.view.after j ≡ h.view.after j
  pub left : (next : PlainStep) → step_at h.steps (h.finished + 1) ≡ Some next
      → new.at.left ≡ seen_visits (h.caps.cap (h.finished + 1)) (slots_at h.steps) next new.view
  pub none_left : step_at h.steps (h.finished + 1) ≡ None → new.at.left ≡ []
  pub noted : (s : Sign) (r : Row) → new.at.noted s r ≡ 0

-- each step is seen to have these rows, from before and from after, with these counts, which are numbers of 128 bits
pub record HasRows (v : View) (rows : ℕ → List Row) (count : ℕ → Row → ℕ) : Type 0 where
  pub before : (j : ℕ) → v.before j ≡ rows j
  pub after : (j : ℕ) → v.after j ≡ rows j
  pub counts : (j : ℕ) (r : Row) → v.count j r ≡ count j r
  pub small : (j : ℕ) (r : Row) → v.count j r < 2 ^ 128

-- the work is on a course: some steps are finished, of the next one some visits are made, and so many are left in all
pub record OnCourse (h : Hand) (c : Course) (left : ℕ) : Type 0 where
  pub between : Between h.steps h.caps h.changes c h.view h.finished
  pub under : (s : PlainStep) → step_of h ≡ Some s → UnderWay (visits (cap_of h) (slots_at h.steps) s c) h.at
  pub over : step_of h ≡ None → h.at.left ≡ []
  pub number : length h.at.left + length (visits_behind h.steps h.caps c (h.finished + 1)) ≡ left

-- ---- turns

-- work on one step, of which None says that the units were used up and visits are left, and Some rest that it is finished
abbrev pub StepTurned : Hand → Course → (left units : ℕ) → Option ℕ → Type 0
StepTurned h c left units None = (now : ℕ) × OnCourse h c now × (now + units ≡ left) × (0 < now)
StepTurned h c left units (Some rest) = (now : ℕ) × OnCourse h c now × (now + units ≡ left + rest)

-- work on one step after the other; with Some rest all are finished
abbrev pub Turned : Hand → Course → (left units : ℕ) → Option ℕ → Type 0
Turned h c left units None = (now : ℕ) × OnCourse h c now × (now + units ≡ left) × (0 < now)
Turned h c left units (Some rest) = OnCourse h c 0 × (length h.steps ≤ h.finished) × (left + rest ≡ units)

-- ---- how far it still is, whatever the course

-- fewer visits than this are left in a step
abbrev pub MOST_LEFT : ℕ
MOST_LEFT = 2 ^ 132

-- a number that falls with each visit, and with each step
unfoldable pub hand_left : Hand → ℕ
hand_left h = (length h.steps - h.finished) * MOST_LEFT + length h.at.left

-- so many visits of the step under way are made, or it is finished
abbrev pub IsFurther : Hand → Hand → ℕ → Option ℕ → Type 0
IsFurther h new units None =
    (length new.steps ≡ length h.steps) × (new.finished ≡ h.finished) × (length new.at.left + units ≡ length h.at.left)
IsFurther h new units (Some rest) = (length new.steps ≡ length h.steps) × (new.finished ≡ h.finished + 1)
