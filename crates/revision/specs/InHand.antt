-- The parts of a work: what they have in hand, and what turns make of them.
--     hand p              what they have in hand
--     IsReady p           what is so at any time
--     IsDue p b E         the expiries are those of the kept rows over E at b
--     Goes p c left       they are on the course c, with so many visits left
--     IsOver p            all that the step under way gives is noted
use Rattle.std.specs.Prelude.{ℕ, ◌≡◌, ◌+◌, ◌<◌, ◌≤◌, ◌^◌, Bool, true, false, Option, Some, None, List, [], length, map, slice_get}
use Rattle.std.specs.declared.alloc.Global.{Global}
use Rattle.std.specs.declared.vec.Vec.{Vec}
use Rattle.ordered_lists.specs.Canon.{has}
use Rattle.event_model.specs.declared.events.Event.{Event}
use Rattle.event_changes.specs.declared.changes.Sign.{Sign}
use Rattle.ev_bind.specs.Rows.{row_cmp}
use Rattle.ev_bind.specs.declared.rows.Row.{Row}
use Rattle.rule_ast.specs.PlainPlans.{PlainStep, plain_index, plain_step}
use Rattle.pattern_meaning.specs.Replies.{Change}
use Rattle.step_meaning.specs.PlanOf.{plan_indexes}
use Rattle.step_meaning.specs.StepRows.{step_at}
use Rattle.row_changes.specs.Visits.{Visit, tally}
use Rattle.change_meaning.specs.Caps.{caps_in, kept_rows}
use Rattle.change_meaning.specs.Courses.{Course, given}
use Rattle.change_meaning.specs.Keys.{slots_at}
use Rattle.support_table.specs.Supports.{count_of}
use Rattle.goal_store.specs.Goals.{steps_of, indexes_of}
use Rattle.goal_store.specs.declared.kept.GoalStore.{GoalStore}
use Rattle.goal_purge.specs.Expiring.{Follows}
use Rattle.step_changes.specs.declared.deltas.Delta.{Delta}
use Rattle.step_changes.specs.Notes.{noted}
use Rattle.step_changes.specs.Tasks.{at_left}
use Rattle.step_work.specs.Views.{settled}
use Rattle.step_work.specs.Seen.{view_in, left_of}
use Rattle.step_work.specs.Ways.{AreWays}
use Rattle.step_work.specs.declared.ways.StepWay.{StepWay}
use Rattle.step_work.specs.declared.spots.Spot.{Spot}
use Rattle.revision.specs.Works.{Hand, Between, OnCourse, hand_left}
use Rattle.revision.specs.declared.parts.Parts.{Parts}
use Rattle.revision.specs.declared.parts.State.{State}
use Rattle.revision.specs.declared.parts.State.TheVariants.{Resting, Working, Broken}

-- the visits that are left of a step under way; none where there is no step
abbrev pub left_at : GoalStore → List (Vec Delta Global) → Option PlainStep → Option StepWay → Spot → List Visit
left_at goals changed None way spot = []
left_at goals changed (Some s) None spot = []
left_at goals changed (Some s) (Some way) spot = left_of goals changed s way spot

abbrev pub steps_in : Parts → List PlainStep
steps_in p = map plain_step p.plan.steps.items

abbrev pub hand : Parts → Hand
hand p = record {
  steps = steps_in p;
  caps = caps_in p.caps;
  changes = p.events.items;
  view = view_in p.goals (count_of p.supports) p.changed.items;
  finished = p.finished;
  at = at_left (left_at p.goals p.changed.items (step_at (steps_in p) p.finished) (slice_get p.ways.items p.finished) p.spot)
      (noted p.pending);
}

-- its ways are those of its plan, whose indexes are those for which its steps ask and those of the store; each step has a place in the
-- store and a list of changed rows; and nothing is spare
pub record IsReady (p : Parts) : Type 0 where
  pub ways : AreWays (indexes_of p.goals) (caps_in p.caps) (steps_in p) p.ways.items
  pub planned : map plain_index p.plan.indexes.items ≡ plan_indexes (steps_in p)
  pub indexed : indexes_of p.goals ≡ map plain_index p.plan.indexes.items
  pub stored : steps_of p.goals ≡ length p.plan.steps.items
  pub listed : length p.changed.items ≡ length p.plan.steps.items
  pub few : length p.plan.steps.items < 2 ^ 32
  pub none : (s : Sign) (r : Row) → noted p.spare s r ≡ 0

-- its expiries are those of the kept rows over the events E at the bound b
abbrev pub IsDue : Parts → ℕ → List Event → Type 0
IsDue p b E = Follows (caps_in p.caps) (λ s r. has row_cmp r (kept_rows (steps_in p) (caps_in p.caps) b E s)) p.expiries

-- they are on a course, and ready for the rest of it
pub record Goes (p : Parts) (c : Course) (left : ℕ) : Type 0 where
  pub on : OnCourse (hand p) c left
  pub ready : IsReady p

-- there is a course that they are on
abbrev pub IsOn : Parts → Type 0
IsOn p = (c : Course) × (left : ℕ) × Goes p c left

-- all that the step under way gives on its course is noted
pub record IsOver (p : Parts) : Type 0 where
  pub course : Course
  pub ready : IsReady p
  pub between : Between (steps_in p) (caps_in p.caps) p.events.items course (hand p).view p.finished
  pub step : PlainStep
  pub here : step_at (steps_in p) p.finished ≡ Some step
  pub all : (s : Sign) (r : Row) → settled step ((hand p).view.count p.finished) (noted p.pending) s r
      ≡ tally s r (given ((hand p).caps.cap p.finished) (slots_at (steps_in p)) step course p.events.items)

-- the plan, the caps, the expiries and what was told last stay
pub record Stays (old new : Parts) : Type 0 where
  pub plan : new.plan ≡ old.plan
  pub caps : new.caps ≡ old.caps
  pub expiries : new.expiries ≡ old.expiries
  pub gone : new.gone ≡ old.gone
  pub come : new.come ≡ old.come
  pub made : new.made ≡ old.made

-- ---- turns

-- work on one step, of which None says that the units were used up and visits are left, and Some rest that it is finished
abbrev pub StepGoes : Parts → Course → (left units : ℕ) → Option ℕ → Type 0
StepGoes p c left units None = (now : ℕ) × Goes p c now × (now + units ≡ left) × (0 < now)
StepGoes p c left units (Some rest) = (now : ℕ) × Goes p c now × (now + units ≡ left + rest)

-- work on one step after the other; with Some rest all are finished
abbrev pub AllGo : Parts → Course → (left units : ℕ) → Option ℕ → Type 0
AllGo p c left units None = (now : ℕ) × Goes p c now × (now + units ≡ left) × (0 < now)
AllGo p c left units (Some rest) = Goes p c 0 × (length p.plan.steps.items ≤ p.finished) × (left + rest ≡ units)

-- where visits are left, there are fewer than before
abbrev pub IsLess : Parts → Parts → ℕ → Option ℕ → Type 0
IsLess old new units None = 0 < units → hand_left (hand new) < hand_left (hand old)
IsLess old new units (Some rest) = Unit {0}

-- ---- states

abbrev pub state_works : State → Bool
state_works Resting = false
state_works Working = true
state_works Broken = false

abbrev pub state_breaks : State → Bool
state_breaks Resting = false
state_breaks Working = false
state_breaks Broken = true

-- while they work there is a course that they are on
abbrev pub Stands : State → Parts → Type 0
Stands Resting p = Unit {0}
Stands Working p = IsOn p
Stands Broken p = Unit {0}

-- what was told last
abbrev pub told_in : Parts → Change
told_in p = record { gone = p.gone.items; come = p.come.items }
