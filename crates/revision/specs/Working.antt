-- What a work shows to its callers.
--     WorkHolds w b E          it holds the kept rows over the events E, and rests
--     CanWork w b E F es       these changes, which lead from E to F, can be begun
--     WorkGoes w b E F left    it works from E to F, with so many visits left
--     WorkTurned ..            what a turn makes of that
use Rattle.std.specs.Prelude.{ℕ, ◌≡◌, ◌+◌, ◌-◌, ◌<◌, ◌≤◌, Bool, true, false, List}
use Rattle.event_model.specs.declared.events.Event.{Event}
use Rattle.event_changes.specs.declared.changes.Progress.{Progress}
use Rattle.event_changes.specs.declared.changes.Progress.TheVariants.{More, Done}
use Rattle.event_changes.specs.declared.events.EventChange.{EventChange}
use Rattle.rule_ast.specs.PlainPlans.{PlainStep, PlainPlan}
use Rattle.pattern_meaning.specs.Replies.{Change}
use Rattle.step_meaning.specs.PlanOf.{plan_indexes}
use Rattle.change_meaning.specs.Caps.{PlainCaps, NoLossOver}
use Rattle.change_meaning.specs.Moved.{IsMoved}
use Rattle.goal_store.specs.Goals.{number_of}
use Rattle.revision.specs.Works.{Hand, hand_left}
use Rattle.revision.specs.Holding.{Holds, CanBegin, WorksTo, visits_to, counted}
use Rattle.revision.specs.InHand.{hand, IsReady, IsDue, state_works, state_breaks, told_in}
use Rattle.revision.specs.declared.work.Work.{Work}

-- ---- what it has

unfoldable pub hand_of : Work → Hand
hand_of w = hand w.parts

-- the steps of its plan, their caps, and those that are shown
abbrev pub steps_of : Work → List PlainStep
steps_of w = (hand_of w).steps

abbrev pub caps_of : Work → PlainCaps
caps_of w = (hand_of w).caps

unfoldable pub shown_of : Work → List ℕ
shown_of w = w.parts.plan.shown.items

abbrev pub plan_of_work : Work → PlainPlan
plan_of_work w = record { steps = steps_of w; indexes = plan_indexes (steps_of w); shown = shown_of w }

-- its parts fit together
unfoldable pub IsFit : Work → Type 0
IsFit w = IsReady w.parts

-- its expiries are those of the kept rows over the events E at the bound b
unfoldable pub HasDue : Work → ℕ → List Event → Type 0
HasDue w b E = IsDue w.parts b E

-- what the last changes that are done have taken away and brought
unfoldable pub change_of : Work → Change
change_of w = told_in w.parts

-- how many visits were made for the last changes, no further than 128 bits go
unfoldable pub made_of : Work → ℕ
made_of w = w.parts.made

-- the number of rows of its steps
unfoldable pub held_of : Work → ℕ
held_of w = number_of w.parts.goals

unfoldable pub is_working : Work → Bool
is_working w = state_works w.state

unfoldable pub is_broken : Work → Bool
is_broken w = state_breaks w.state

-- a number that falls with each visit
unfoldable pub work_left : Work → ℕ
work_left w = hand_left (hand_of w)

-- ---- what holds of it

pub record SamePlanOf (old new : Work) : Type 0 where
  pub steps : steps_of new ≡ steps_of old
  pub caps : caps_of new ≡ caps_of old
  pub shown : shown_of new ≡ shown_of old

pub record WorkHolds (w : Work) (b : ℕ) (E : List Event) : Type 0 where
  pub holds : Holds (hand_of w) b E
  pub due : HasDue w b E
  pub fit : IsFit w
  pub resting : is_working w ≡ false
  pub unbroken : is_broken w ≡ false

pub record CanWork (w : Work) (b : ℕ) (E F : List Event) (es : List EventChange) : Type 0 where
  pub can : CanBegin (hand_of w) b E F es
  pub due : HasDue w b E
  pub fit : IsFit w
  pub resting : is_working w ≡ false
  pub unbroken : is_broken w ≡ false

pub record WorkGoes (w : Work) (b : ℕ) (E F : List Event) (left : ℕ) : Type 0 where
  pub works : WorksTo (hand_of w) b E F left
  pub due : HasDue w b E
  pub fit : IsFit w
  pub made : made_of w ≡ counted (visits_to (steps_of w) (caps_of w) b E F - left)
  pub working : is_working w ≡ true
  pub unbroken : is_broken w ≡ false

-- More says that the units were used up and visits are left, and Done that the units sufficed and it holds the events after
abbrev pub WorkTurned : Work → ℕ → (E F : List Event) → (left units : ℕ) → Progress → Type 0
WorkTurned w b E F left units More = (now : ℕ) × WorkGoes w b E F now × (now + units ≡ left) × (0 < now)
WorkTurned w b E F left units Done =
    WorkHolds w b F × (left ≤ units) × (made_of w ≡ counted (visits_to (steps_of w) (caps_of w) b E F))

-- ---- laws

-- a work that holds events may begin changes of them that lose no support
pub can_work : (w : Work) (b : ℕ) (E F : List Event) (es : List EventChange) → WorkHolds w b E → IsMoved b E F es
    → NoLossOver (steps_of w) (caps_of w) b E → NoLossOver (steps_of w) (caps_of w) b F → CanWork w b E F es
can_work w b E F es h moved old new = record {
  can = record { holds = h.holds; moved = moved; old_whole = old; new_whole = new };
  due = h.due;
  fit = h.fit;
  resting = h.resting;
  unbroken = h.unbroken;
}
