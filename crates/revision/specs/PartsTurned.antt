-- What a turn makes of the parts of a work, said of events.
use Rattle.std.specs.Prelude.{ℕ, ◌≡◌, ◌+◌, ◌<◌, ◌≤◌, List}
use Rattle.event_model.specs.declared.events.Event.{Event}
use Rattle.event_changes.specs.declared.changes.Progress.{Progress}
use Rattle.event_changes.specs.declared.changes.Progress.TheVariants.{More, Done}
use Rattle.step_meaning.specs.PlanOf.{plan_indexes}
use Rattle.change_meaning.specs.Caps.{caps_in}
use Rattle.change_meaning.specs.Courses.{course_of}
use Rattle.change_meaning.specs.Shown.{shown_change}
use Rattle.revision.specs.Holding.{Holds, WorksTo, counted}
use Rattle.revision.specs.InHand.{steps_in, hand, IsReady, IsDue, told_in}
use Rattle.revision.specs.declared.parts.Parts.{Parts}

-- so many visits are left
pub record GoesOn (old new : Parts) (b : ℕ) (E F : List Event) (left units : ℕ) : Type 0 where
  pub now : ℕ
  pub works : WorksTo (hand new) b E F now
  pub ready : IsReady new
  pub spent : now + units ≡ left
  pub more : 0 < now
  pub made : new.made ≡ counted (old.made + units)

-- all are made
pub record Ends (old new : Parts) (b : ℕ) (E F : List Event) (left units : ℕ) : Type 0 where
  pub holds : Holds (hand new) b F
  pub ready : IsReady new
  pub within : left ≤ units
  pub made : new.made ≡ counted (old.made + left)
  pub told : told_in new ≡ shown_change
      (record { steps = steps_in old; indexes = plan_indexes (steps_in old); shown = old.plan.shown.items })
      (course_of (steps_in old) (caps_in old.caps) b E F)

abbrev pub PartsTurned : (old new : Parts) (b : ℕ) (E F : List Event) (left units : ℕ) → Progress → Type 0
PartsTurned old new b E F left units More = GoesOn old new b E F left units
PartsTurned old new b E F left units Done = Ends old new b E F left units

-- the expiries follow once all are made
abbrev pub DueTurned : (new : Parts) (b : ℕ) (E F : List Event) → Progress → Type 0
DueTurned new b E F More = IsDue new b E
DueTurned new b E F Done = IsDue new b F
