use Rattle.std.proofs.Common.{◌≡◌, ℕ, ◌+◌, ◌-◌, ◌<◌, ◌⊎◌, length}
use Rattle.change_meaning.specs.Courses.{Course}
use Rattle.revision.specs.InHand.{Goes, Stays}
use Rattle.revision.proofs.parts.Parts.all_steps.Given as goal

-- they are on the same course, and no step or some are finished since
abbrev pub invariant-loop-self : goal.invariant-loop-self
invariant-loop-self l = record {
  on : (c : Course) (left : ℕ) → Goes l.initial.self c left → (now : ℕ) × Goes l.self c now × (now + l.initial.units ≡ left + l.units);
  stays : Stays l.initial.self l.self;
  ahead : ((l.self ≡ l.initial.self) × (l.units ≡ l.initial.units)) ⊎ (l.initial.self.finished < l.self.finished);
}

abbrev pub decreases-loop-self : goal.decreases-loop-self
decreases-loop-self l = length l.self.plan.steps.items - l.self.finished
