-- What work on one step does.
--     Notes, StepWork      the work on a step, from one point to another, under so many units
use Rattle.std.specs.Prelude.{ℕ, ◌≡◌, ◌+◌, Option, Some, List}
use Rattle.event_changes.specs.declared.changes.Sign.{Sign}
use Rattle.event_changes.specs.declared.events.EventChange.{EventChange}
use Rattle.ev_bind.specs.declared.rows.Row.{Row}
use Rattle.rule_ast.specs.PlainPlans.{PlainStep, Named, Leaf, Join, Either, Where, Exact, Within, Minus, Head}
use Rattle.row_changes.specs.Visits.{Visit, tally, At}
use Rattle.step_changes.specs.Tasks.{WorksOn}
use Rattle.step_work.specs.Views.{View, seen_gives}

-- a step without visits takes no units, and all that it gives is noted
abbrev pub Notes : List Visit → At → At → ℕ → Option ℕ → Type 0
Notes gives p q units result =
    (result ≡ Some units) × (p.left ≡ q.left) × ((s : Sign) (r : Row) → q.noted s r ≡ p.noted s r + tally s r gives)

-- work on a step: its visits are made as far as the units go, or to the end
abbrev pub StepWork : Option ℕ → (ℕ → List ℕ) → PlainStep → View → List EventChange
    → At → At → ℕ → Option ℕ → Type 0
StepWork cap slots (Named n heads) v es = Notes (seen_gives cap slots (Named n heads) v es)
StepWork cap slots (Leaf of p) v es = Notes (seen_gives cap slots (Leaf of p) v es)
StepWork cap slots (Join op l r) v es = WorksOn
StepWork cap slots (Either l r) v es = Notes (seen_gives cap slots (Either l r) v es)
StepWork cap slots (Where of t) v es = Notes (seen_gives cap slots (Where of t) v es)
StepWork cap slots (Exact of q) v es = Notes (seen_gives cap slots (Exact of q) v es)
StepWork cap slots (Within of q) v es = Notes (seen_gives cap slots (Within of q) v es)
StepWork cap slots (Minus j f i l) v es = WorksOn
StepWork cap slots (Head of head) v es = Notes (seen_gives cap slots (Head of head) v es)
