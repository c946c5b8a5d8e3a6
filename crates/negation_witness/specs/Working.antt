-- A Minus under way, in the words of its parts.
--     place_at m place p        how far it has come
--     RowWork, BeginsRow        what the work on a changed row does
use Rattle.std.specs.Prelude.{◌≡◌, ℕ, ◌+◌, ◌<◌, Option, Some, None, List, [], length, map, nat_le, if◌then◌else◌, IfSome}
use Rattle.event_changes.specs.declared.changes.Sign.{Sign}
use Rattle.event_changes.specs.declared.changes.Sign.TheVariants.{Plus, Minus}
use Rattle.ev_bind.specs.declared.rows.Row.{Row}
use Rattle.row_changes.specs.Changes.{SignedRow}
use Rattle.row_changes.specs.Visits.{Visit, At, Made}
use Rattle.change_meaning.specs.MinusVisits.{MinusView, TestTask, verdict, joined_task, inner_task, before_task, after_task, tested_rows, tests_at}
use Rattle.goal_store.specs.Goals.{rest}
use Rattle.goal_store.specs.declared.walks.RowsFrom.{RowsFrom}
use Rattle.step_changes.specs.Notes.{noted}
use Rattle.step_changes.specs.Tasks.{at_left, tasks_left}
use Rattle.step_changes.specs.declared.pending.Pending.{Pending}
use Rattle.negation_witness.specs.Testing.{changed_tasks}
use Rattle.negation_witness.specs.Ways.{minus_view}
use Rattle.negation_witness.specs.declared.places.Test.{Test}
use Rattle.negation_witness.specs.declared.places.TestPlace.{TestPlace}
use Rattle.negation_witness.specs.declared.subtracting.Begun.{Begun}
use Rattle.negation_witness.specs.declared.subtracting.Begun.TheVariants.{Stopped, Over, Started}
use Rattle.negation_witness.specs.declared.subtracting.MinusStep.{MinusStep}
use Rattle.negation_witness.specs.declared.subtracting.Operand.{Operand}
use Rattle.negation_witness.specs.declared.subtracting.Operand.TheVariants.{Joined, Inner, Before, After}

abbrev pub view_of : MinusStep → MinusView
view_of m = minus_view m.goals.now m.way

abbrev pub tasks_of : MinusStep → List TestTask
tasks_of m = changed_tasks (view_of m) m.joined.now m.inner.now m.before.now m.after.now

-- the task of a changed row of an operand
abbrev pub task_of : MinusView → Operand → SignedRow → TestTask
task_of v Joined d = joined_task d
task_of v Inner d = inner_task v d
task_of v Before d = before_task v d
task_of v After d = after_task v d

-- the joined rows that it can change
unfoldable pub looked_at : MinusStep → Operand → Row → List Row
looked_at m operand r = tested_rows (view_of m) (task_of (view_of m) operand (record { sign = Plus; row = r }))

unfoldable pub told : MinusStep → Row → Visit
told m r = verdict (view_of m) r

-- what a joined row gives under a changed row with this end
abbrev pub tells : MinusStep → ℕ → Row → Visit
tells m end r = if nat_le end r.span.end then told m r else None

unfoldable pub tests_of : MinusStep → ℕ → List Row → List Visit
tests_of m end rows = map (tells m end) rows

unfoldable pub visits_of : MinusStep → TestTask → List Visit
visits_of m t = tests_at (view_of m) t

abbrev pub under_of : MinusStep → Option Test → List Visit
under_of m None = []
under_of m (Some u) = tests_of m u.end (rest m.goals.now u.cursor)

-- the visits that are left from a task on, behind these of the row under way
abbrev pub left_of : MinusStep → ℕ → List Visit → List Visit
left_of m at under = tasks_left (visits_of m) (tasks_of m) at under

abbrev pub place_left : MinusStep → TestPlace → List Visit
place_left m place = left_of m place.at (under_of m place.under)

abbrev pub place_at : MinusStep → TestPlace → Pending → At
place_at m place p = at_left (place_left m place) (noted p)

-- a walk is over the rows of the step's store
abbrev pub Walks : MinusStep → Option RowsFrom → Type 0
Walks m rows = IfSome rows (λ w. w.store.now ≡ m.goals.now)

-- no row is under way
abbrev pub IsOver : TestPlace → Type 0
IsOver place = place.under ≡ None

-- work on the row under way, of which these visits were left: units ran out with visits left, or it is at its end
abbrev pub RowWork : MinusStep → ℕ → List Visit → TestPlace → Pending → Pending → ℕ → Option ℕ → Type 0
RowWork m at under new p q units None =
    Made (at_left (left_of m at under) (noted p)) (place_at m new q) units 0 × (place_left m new ≡ [] → ⊥)
RowWork m at under new p q units (Some rest) =
    Made (at_left (left_of m at under) (noted p)) (place_at m new q) units rest × IsOver new × (new.at ≡ at)

-- the next row: no unit is left for it, or there is none, or its own visit is made
abbrev pub BeginsRow : MinusStep → TestPlace → TestPlace → Pending → Pending → ℕ → Begun → Type 0
BeginsRow m old new p q units Stopped = (units ≡ 0) × (new ≡ old) × (q ≡ p) × (place_left m old ≡ [] → ⊥)
BeginsRow m old new p q units Over = (new ≡ old) × (q ≡ p) × (place_left m old ≡ [])
BeginsRow m old new p q units (Started operand d) = (0 < units)
    × Made (place_at m old p) (at_left (left_of m new.at (tests_of m d.now.row.span.end (looked_at m operand d.now.row))) (noted q)) 1 0
    × (new.at ≡ old.at + 1) × (old.at < length (tasks_of m))

-- ---- at the end

-- once for the sign, where there is one
abbrev pub times_of : Sign → Option Sign → ℕ
times_of s None = 0
times_of Plus (Some Plus) = 1
times_of Plus (Some Minus) = 0
times_of Minus (Some Plus) = 0
times_of Minus (Some Minus) = 1
