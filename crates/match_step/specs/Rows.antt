-- The work on one changed row of a join.
use Rattle.std.specs.Prelude.{◌≡◌, ℕ, List, [], Option, Some, None}
use Rattle.interval_ops.specs.declared.ranges.Side.{Side}
use Rattle.row_changes.specs.Visits.{Visit, At, Made}
use Rattle.change_meaning.specs.JoinVisits.{JoinTask, join_task, join_tasks, visits_at}
use Rattle.step_changes.specs.Deltas.{plain_delta, plain_deltas}
use Rattle.step_changes.specs.Notes.{noted}
use Rattle.step_changes.specs.Tasks.{at_left, tasks_left}
use Rattle.step_changes.specs.declared.deltas.Delta.{Delta}
use Rattle.step_changes.specs.declared.pending.Pending.{Pending}
use Rattle.match_step.specs.declared.joining.JoinStep.{JoinStep}
use Rattle.match_step.specs.declared.joining.Place.{Place}
use Rattle.match_step.specs.Joining.{view_of, join_left}

abbrev pub task_of : Side → Delta → JoinTask
task_of side d = join_task side (plain_delta d)

abbrev pub tasks : JoinStep → List JoinTask
tasks j = join_tasks (plain_deltas j.lefts.now) (plain_deltas j.rights.now)

abbrev pub join_at : JoinStep → Place → Pending → At
join_at j place p = at_left (join_left j.goals.now j.way j.lefts.now j.rights.now place) (noted p)

-- so many rows are begun, and the last of them has these visits left
abbrev pub row_at : JoinStep → ℕ → List Visit → Pending → At
row_at j begun under p = at_left (tasks_left (visits_at (view_of j.goals.now j.way)) (tasks j) begun under) (noted p)

-- the units are used up and visits are left, or the row is at its end
abbrev pub RowWork : JoinStep → ℕ → At → Place → Pending → ℕ → Option ℕ → Type 0
RowWork j begun a place p units None =
    Made a (join_at j place p) units 0 × (join_left j.goals.now j.way j.lefts.now j.rights.now place ≡ [] → ⊥)
RowWork j begun a place p units (Some rest) = Made a (join_at j place p) units rest × (place.under ≡ None) × (place.begun ≡ begun)
