-- The visits that a Minus has still to make.
--     minus_left goals way joined inner before after place      those at a place, where these are the changed rows of its operands
use Rattle.std.specs.Prelude.{ℕ, Option, Some, None, List, [], map, nat_le, if◌then◌else◌}
use Rattle.ev_bind.specs.declared.rows.Row.{Row}
use Rattle.row_changes.specs.Visits.{Visit}
use Rattle.change_meaning.specs.MinusVisits.{MinusView, TestTask, verdict, test_tasks, tests_at, minus_visits}
use Rattle.goal_store.specs.Goals.{rest}
use Rattle.goal_store.specs.declared.kept.GoalStore.{GoalStore}
use Rattle.step_changes.specs.Deltas.{plain_deltas}
use Rattle.step_changes.specs.Tasks.{tasks_left}
use Rattle.step_changes.specs.declared.deltas.Delta.{Delta}
use Rattle.negation_witness.specs.Ways.{minus_view}
use Rattle.negation_witness.specs.declared.places.Test.{Test}
use Rattle.negation_witness.specs.declared.places.TestPlace.{TestPlace}
use Rattle.negation_witness.specs.declared.ways.MinusWay.{MinusWay}

-- what the visit of a joined row gives under a changed row with this end
abbrev pub tested : MinusView → ℕ → Row → Visit
tested v end r = if nat_le end r.span.end then verdict v r else None

-- the visits of the joined rows that are left of the changed row under way
abbrev pub under_left : GoalStore → MinusWay → Option Test → List Visit
under_left goals way None = []
under_left goals way (Some u) = map (tested (minus_view goals way) u.end) (rest goals u.cursor)

abbrev pub changed_tasks : MinusView → (joined inner before after : List Delta) → List TestTask
changed_tasks v joined inner before after =
    test_tasks v (plain_deltas joined) (plain_deltas inner) (plain_deltas before) (plain_deltas after)

unfoldable pub minus_left : GoalStore → MinusWay → (joined inner before after : List Delta) → TestPlace → List Visit
minus_left goals way joined inner before after place =
    tasks_left (tests_at (minus_view goals way)) (changed_tasks (minus_view goals way) joined inner before after) place.at
    (under_left goals way place.under)

-- all visits
abbrev pub all_tests : GoalStore → MinusWay → (joined inner before after : List Delta) → List Visit
all_tests goals way joined inner before after =
    minus_visits (minus_view goals way) (plain_deltas joined) (plain_deltas inner) (plain_deltas before) (plain_deltas after)
