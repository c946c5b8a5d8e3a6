-- Joins that work on the store.
--     IsWay goals way         the way of a join is by indexes of the store over its operands
--     view_of goals way       the join by that way, with the rows that are seen
--     join_left .. place      the visits that are left at a place
use Rattle.std.specs.Prelude.{◌≡◌, List, [], map, Option, Some, None}
use Rattle.interval_ops.specs.declared.ranges.Side.TheVariants.{Left, Right}
use Rattle.step_meaning.specs.PlanOf.{partner_edge}
use Rattle.row_changes.specs.Visits.{Visit, signed}
use Rattle.change_meaning.specs.JoinVisits.{JoinView, join_tasks, visits_at}
use Rattle.goal_store.specs.Goals.{seen}
use Rattle.goal_store.specs.declared.kept.GoalStore.{GoalStore}
use Rattle.goal_store.specs.declared.marks.When.TheVariants.{Before, After}
use Rattle.step_changes.specs.Deltas.{plain_deltas}
use Rattle.step_changes.specs.Indexed.{index_at, index_of}
use Rattle.step_changes.specs.Tasks.{tasks_left}
use Rattle.step_changes.specs.declared.deltas.Delta.{Delta}
use Rattle.match_step.specs.declared.joining.Place.{Place}
use Rattle.match_step.specs.declared.joining.Under.{Under}
use Rattle.match_step.specs.declared.ways.JoinWay.{JoinWay}
use Rattle.match_step.specs.Left.{mark_left}

-- both indexes are there, over the same slots, by the edges at which partners lie in a range
pub record IsWay (goals : GoalStore) (way : JoinWay) : Type 0 where
  pub left_there : index_at goals way.lefts ≡ Some (index_of goals way.lefts)
  pub right_there : index_at goals way.rights ≡ Some (index_of goals way.rights)
  pub left_edge : (index_of goals way.lefts).edge ≡ partner_edge way.op Right
  pub right_edge : (index_of goals way.rights).edge ≡ partner_edge way.op Left
  pub same_key : (index_of goals way.rights).key ≡ (index_of goals way.lefts).key

abbrev pub view_of : GoalStore → JoinWay → JoinView
view_of goals way = record {
  op = way.op;
  cap = way.cap;
  key = (index_of goals way.lefts).key;
  lefts = seen goals (index_of goals way.lefts).of Before;
  rights = seen goals (index_of goals way.rights).of After;
}

abbrev pub under_left : GoalStore → Option Under → List Visit
under_left goals None = []
under_left goals (Some u) = map (signed u.sign) (mark_left goals u.mark)

-- those of the row under way, and those of the changed rows that aren't begun
unfoldable pub join_left : GoalStore → JoinWay → (lefts rights : List Delta) → Place → List Visit
join_left goals way lefts rights place =
    tasks_left (visits_at (view_of goals way)) (join_tasks (plain_deltas lefts) (plain_deltas rights)) place.begun
    (under_left goals place.under)
