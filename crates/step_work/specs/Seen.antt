-- What a step sees of the others in a store of goals, and which visits it has left.
--     rows_give cap make rows         what changed rows give to a step
--     view_in goals count changed     the view of a plan, where these are the supports and the changed rows of each step
--     left_of .. s way spot           the visits that the step s has left at a spot
use Rattle.std.specs.Prelude.{ℕ, Option, Some, None, List, [], map, slice_get}
use Rattle.std.specs.declared.alloc.Global.{Global}
use Rattle.std.specs.declared.vec.Vec.{Vec}
use Rattle.ev_bind.specs.declared.rows.Row.{Row}
use Rattle.rule_ast.specs.PlainPlans.{PlainStep, Named, Leaf, Join, Either, Where, Exact, Within, Minus, Head}
use Rattle.row_changes.specs.Visits.{Visit}
use Rattle.change_meaning.specs.Courses.{row_gives}
use Rattle.goal_store.specs.Goals.{seen}
use Rattle.goal_store.specs.declared.kept.GoalStore.{GoalStore}
use Rattle.goal_store.specs.declared.marks.When.TheVariants.{Before, After}
use Rattle.step_changes.specs.Deltas.{plain_deltas}
use Rattle.step_changes.specs.declared.deltas.Delta.{Delta}
use Rattle.match_step.specs.Joining.{join_left}
use Rattle.match_step.specs.declared.joining.Place.{Place}
use Rattle.match_step.specs.declared.ways.JoinWay.{JoinWay}
use Rattle.negation_witness.specs.Testing.{minus_left}
use Rattle.negation_witness.specs.declared.places.TestPlace.{TestPlace}
use Rattle.negation_witness.specs.declared.ways.MinusWay.{MinusWay}
use Rattle.step_work.specs.Views.{View}
use Rattle.step_work.specs.declared.spots.Spot.{Spot}
use Rattle.step_work.specs.declared.ways.StepWay.{StepWay}
use Rattle.step_work.specs.declared.ways.StepWay.TheVariants as by

abbrev pub items_or_none : Option (Vec Delta Global) → List Delta
items_or_none None = []
items_or_none (Some v) = v.items

-- the changed rows of a step; none past the last list
abbrev pub changed_rows : List (Vec Delta Global) → ℕ → List Delta
changed_rows changed j = items_or_none (slice_get changed j)

-- what changed rows give to a step, which makes rows of them so
abbrev pub rows_give : Option ℕ → (Row → Option Row) → List Delta → List Visit
rows_give cap make rows = map (row_gives cap make) (plain_deltas rows)

abbrev pub view_in : GoalStore → (ℕ → Row → ℕ) → List (Vec Delta Global) → View
view_in goals count changed = record {
  before = λ i. seen goals i Before;
  after = λ i. seen goals i After;
  count = count;
  changed = λ j. plain_deltas (changed_rows changed j);
}

-- the visits that a join has left, and those that a Minus has left
abbrev pub join_from : GoalStore → List (Vec Delta Global) → (left right : ℕ) → JoinWay → Place → List Visit
join_from goals changed l r w place = join_left goals w (changed_rows changed l) (changed_rows changed r) place

abbrev pub minus_from : GoalStore → List (Vec Delta Global) → (joined before inner after : ℕ) → MinusWay → TestPlace → List Visit
minus_from goals changed j f i l w place =
    minus_left goals w (changed_rows changed j) (changed_rows changed i) (changed_rows changed f) (changed_rows changed l) place

abbrev pub joins_left : GoalStore → List (Vec Delta Global) → (left right : ℕ) → StepWay → Spot → List Visit
joins_left goals changed l r by.Plain spot = []
joins_left goals changed l r (by.Join w) spot = join_from goals changed l r w spot.join
joins_left goals changed l r (by.Minus w) spot = []

abbrev pub tests_left : GoalStore → List (Vec Delta Global) → (joined before inner after : ℕ) → StepWay → Spot → List Visit
tests_left goals changed j f i l by.Plain spot = []
tests_left goals changed j f i l (by.Join w) spot = []
tests_left goals changed j f i l (by.Minus w) spot = minus_from goals changed j f i l w spot.tests

unfoldable pub left_of : GoalStore → List (Vec Delta Global) → PlainStep → StepWay → Spot → List Visit
left_of goals changed (Named n heads) way spot = []
left_of goals changed (Leaf of p) way spot = []
left_of goals changed (Join op l r) way spot = joins_left goals changed l r way spot
left_of goals changed (Either l r) way spot = []
left_of goals changed (Where of t) way spot = []
left_of goals changed (Exact of q) way spot = []
left_of goals changed (Within of q) way spot = []
left_of goals changed (Minus j f i l) way spot = tests_left goals changed j f i l way spot
left_of goals changed (Head of head) way spot = []
