-- How many visits a step can have left.
use Rattle.std.specs.Prelude.{ℕ, ◌^◌, ◌<◌, Option, Some, None, List, length, slice_get}
use Rattle.std.specs.declared.alloc.Global.{Global}
use Rattle.std.specs.declared.vec.Vec.{Vec}
use Rattle.std.proofs.Common.{arith}
use Rattle.rule_ast.specs.PlainPlans.{PlainStep, Named, Leaf, Join, Either, Where, Exact, Within, Minus, Head}
use Rattle.goal_store.specs.Goals.{seen}
use Rattle.goal_store.specs.declared.kept.GoalStore.{GoalStore}
use Rattle.goal_store.specs.declared.marks.When.{When}
use Rattle.step_changes.specs.declared.deltas.Delta.{Delta}
use Rattle.match_step.specs.Few.{join_few}
use Rattle.negation_witness.specs.Few.{minus_few}
use Rattle.step_work.specs.Seen.{items_or_none, changed_rows, joins_left, tests_left, left_of}
use Rattle.step_work.specs.declared.spots.Spot.{Spot}
use Rattle.step_work.specs.declared.ways.StepWay.{StepWay}
use Rattle.step_work.specs.declared.ways.StepWay.TheVariants as by

-- a list of changed rows is one in memory
changed_few : (changed : List (Vec Delta Global)) (j : ℕ) → length (changed_rows changed j) < 2 ^ 64
changed_few changed j = at (slice_get changed j)
  where
    at : (o : Option (Vec Delta Global)) → length (items_or_none o) < 2 ^ 64
    at None = omega arith
    at (Some v) = omega (arith, v.ok.0, v.ok.1, v.small)

-- where steps have few rows, a step has few visits left
module _ (goals : GoalStore) (changed : List (Vec Delta Global)) (spot : Spot)
    (few : (i : ℕ) (w : When) → length (seen goals i w) < 2 ^ 64) where
  joins_few : (l r : ℕ) (way : StepWay) → length (joins_left goals changed l r way spot) < 2 ^ 132
  joins_few l r by.Plain = omega arith
  joins_few l r (by.Join w) =
      let h = join_few goals w (changed_rows changed l) (changed_rows changed r) spot.join few
      (changed_few changed l) (changed_few changed r) in omega (arith, h)
  joins_few l r (by.Minus w) = omega arith

  tests_few : (j f i l : ℕ) (way : StepWay) → length (tests_left goals changed j f i l way spot) < 2 ^ 132
  tests_few j f i l by.Plain = omega arith
  tests_few j f i l (by.Join w) = omega arith
  tests_few j f i l (by.Minus w) =
      minus_few goals w (changed_rows changed j) (changed_rows changed i) (changed_rows changed f) (changed_rows changed l) spot.tests few
      (changed_few changed j) (changed_few changed i) (changed_few changed f) (changed_few changed l)

  pub left_few : (s : PlainStep) (way : StepWay) → length (left_of goals changed s way spot) < 2 ^ 132
  unfolding left_of
  left_few (Named n heads) way = omega arith
  left_few (Leaf of p) way = omega arith
  left_few (Join op l r) way = joins_few l r way
  left_few (Either l r) way = omega arith
  left_few (Where of t) way = omega arith
  left_few (Exact of q) way = omega arith
  left_few (Within of q) way = omega arith
  left_few (Minus j f i l) way = tests_few j f i l way
  left_few (Head of head) way = omega arith
