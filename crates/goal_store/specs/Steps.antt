-- The indexes of the steps.
--     index_in steps s k           the index k of step s
--     Lists steps s k held         it lists exactly these
use Rattle.std.specs.Prelude.{ℕ, ◌≡◌, Option, Some, List, slice_get}
use Rattle.std.specs.Option.{option_map, option_and_then}
use Rattle.event_model.specs.declared.operators.Edge.{Edge}
use Rattle.goal_store.specs.Indexed.{Rows, IsIndex}
use Rattle.goal_store.specs.declared.indexes.RowIndex.{RowIndex}
use Rattle.goal_store.specs.declared.steps.StepPlaces.{StepPlaces}

abbrev pub index_in : List StepPlaces → ℕ → ℕ → Option RowIndex
index_in steps s k = option_and_then (λ p. slice_get p.indexes.items k) (slice_get steps s)

-- one of these indexes lists exactly these rows
abbrev pub ListsAt : List RowIndex → ℕ → Rows → Type 0
ListsAt ixs k held = (ix : RowIndex) → slice_get ixs k ≡ Some ix → IsIndex ix held

abbrev pub Lists : List StepPlaces → ℕ → ℕ → Rows → Type 0
Lists steps s k held = (ix : RowIndex) → index_in steps s k ≡ Some ix → IsIndex ix held

-- what an index is over
abbrev pub kind : RowIndex → ℕ × Edge
kind ix = (ix.key, ix.edge)

-- the same indexes, whatever they list
abbrev pub SameKinds : List RowIndex → List RowIndex → Type 0
SameKinds old new = (k : ℕ) → option_map kind (slice_get new k) ≡ option_map kind (slice_get old k)

abbrev pub SameSteps : List StepPlaces → List StepPlaces → Type 0
SameSteps old new = (s k : ℕ) → option_map kind (index_in new s k) ≡ option_map kind (index_in old s k)
