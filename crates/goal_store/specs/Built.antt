-- What a store without goals is made of.
--     IsOwn given own        the same indexes, whose keys have no other slots than there are
--     IsBare steps           the indexes of these steps list nothing
--     IsAdded old new x k    the index x was added to its step, at k
use Rattle.std.specs.Prelude.{ℕ, ◌≡◌, List, length, map, Some, false, true, nat_lt}
use Rattle.std.specs.Option.{option_map}
use Rattle.event_model.specs.declared.operators.Edge.{Edge}
use Rattle.rule_ast.specs.PlainPlans.{plain_index}
use Rattle.rule_ast.specs.declared.plans.Index.{Index}
use Rattle.goal_store.specs.Indexed.{Rows}
use Rattle.goal_store.specs.Steps.{index_in, kind, Lists}
use Rattle.goal_store.specs.Fits.{AllFit}
use Rattle.goal_store.specs.declared.steps.StepPlaces.{StepPlaces}

pub record IsOwn (given own : List Index) : Type 0 where
  pub same : map plain_index own ≡ map plain_index given
  pub fits : AllFit own

-- no row is held
abbrev pub no_rows : Rows
no_rows r n = false

abbrev pub IsBare : List StepPlaces → Type 0
IsBare steps = (s k : ℕ) → Lists steps s k no_rows

pub record IsAdded (old new : List StepPlaces) (x : Index) (k : ℕ) : Type 0 where
  pub number : length new ≡ length old
  pub kept : (s j : ℕ) (y : ℕ × Edge) → option_map kind (index_in old s j) ≡ Some y → option_map kind (index_in new s j) ≡ Some y
  pub here : nat_lt x.of (length old) ≡ true → option_map kind (index_in new x.of k) ≡ Some (x.key, x.edge)
  pub bare : IsBare old → IsBare new
