-- What an index of a store is over.
use Rattle.std.specs.Prelude.{ℕ, unwrap_or, [], Option, slice_get}
use Rattle.event_model.specs.declared.operators.Edge.TheVariants.{Start}
use Rattle.rule_ast.specs.PlainPlans.{PlainIndex}
use Rattle.goal_store.specs.Goals.{indexes_of}
use Rattle.goal_store.specs.declared.kept.GoalStore.{GoalStore}

abbrev pub index_at : GoalStore → ℕ → Option PlainIndex
index_at goals n = slice_get (indexes_of goals) n

-- the index of a number; one over no slots where there is none
abbrev pub index_of : GoalStore → ℕ → PlainIndex
index_of goals n = unwrap_or (index_at goals n) (record { of = 0; key = []; edge = Start })
