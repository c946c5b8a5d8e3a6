-- What single calls do to the marks.
use Rattle.std.proofs.Common.{ℕ, ◌≡◌, ◌≢◌, Option, Some, None, refl, ◌∙◌, inl, inr}
use Rattle.ev_bind.specs.Rows.{row_writes, exact_rows}
use Rattle.ev_bind.specs.declared.rows.Row.{Row}
use Rattle.row_table.specs.Tables.{hashed}
use Rattle.row_table.specs.Steps.{step_value, HasValue}
use Rattle.goal_store.specs.Values.{value_under, value_nowhere, find_row}
use Rattle.goal_store.specs.Goals.{mark_at, row_at}
use Rattle.goal_store.specs.declared.kept.GoalStore.{GoalStore}
use Rattle.goal_store.specs.declared.marks.Mark.{Mark}

module _ (g : GoalStore) (s : ℕ) (r : Row) where
  pub mark_found : (m : Mark) → HasValue g.goals.held.rows s r m → mark_at g s r ≡ Some m
  unfolding mark_at
  mark_found m h = value_under exact_rows (hashed row_writes) g.goals.held.rows g.good.held.table h.number s r h.key ∙ h.value

  pub mark_under : (n : ℕ) → row_at g n ≡ Some r → mark_at g s r ≡ step_value g.goals.held.rows n s
  unfolding mark_at
  mark_under n e = value_under exact_rows (hashed row_writes) g.goals.held.rows g.good.held.table n s r e

  pub mark_nowhere : ((n : ℕ) → row_at g n ≢ Some r) → mark_at g s r ≡ None
  unfolding mark_at
  mark_nowhere none = value_nowhere exact_rows (hashed row_writes) g.goals.held.rows s r none

  pub mark_absent : ((m : Mark) → HasValue g.goals.held.rows s r m → ⊥) → mark_at g s r ≡ None
  mark_absent none = elim (find_row exact_rows (hashed row_writes) g.goals.held.rows r) [
    | inr f ↦ mark_nowhere f
    | inl f ↦ mark_under f.0 f.1 ∙ by f.0 f.1 (step_value g.goals.held.rows f.0 s) refl
  ]
    where
      by : (n : ℕ) → row_at g n ≡ Some r → (o : Option Mark) → step_value g.goals.held.rows n s ≡ o → step_value g.goals.held.rows n s ≡ None
      by n e None h = h
      by n e (Some m) h = absurd (none m (record { number = n; key = e; value = h }))
