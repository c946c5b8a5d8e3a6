-- What a store of goals keeps: the marks, the lists of the indexes, and the goals that changed fit together.
use Rattle.std.specs.Prelude.{ℕ, zero, suc, ◌≡◌, ◌≤◌, ◌+◌, ◌==◌, ◌&&◌, Bool, true, false, List, length, Option, Some, None, nat_lt, vec_capacity, vec_len}
use Rattle.std.specs.List.{list_any}
use Rattle.std.specs.Option.{is_some, option_map_or}
use Rattle.std.specs.Ordering.{is_eq}
use Rattle.ev_bind.specs.Rows.{row_cmp, row_writes}
use Rattle.ev_bind.specs.declared.rows.Row.{Row}
use Rattle.row_table.specs.Steps.{row_under, step_value, IsRowTable}
use Rattle.row_table.specs.Tables.{hashed}
use Rattle.row_table.specs.declared.rows.RowTable.{RowTable}
use Rattle.goal_store.specs.Indexed.{Rows}
use Rattle.goal_store.specs.Marks.{is_old, settled}
use Rattle.goal_store.specs.Steps.{Lists}
use Rattle.goal_store.specs.Values.{value_in, rows_that}
use Rattle.goal_store.specs.declared.goals.Changed.{Changed}
use Rattle.goal_store.specs.declared.goals.Goals.{Goals}
use Rattle.goal_store.specs.declared.held.Held.{Held}
use Rattle.goal_store.specs.declared.marks.Mark.{Mark}
use Rattle.goal_store.specs.declared.marks.Mark.TheVariants.{Old, Fresh, Dying}

-- whether a step has the row, and under this number
abbrev pub held_by : RowTable Row Mark → ℕ → Rows
held_by t s r n = option_map_or (λ k. is_eq (row_cmp r k)) (row_under t n) false && is_some (step_value t n s)

-- one mark under a number is this, and all others stay
pub record OneValue (old new : RowTable Row Mark) (number step : ℕ) (o : Option Mark) : Type 0 where
  pub here : step_value new number step ≡ o
  pub others : (n s : ℕ) → (n ≡ number → s ≡ step → ⊥) → step_value new n s ≡ step_value old n s

-- the same of a row, whatever its number
pub record OneMark (old new : RowTable Row Mark) (step : ℕ) (row : Row) (o : Option Mark) : Type 0 where
  pub this : value_in row_cmp new step row ≡ o
  pub others : (s : ℕ) (r : Row) → (s ≡ step → r ≡ row → ⊥) → value_in row_cmp new s r ≡ value_in row_cmp old s r

-- all values stay
abbrev pub SameValues : RowTable Row Mark → RowTable Row Mark → Type 0
SameValues old new = (n s : ℕ) → step_value new n s ≡ step_value old n s

-- no number has another row than before
abbrev pub FewerRows : RowTable Row Mark → RowTable Row Mark → Type 0
FewerRows old new = (n : ℕ) (r : Row) → row_under new n ≡ Some r → row_under old n ≡ Some r

-- whether the mark is to change once a change is over
abbrev pub unsettled : Option Mark → Bool
unsettled None = false
unsettled (Some Old) = false
unsettled (Some Fresh) = true
unsettled (Some Dying) = true

-- the marks once a change is over
abbrev pub SettledRows : RowTable Row Mark → RowTable Row Mark → Type 0
SettledRows old new = (s : ℕ) (r : Row) → value_in row_cmp new s r ≡ settled (value_in row_cmp old s r)

-- how many goals with such marks the first steps have
abbrev pub count_below : (Mark → Bool) → RowTable Row Mark → ℕ → ℕ
count_below p t zero = 0
count_below p t (suc n) = count_below p t n + length (rows_that row_cmp p t n)

pub record IsHeld (h : Held) : Type 0 where
  pub table : IsRowTable (hashed row_writes) row_cmp h.rows
  -- each index has exactly the rows of its step
  pub listed : (s k : ℕ) → Lists h.steps.items s k (held_by h.rows s)
  -- no other step has rows
  pub within : (n s : ℕ) → is_some (step_value h.rows n s) ≡ true → nat_lt s (length h.steps.items) ≡ true
  pub counted : h.number ≡ count_below (λ m. true) h.rows (length h.steps.items)

-- one goal is settled: what is left to change is the same but for it
pub record SettlesAt (old new : Held) (number step : ℕ) : Type 0 where
  pub same : (s : ℕ) (r : Row) → settled (value_in row_cmp new.rows s r) ≡ settled (value_in row_cmp old.rows s r)
  pub here : unsettled (step_value new.rows number step) ≡ false
  pub others : (n s : ℕ) → unsettled (step_value new.rows n s) ≡ true → unsettled (step_value old.rows n s) ≡ true
  pub fewer : new.number ≤ old.number
  pub room : count_below is_old new.rows (length new.steps.items) + old.number
      ≤ count_below is_old old.rows (length old.steps.items) + 1 + new.number

-- whether the goal is in the list
abbrev pub is_noted : ℕ → ℕ → List Changed → Bool
is_noted n s cs = list_any (λ c. (c.number == n) && (c.step == s)) cs

pub record IsGood (g : Goals) : Type 0 where
  pub held : IsHeld g.held
  -- each goal that is to change is in the list
  pub noted : (n s : ℕ) → unsettled (step_value g.held.rows n s) ≡ true → is_noted n s g.changed.items ≡ true
  -- and there is room in it for all goals that may be dropped
  pub room : vec_len g.changed + count_below is_old g.held.rows (length g.held.steps.items) ≤ g.held.number
  pub fits : g.held.number ≤ vec_capacity g.changed
