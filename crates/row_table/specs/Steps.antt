-- Rows under numbers; under each the steps that have it, with a value each.
--     value_at e n s     the value of step s at the row under n
--     At e s k v         step s has the row k, with the value v
use Rattle.std.specs.Prelude.{ℕ, ◌≡◌, Option, Some, List}
use Rattle.std.specs.Option.{option_and_then}
use Rattle.row_table.specs.Pairs.{get}
use Rattle.slab.specs.Slab.{Slab}
use Rattle.slab.specs.Slab as slots
use Rattle.row_table.specs.Tables.{key_of, value_of, IsKeyTable}
use Rattle.row_table.specs.declared.rows.RowTable.{RowTable}
use Rattle.std.specs.declared.cmp.Ordering.{Ordering}
use Rattle.row_table.specs.declared.keys.Entry.{Entry}

abbrev pub value_at : {K V : Type 0} → Slab (Entry K (List (ℕ × V))) → ℕ → ℕ → Option V
value_at e n s = option_and_then (λ m. get m s) (value_of e n)

pub record At {K V : Type 0} (e : Slab (Entry K (List (ℕ × V)))) (s : ℕ) (k : K) (v : V) : Type 0 where
  pub number : ℕ
  pub key : key_of e number ≡ Some k
  pub value : value_at e number s ≡ Some v

-- ---- the same of a whole table

-- the row under a number
abbrev pub row_under : {K V : Type 0} → RowTable K V → ℕ → Option K
row_under t n = key_of t.table.entries n

-- the value of a step at the row under a number
abbrev pub step_value : {K V : Type 0} → RowTable K V → ℕ → ℕ → Option V
step_value t n s = value_at t.table.entries n s

abbrev pub HasValue : {K V : Type 0} → RowTable K V → ℕ → K → V → Type 0
HasValue t = At t.table.entries

-- what stands under a number stays
abbrev pub same_record : {K V : Type 0} → RowTable K V → RowTable K V → ℕ → Type 0
same_record old new n = slots.get new.table.entries n ≡ slots.get old.table.entries n

abbrev pub IsRowTable : {K V : Type 0} → (K → ℕ) → (K → K → Ordering) → RowTable K V → Type 0
IsRowTable code cmp t = IsKeyTable code cmp t.table
