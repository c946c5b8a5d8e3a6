-- What an index lists: the rows that are held, each under its number and in the list of its key.
--     IsIndex ix held      it lists exactly these
--     also, less           one more, and one less
use Rattle.std.specs.Prelude.{ℕ, ◌≡◌, ◌==◌, Bool, ◌&&◌, ◌||◌, not, List}
use Rattle.std.specs.Ordering.{is_eq}
use Rattle.ordered_lists.specs.Canon.{has}
use Rattle.key_lists.specs.Lists.{list_in}
use Rattle.event_model.specs.declared.operators.Edge.{Edge}
use Rattle.interval_ops.specs.Operators.{edge_of}
use Rattle.ev_bind.specs.Hashing.{code_of}
use Rattle.ev_bind.specs.Projections.{project}
use Rattle.ev_bind.specs.Rows.{row_cmp}
use Rattle.ev_bind.specs.declared.rows.Row.{Row}
use Rattle.goal_store.specs.Places.{place_cmp}
use Rattle.goal_store.specs.declared.indexes.RowIndex.{RowIndex}
use Rattle.goal_store.specs.declared.places.Place.{Place}

-- which rows are held under which numbers
abbrev pub Rows : Type 0
Rows = Row → ℕ → Bool

abbrev pub is_this : Row → ℕ → Row → ℕ → Bool
is_this row number r n = is_eq (row_cmp r row) && (n == number)

abbrev pub also : Row → ℕ → Rows → Rows
also row number held r n = is_this row number r n || held r n

abbrev pub less : Row → ℕ → Rows → Rows
less row number held r n = not (is_this row number r n) && held r n

-- the number of the list in which rows with a row's key stand
abbrev pub list_of : ℕ → Row → ℕ
list_of key r = code_of (project key r.binding)

-- the place has its row's edge, and is in the list of its row's key
abbrev pub stands : ℕ → Edge → ℕ → Place → Bool
stands key edge h p = (list_of key p.row == h) && (edge_of edge p.row.span == p.edge)

-- lists under numbers have exactly these rows
abbrev pub HaveRows : ℕ → Edge → (ℕ → List Place) → Rows → Type 0
HaveRows key edge lists held = (h : ℕ) (p : Place) → has place_cmp p (lists h) ≡ (stands key edge h p && held p.row p.number)

abbrev pub IsIndex : RowIndex → Rows → Type 0
IsIndex ix held = HaveRows ix.key ix.edge (list_in ix.lists) held
