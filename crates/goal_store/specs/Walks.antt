-- Walks over the rows of an index.
--     rows_left w      the rows that a walk stands before
use Rattle.std.specs.Prelude.{ℕ, ◌≡◌, ◌&&◌, Bool, true, List, ◌∷◌, map, nat_le}
use Rattle.std.specs.List.{filter}
use Rattle.ev_bind.specs.Bindings.{Pairs}
use Rattle.ev_bind.specs.Projections.{project, same_pairs}
use Rattle.ev_bind.specs.declared.rows.Row.{Row}
use Rattle.row_table.specs.Steps.{step_value}
use Rattle.row_table.specs.declared.rows.RowTable.{RowTable}
use Rattle.key_lists.specs.Pieces.{left}
use Rattle.key_lists.specs.declared.runs.Position.{Position}
use Rattle.goal_store.specs.Marks.{seen_as}
use Rattle.goal_store.specs.declared.marks.Mark.{Mark}
use Rattle.goal_store.specs.declared.marks.When.{When}
use Rattle.goal_store.specs.declared.places.Place.{Place}
use Rattle.goal_store.specs.declared.walks.RowsFrom.{RowsFrom}

-- the row at a place is seen, has the key, and doesn't lie past the end of the range
abbrev pub is_shown : RowTable Row Mark → ℕ → When → ℕ → Pairs → ℕ → Place → Bool
is_shown t step w slots key high p =
    (seen_as w (step_value t p.number step) && same_pairs (project slots p.row.binding) (project slots key)) && nat_le p.edge high

abbrev pub shows : RowsFrom → Place → Bool
shows w = is_shown w.store.now.goals.held.rows w.step w.when w.slots w.key.now w.high

-- the places that are shown, from one on
abbrev pub shown_from : RowsFrom → Position → List Place
shown_from w at = filter (shows w) (left w.places at)

-- a place is the first that is shown, with where it stands and where what is behind it stands
pub record StopsAt (w : RowsFrom) (p : Place) (at behind : Position) : Type 0 where
  pub here : left w.places at ≡ p ∷ left w.places behind
  pub shown : shows w p ≡ true
  pub first : shown_from w w.at ≡ shown_from w at

unfoldable pub rows_left : RowsFrom → List Row
rows_left w = map (λ p. p.row) (shown_from w w.at)
