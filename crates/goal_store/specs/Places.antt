-- Rows under their numbers, in the order of an edge.
use Rattle.std.specs.Prelude.{ℕ, []}
use Rattle.std.specs.Ordering.{nat_cmp, ordering_then, then_cmp, on}
use Rattle.std.specs.declared.cmp.Ordering.{Ordering}
use Rattle.ordered_lists.specs.Canon.{Exact}
use Rattle.ordered_lists.specs.Orders.{exact_numbers, exact_then}
use Rattle.event_model.specs.declared.operators.Edge.{Edge}
use Rattle.interval_ops.specs.Operators.{edge_of}
use Rattle.ev_bind.specs.Rows.{row_cmp, exact_rows}
use Rattle.ev_bind.specs.declared.rows.Row.{Row}
use Rattle.goal_store.specs.declared.places.Place.{Place}
use Rattle.goal_store.specs.declared.places.Spot.{Spot}

-- by the time of the edge, then as rows are in order, then by number
abbrev pub place_cmp : Place → Place → Ordering
place_cmp a b = ordering_then (nat_cmp a.edge b.edge) (ordering_then (row_cmp a.row b.row) (nat_cmp a.number b.number))

-- the place of a row under a number
abbrev pub place_at : Edge → Row → ℕ → Place
place_at e r n = record { edge = edge_of e r.span; row = r; number = n }

-- the place that a spot stands for
abbrev pub like_spot : Spot → Place
like_spot s = record { edge = s.edge; row = s.row.now; number = s.number }

-- the first of all rows
abbrev pub least_row : Row
least_row = record { binding = []; span = record { start = 0; end = 0 } }

abbrev pub least_at : ℕ → Place
least_at low = record { edge = low; row = least_row; number = 0 }

-- ---- laws

-- a row and its number
pub record Numbered : Type 0 where
  pub row : Row
  pub number : ℕ

exact_numbered : Exact (then_cmp (on (λ (p : Numbered). p.row) row_cmp) (on (λ p. p.number) nat_cmp))
exact_numbered = exact_then {K = Numbered} (λ p. p.row) (λ p. p.number) (λ x y d e i. record { row = d i; number = e i })
    exact_rows exact_numbers

abbrev pub numbered : Place → Numbered
numbered p = record { row = p.row; number = p.number }

pub exact_places : Exact place_cmp
exact_places = exact_then {K = Place} (λ p. p.edge) numbered
    (λ x y d e i. record { edge = d i; row = (e i).row; number = (e i).number }) exact_numbers exact_numbered
