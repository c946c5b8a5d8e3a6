-- Which rows an index lists for a key and a range, and in which order.
use Rattle.std.specs.Prelude.{ℕ, Bool, ◌&&◌, List}
use Rattle.std.specs.List.{filter}
use Rattle.std.specs.Ordering.{on, then_cmp, nat_cmp}
use Rattle.std.specs.Cmp.Lexicographic.{slice_cmp}
use Rattle.std.specs.declared.cmp.Ordering.{Ordering}
use Rattle.ordered_lists.specs.Canon.{canon}
use Rattle.event_model.specs.declared.operators.Edge.{Edge}
use Rattle.event_model.specs.declared.operators.Edge.TheVariants.{Start, End}
use Rattle.interval_ops.specs.Operators.{in_range}
use Rattle.interval_ops.specs.declared.ranges.Range.{Range}
use Rattle.rule_ast.specs.Vars.{is_in}
use Rattle.ev_bind.specs.Bindings.{Pairs, pair_cmp}
use Rattle.ev_bind.specs.Projections.{same_pairs}
use Rattle.ev_bind.specs.Rows.{row_cmp}
use Rattle.ev_bind.specs.declared.rows.Row.{Row}

-- the pairs of a binding at the slots of a key
abbrev pub on_key : List ℕ → Pairs → Pairs
on_key key b = filter (λ p. is_in p.0 key) b

-- two bindings have the same values at the slots of a key
abbrev pub agree : List ℕ → Pairs → Pairs → Bool
agree key a b = same_pairs (on_key key a) (on_key key b)

-- by the time of an edge, then by that of the other, then by the pairs from the left
abbrev pub edge_cmp : Edge → Row → Row → Ordering
edge_cmp Start = row_cmp
edge_cmp End =
    then_cmp (on (λ r. r.span.end) nat_cmp) (then_cmp (on (λ r. r.span.start) nat_cmp) (on (λ r. r.binding) (slice_cmp pair_cmp)))

-- the rows that agree with a binding on a key, and lie in a range
abbrev pub is_listed : List ℕ → Range → Pairs → Row → Bool
is_listed key range b r = agree key b r.binding && in_range range r.span

-- the same of these rows, in the order of the range's edge
abbrev pub listed : List ℕ → Range → Pairs → List Row → List Row
listed key range b rows = canon (edge_cmp range.edge) (filter (is_listed key range b) rows)
