-- The order of rows.
use Rattle.std.specs.Prelude.{◌≡◌, true, false, ◌++◌, eqb}
use Rattle.std.specs.Ordering.{on, then_cmp, is_eq}
use Rattle.std.specs.Hash as fed
use Rattle.std.specs.Hash.{HashWrites}
use Rattle.std.proofs.Common.{ap}
use Rattle.std.proofs.lemmas.Bool.{eqb-false, false_from_ne_true}
use Rattle.std.specs.Cmp.Lexicographic.{slice_cmp}
use Rattle.std.specs.declared.cmp.Ordering.{Ordering}
use Rattle.ordered_lists.specs.Canon.{Exact}
use Rattle.ordered_lists.specs.Orders.{exact_then, exact_lists}
use Rattle.event_model.specs.EventOrder.{span_cmp, exact_spans}
use Rattle.ev_bind.specs.Bindings.{pair_cmp, exact_pairs}
use Rattle.ev_bind.specs.Hashing.{code_of}
use Rattle.ev_bind.specs.Projections.{tie}
use Rattle.ev_bind.specs.declared.rows.Row.{Row}

-- by start, end and then the pairs from the left
abbrev pub row_cmp : Row → Row → Ordering
row_cmp = then_cmp (on (λ r. r.span) span_cmp) (on (λ r. r.binding) (slice_cmp pair_cmp))

pub exact_rows : Exact row_cmp
exact_rows = exact_then (λ r. r.span) (λ r. r.binding) (λ x y p q i. record { span = p i; binding = q i })
    exact_spans (exact_lists exact_pairs)

-- what a row feeds the hasher: the hash of its binding, its start and its end
abbrev pub row_writes : Row → HashWrites
row_writes r = fed.u64 (code_of r.binding) ++ (fed.u64 r.span.start ++ fed.u64 r.span.end)

-- rows that tie are the same
pub same_rows : (x y : Row) → is_eq (row_cmp x y) ≡ true → x ≡ y
same_rows x y h = exact_rows.same x y (tie (row_cmp x y) h)

-- rows with different hashes are not the same
pub hashes_tell : (x y : Row) → eqb (code_of x.binding) (code_of y.binding) ≡ false → is_eq (row_cmp x y) ≡ false
hashes_tell x y n = false_from_ne_true (is_eq (row_cmp x y)) (λ h.
    eqb-false (code_of x.binding) (code_of y.binding) n (ap (λ r. code_of r.binding) (same_rows x y h)))
