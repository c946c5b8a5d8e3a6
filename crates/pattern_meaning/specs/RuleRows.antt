-- The rows of every pattern, the rows of a name over the rules of a file, and the detections that stand.
use Rattle.std.specs.Prelude.{ℕ, zero, suc, ◌-◌, Bool, ◌&&◌, ◌==◌, nat_le, Option, List, ◌++◌, map, length}
use Rattle.std.specs.List.{filter, flat_map}
use Rattle.std.specs.Str.{bytes_eq}
use Rattle.ordered_lists.specs.Lists.{joins}
use Rattle.ordered_lists.specs.Members.{without}
use Rattle.event_model.specs.declared.events.Event.{Event}
use Rattle.event_model.specs.declared.operators.Op.{Op}
use Rattle.event_model.specs.declared.operators.Op.TheVariants.{Seq}
use Rattle.event_model.specs.declared.atoms.NameArity.{NameArity}
use Rattle.interval_ops.specs.Operators.{pair}
use Rattle.ev_bind.specs.Bindings.{join}
use Rattle.ev_bind.specs.Rows.{row_cmp}
use Rattle.ev_bind.specs.declared.rows.Row.{Row}
use Rattle.rule_ast.specs.Trees.{PlainPattern, Atom, Both, Either, Where, Exact, Within, Not, PlainRule}
use Rattle.term_eval.specs.Values.{holds}
use Rattle.pattern_meaning.specs.PatternRows.{rows_of, spanned, matched, name_of, events_of, head_row}

-- ---- the forms of patterns, over the rows of their parts

-- the row of two rows that agree and meet the operator's condition
abbrev pub joined : Op → Row → Row → Option Row
joined op x y = spanned (pair op x.span y.span) (join x.binding y.binding)

abbrev pub joined_rows : Op → List Row → List Row → List Row
joined_rows op xs ys = rows_of (joins (joined op) xs ys)

-- how many ticks a row takes
abbrev pub ticks : Row → ℕ
ticks r = r.span.end - r.span.start

abbrev pub is_long : ℕ → Row → Bool
is_long q r = ticks r == q

abbrev pub is_short : ℕ → Row → Bool
is_short q r = nat_le (ticks r) q

-- the rows of `before SEQ after` that are not rows of `(before SEQ inner) SEQ after`
abbrev pub remaining : (before inner after : List Row) → List Row
remaining before inner after =
    rows_of (without row_cmp (joined_rows Seq before after) (joined_rows Seq (joined_rows Seq before inner) after))

-- the rows of a pattern, where `named n` are the rows of the name n
abbrev pub rows : (NameArity → List Row) → PlainPattern → List Row
rows named (Atom a) = rows_of (flat_map (matched a) (named (name_of a)))
rows named (Both op left right) = joined_rows op (rows named left) (rows named right)
rows named (Either left right) = rows_of (rows named left ++ rows named right)
rows named (Where of c) = rows_of (filter (λ r. holds c r.binding) (rows named of))
rows named (Exact of q) = rows_of (filter (is_long q) (rows named of))
rows named (Within of q) = rows_of (filter (is_short q) (rows named of))
rows named (Not inner before after) = remaining (rows named before) (rows named inner) (rows named after)

-- ---- the rows of a name: its events, each on its span, and the head instances of the rows of its rules' bodies

abbrev pub has_head : NameArity → PlainRule → Bool
has_head n r = bytes_eq n.name r.head.name && (n.arity == length r.head.args)

abbrev pub head_rows : (NameArity → List Row) → PlainRule → List Row
head_rows named r = rows_of (map (head_row r.head) (rows named r.body))

-- by rules to a depth: at depth 0 a name has its events alone
abbrev pub named_rows : List PlainRule → List Event → ℕ → NameArity → List Row
named_rows rules events zero n = rows_of (events_of events n)
named_rows rules events (suc k) n =
    rows_of (rows_of (events_of events n) ++ flat_map (head_rows (named_rows rules events k)) (filter (has_head n) rules))

-- by all rules: no name of rules without a cycle is deeper than their number
abbrev pub name_rows : List PlainRule → List Event → NameArity → List Row
name_rows rules events n = named_rows rules events (length rules) n
