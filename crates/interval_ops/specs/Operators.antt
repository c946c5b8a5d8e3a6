-- The operators between two spans: which spans pair, on which span, and where the partners of a span lie.
use Rattle.std.specs.Prelude.{ℕ, ◌+◌, ◌-◌, ◌<◌, ◌≤◌, min, max, Bool, true, false, cond, ◌&&◌, ◌==◌, nat_lt, nat_le, Option, Some, None}
use Rattle.event_model.specs.Spans.{PlainSpan}
use Rattle.event_model.specs.declared.events.TheConstants.{TIME_LIMIT}
use Rattle.event_model.specs.declared.operators.Op.{Op}
use Rattle.event_model.specs.declared.operators.Op.TheVariants.{Seq, And, Par, Equals, Meets, During, Starts, Finishes}
use Rattle.event_model.specs.declared.operators.Edge.{Edge}
use Rattle.event_model.specs.declared.operators.Edge.TheVariants.{Start, End}
use Rattle.interval_ops.specs.declared.ranges.Side.{Side}
use Rattle.interval_ops.specs.declared.ranges.Side.TheVariants.{Left, Right}
use Rattle.interval_ops.specs.declared.ranges.Range.{Range}

-- from a start to an end that is no earlier, which is below the limit of times
abbrev pub IsSpan : PlainSpan → Type 0
IsSpan s = (s.start ≤ s.end) × (s.end < TIME_LIMIT)

-- ---- the table of the operators

-- a left and a right span meet the operator's condition
abbrev pub pairs : Op → PlainSpan → PlainSpan → Bool
pairs Seq x y = nat_lt x.end y.start
pairs And x y = true
pairs Par x y = nat_lt (max x.start y.start) (min x.end y.end)
pairs Equals x y = (x.start == y.start) && (x.end == y.end)
pairs Meets x y = x.end == y.start
pairs During x y = nat_lt y.start x.start && (nat_lt x.start x.end && nat_lt x.end y.end)
pairs Starts x y = (x.start == y.start) && nat_lt x.end y.end
pairs Finishes x y = (x.end == y.end) && nat_lt y.start x.start

-- from the earlier start to the later end
abbrev pub hull : PlainSpan → PlainSpan → PlainSpan
hull x y = record { start = min x.start y.start; end = max x.end y.end }

-- the span of a left and a right span that meet the operator's condition
abbrev pub spanned : Op → PlainSpan → PlainSpan → PlainSpan
spanned Seq x y = record { start = x.start; end = y.end }
spanned And x y = hull x y
spanned Par x y = hull x y
spanned Equals x y = record { start = x.start; end = x.end }
spanned Meets x y = record { start = x.start; end = y.end }
spanned During x y = record { start = y.start; end = y.end }
spanned Starts x y = record { start = y.start; end = y.end }
spanned Finishes x y = record { start = y.start; end = y.end }

-- the span of a left and a right span, or none where they don't meet the operator's condition
abbrev pub pair : Op → PlainSpan → PlainSpan → Option PlainSpan
pair op x y = cond (pairs op x y) (Some (spanned op x y)) None

-- ---- the table of the ranges

-- the greatest tick
abbrev pub last_tick : ℕ
last_tick = TIME_LIMIT - 1

-- no tick
abbrev pub empty_range : Edge → Range
empty_range edge = record { edge = edge; low = 1; high = 0 }

-- the tick t alone
abbrev pub range_at : Edge → ℕ → Range
range_at edge t = record { edge = edge; low = t; high = t }

-- the ticks from t on
abbrev pub range_from : Edge → ℕ → Range
range_from edge t = record { edge = edge; low = t; high = last_tick }

-- the ticks from a first one on that are before the tick t
abbrev pub range_before : Edge → ℕ → ℕ → Range
range_before edge first t = cond (t == 0) (empty_range edge) (record { edge = edge; low = first; high = t - 1 })

-- where the partners of a span lie, which stands on the side itself
abbrev pub partner_range : Op → Side → PlainSpan → Range
partner_range Seq Left x = range_from Start (x.end + 1)
partner_range Seq Right y = range_before End 0 y.start
partner_range And side s = range_from Start 0
partner_range Par side s = range_before Start 0 s.end
partner_range Equals side s = range_at Start s.start
partner_range Meets Left x = range_at Start x.end
partner_range Meets Right y = range_at End y.start
partner_range During Left x = range_before Start 0 x.start
partner_range During Right y = range_before Start (y.start + 1) y.end
partner_range Starts side s = range_at Start s.start
partner_range Finishes side s = range_at End s.end

-- the tick at the edge of the span
abbrev pub edge_of : Edge → PlainSpan → ℕ
edge_of Start s = s.start
edge_of End s = s.end

-- the range's edge of the span lies in the range
abbrev pub in_range : Range → PlainSpan → Bool
in_range r s = nat_le r.low (edge_of r.edge s) && nat_le (edge_of r.edge s) r.high

-- whether all spans in the range of the operator are partners
abbrev pub decided_by_range : Op → Bool
decided_by_range Seq = true
decided_by_range And = true
decided_by_range Meets = true
decided_by_range Par = false
decided_by_range Equals = false
decided_by_range During = false
decided_by_range Starts = false
decided_by_range Finishes = false

-- ---- windows

-- the span lies between the two ticks
abbrev pub inside : ℕ → ℕ → PlainSpan → Bool
inside first last s = nat_le first s.start && nat_le s.end last
