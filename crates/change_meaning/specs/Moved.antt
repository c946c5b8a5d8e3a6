-- What a list of changes of events adds to the supports of a step's rows, and takes from them.
--     b i, a i      the rows of step i before and after
use Rattle.std.specs.Prelude.{ℕ, ◌≤◌, List, [], ◌∷◌, ◌++◌, map}
use Rattle.std.specs.List.{filter, flat_map}
use Rattle.ordered_lists.specs.Lists.{joins, Each, Balanced}
use Rattle.ordered_lists.specs.Members.{without}
use Rattle.event_model.specs.Events.{span_of, time_of}
use Rattle.event_model.specs.declared.atoms.NameArity.{NameArity}
use Rattle.event_model.specs.declared.events.Event.{Event}
use Rattle.event_model.specs.declared.operators.Op.TheVariants.{Seq}
use Rattle.event_changes.specs.declared.changes.Sign.{Sign}
use Rattle.event_changes.specs.declared.changes.Sign.TheVariants as sign
use Rattle.event_changes.specs.declared.events.EventChange.{EventChange}
use Rattle.event_changes.specs.declared.events.EventChange.TheVariants.{Came, Went}
use Rattle.event_changes.specs.Events.{event_of}
use Rattle.interval_ops.specs.Operators.{IsSpan}
use Rattle.ev_bind.specs.Rows.{row_cmp}
use Rattle.ev_bind.specs.declared.rows.Row.{Row}
use Rattle.rule_ast.specs.PlainPlans.{PlainStep, Named, Leaf, Join, Either, Where, Exact, Within, Minus, Head}
use Rattle.term_eval.specs.Values.{holds}
use Rattle.pattern_meaning.specs.PatternRows.{rows_of, matched, events_of, head_row}
use Rattle.pattern_meaning.specs.RuleRows.{joined, joined_rows, is_long, is_short}
use Rattle.step_meaning.specs.PastRows.{IsSameBelow}
use Rattle.row_changes.specs.Changes.{fresh, dying}

-- ---- signs

-- the rows that come with a change, or those that go
abbrev pub moved_of : Sign → (before after : List Row) → List Row
moved_of sign.Plus = fresh
moved_of sign.Minus = dying

-- the events that come, and those that go
abbrev pub came_of : List EventChange → List Event
came_of [] = []
came_of (Came e ∷ es) = e ∷ came_of es
came_of (Went e ∷ es) = came_of es

abbrev pub went_of : List EventChange → List Event
went_of [] = []
went_of (Came e ∷ es) = went_of es
went_of (Went e ∷ es) = e ∷ went_of es

abbrev pub events_in : Sign → List EventChange → List Event
events_in sign.Plus = came_of
events_in sign.Minus = went_of

-- ---- steps

-- the rows of a Minus, from those of its operands
abbrev pub minus_rows : (joined before inner after : List Row) → List Row
minus_rows joined before inner after = without row_cmp joined (joined_rows Seq (joined_rows Seq before inner) after)

-- the supports that a step gets (Plus) or loses (Minus), where es are the events of that sign
abbrev pub moved : Sign → (es : List Event) → (b a : ℕ → List Row) → PlainStep → List Row
moved s es b a (Named n heads) = events_of es n ++ flat_map (λ h. moved_of s (b h) (a h)) heads
moved s es b a (Leaf of p) = flat_map (matched p) (moved_of s (b of) (a of))
moved s es b a (Join op l r) = joins (joined op) (moved_of s (b l) (a l)) (a r) ++ joins (joined op) (b l) (moved_of s (b r) (a r))
moved s es b a (Either l r) = moved_of s (b l) (a l) ++ moved_of s (b r) (a r)
moved s es b a (Where of c) = filter (λ r. holds c r.binding) (moved_of s (b of) (a of))
moved s es b a (Exact of q) = filter (is_long q) (moved_of s (b of) (a of))
moved s es b a (Within of q) = filter (is_short q) (moved_of s (b of) (a of))
moved s es b a (Minus j f i l) = moved_of s (minus_rows (b j) (b f) (b i) (b l)) (minus_rows (a j) (a f) (a i) (a l))
moved s es b a (Head of head) = map (head_row head) (moved_of s (b of) (a of))

-- ---- events

-- the events over F are those over E, with cs and without ws, for each name
abbrev pub EventsMove : (E F cs ws : List Event) → Type 0
EventsMove E F cs ws = (n : NameArity) → Balanced (rows_of (events_of E n)) (rows_of (events_of F n)) (events_of cs n) (events_of ws n)

-- each event is on a span, whose end is below the limit of times
abbrev pub AreSpans : List Event → Type 0
AreSpans events = Each (λ e. IsSpan (span_of e)) events

-- each changed event ends at the bound or later
abbrev pub AreLate : ℕ → List EventChange → Type 0
AreLate b es = Each (λ c. b ≤ time_of (event_of c)) es

-- How events change at a bound: each is on a span; the changes lead from E to F, and none of them ends before the bound, so that
-- below it nothing changes.
pub record IsMoved (b : ℕ) (E F : List Event) (es : List EventChange) : Type 0 where
  pub before_spans : AreSpans E
  pub after_spans : AreSpans F
  pub moves : EventsMove E F (came_of es) (went_of es)
  pub late : AreLate b es
  pub same_below : IsSameBelow b E F
