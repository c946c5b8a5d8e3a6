-- The rows of the steps of a plan, and how many supports each row has.
use Rattle.std.specs.Prelude.{ℕ, zero, suc, cond, Option, Some, None, List, [], ◌∷◌, ◌++◌, map, get_or}
use Rattle.std.specs.List.{filter, flat_map}
use Rattle.std.specs.Ordering.{is_eq}
use Rattle.ordered_lists.specs.Lists.{joins, total}
use Rattle.ordered_lists.specs.Canon.{canon}
use Rattle.ordered_lists.specs.Members.{without}
use Rattle.event_model.specs.declared.events.Detection.{Detection}
use Rattle.event_model.specs.declared.events.Event.{Event}
use Rattle.event_model.specs.EventOrder.{detection_cmp}
use Rattle.event_model.specs.declared.operators.Op.TheVariants.{Seq}
use Rattle.ev_bind.specs.Rows.{row_cmp}
use Rattle.ev_bind.specs.declared.rows.Row.{Row}
use Rattle.rule_ast.specs.PlainPlans.{PlainStep, Named, Leaf, Join, Either, Where, Exact, Within, Minus, Head, PlainPlan}
use Rattle.term_eval.specs.Values.{holds}
use Rattle.pattern_meaning.specs.PatternRows.{rows_of, matched, events_of, head_row}
use Rattle.pattern_meaning.specs.RuleRows.{joined, joined_rows, is_long, is_short}
use Rattle.pattern_meaning.specs.Standing.{detection_of}

-- the step of a number, where there is one
abbrev pub step_at : List PlainStep → ℕ → Option PlainStep
step_at [] i = None
step_at (s ∷ ss) zero = Some s
step_at (s ∷ ss) (suc i) = step_at ss i

-- the supports of a step's rows, where `at i` are the rows of step i: each row stands as often as it has supports
abbrev pub supports : List Event → (ℕ → List Row) → PlainStep → List Row
supports events at (Named n heads) = rows_of (events_of events n) ++ flat_map at heads
supports events at (Leaf of p) = flat_map (matched p) (at of)
supports events at (Join op left right) = joins (joined op) (at left) (at right)
supports events at (Either left right) = at left ++ at right
supports events at (Where of c) = filter (λ r. holds c r.binding) (at of)
supports events at (Exact of q) = filter (is_long q) (at of)
supports events at (Within of q) = filter (is_short q) (at of)
supports events at (Minus joined before inner after) =
    without row_cmp (at joined) (joined_rows Seq (joined_rows Seq (at before) (at inner)) (at after))
supports events at (Head of head) = map (head_row head) (at of)

-- ---- rows

-- the rows of step i by a table, which has the rows of each step in order; none past its end
abbrev pub entry : List (List Row) → ℕ → List Row
entry t i = get_or t i []

-- the rows of each of these steps, behind the rows t of the steps before
abbrev pub table : List Event → List PlainStep → List (List Row) → List (List Row)
table events [] t = t
table events (s ∷ ss) t = table events ss (t ++ rows_of (supports events (entry t) s) ∷ [])

-- the rows of the step of a number, each once
abbrev pub step_rows : List PlainStep → ℕ → List Event → List Row
step_rows steps i events = entry (table events steps []) i

-- ---- counts

-- the supports of the rows of a step of these steps
abbrev pub step_supports : List PlainStep → PlainStep → List Event → List Row
step_supports steps s events = supports events (λ i. step_rows steps i events) s

-- how often a row stands in a list
abbrev pub times : Row → List Row → ℕ
times r xs = total (λ x. cond (is_eq (row_cmp r x)) 1 0) xs

-- how many supports a row of a step has
abbrev pub count : List PlainStep → PlainStep → Row → List Event → ℕ
count steps s r events = times r (step_supports steps s events)

-- ---- detections

-- those of a step of a name, from its rows; no other step has any
abbrev pub detections_of : Option PlainStep → List Row → List Detection
detections_of (Some (Named n heads)) rows = map (detection_of n) rows
detections_of (Some (Leaf of p)) rows = []
detections_of (Some (Join op left right)) rows = []
detections_of (Some (Either left right)) rows = []
detections_of (Some (Where of c)) rows = []
detections_of (Some (Exact of q)) rows = []
detections_of (Some (Within of q)) rows = []
detections_of (Some (Minus joined before inner after)) rows = []
detections_of (Some (Head of head)) rows = []
detections_of None rows = []

abbrev pub given_out : List PlainStep → List Event → ℕ → List Detection
given_out steps events i = detections_of (step_at steps i) (step_rows steps i events)

-- what the shown steps of a plan give out, in order, each once
abbrev pub shown_detections : PlainPlan → List Event → List Detection
shown_detections plan events = canon detection_cmp (flat_map (given_out plan.steps events) plan.shown)
