-- What a list of changes of events does to every step of a plan: the rows and counts before and after, what each step gives, and what
-- all this has to meet.
use Rattle.std.specs.Prelude.{ℕ, ◌≡◌, ◌+◌, ◌<◌, ◌≤◌, ◌^◌, Bool, if◌then◌else◌, Option, Some, None, List, [], ◌++◌, map, length}
use Rattle.std.specs.List.{flat_map}
use Rattle.event_model.specs.Events.{span_of}
use Rattle.event_model.specs.declared.atoms.NameArity.{NameArity}
use Rattle.event_model.specs.declared.atoms.PatAtom.{PatAtom}
use Rattle.event_model.specs.declared.events.Event.{Event}
use Rattle.event_model.specs.declared.operators.Op.{Op}
use Rattle.event_changes.specs.declared.changes.Sign.{Sign}
use Rattle.event_changes.specs.declared.changes.Sign.TheVariants as sign
use Rattle.event_changes.specs.declared.events.EventChange.{EventChange}
use Rattle.event_changes.specs.declared.events.EventChange.TheVariants.{Came, Went}
use Rattle.ev_bind.specs.Matching.{match_of_args}
use Rattle.ev_bind.specs.declared.rows.Row.{Row}
use Rattle.rule_ast.specs.PlainPlans.{PlainStep, Named, Leaf, Join, Either, Where, Exact, Within, Minus, Head}
use Rattle.term_eval.specs.Values.{holds}
use Rattle.pattern_meaning.specs.PatternRows.{spanned, found, args_of, is_of, head_row}
use Rattle.pattern_meaning.specs.RuleRows.{is_long, is_short}
use Rattle.step_meaning.specs.Operands.{IsLower}
use Rattle.step_meaning.specs.StepRows.{step_at}
use Rattle.row_changes.specs.Changes.{SignedRow, deltas, fresh, dying, IsHeld}
use Rattle.row_changes.specs.Visits.{Visit, signed, tally}
use Rattle.change_meaning.specs.Moved.{minus_rows}
use Rattle.change_meaning.specs.Keys.{join_key, slots_at}
use Rattle.change_meaning.specs.Caps.{PlainCaps, fitting, kept_rows, kept_count}
use Rattle.change_meaning.specs.JoinVisits.{JoinView, join_visits}
use Rattle.change_meaning.specs.MinusVisits.{MinusView, minus_visits, turned}

-- the rows of each step before and after, and how many supports each row has
pub record Course : Type 0 where
  pub old : ℕ → List Row
  pub new : ℕ → List Row
  pub old_count : ℕ → Row → ℕ
  pub new_count : ℕ → Row → ℕ

-- that of the kept rows of a plan, from the events E to the events F
abbrev pub course_of : List PlainStep → PlainCaps → ℕ → (E F : List Event) → Course
course_of steps caps b E F = record {
  old = kept_rows steps caps b E;
  new = kept_rows steps caps b F;
  old_count = kept_count steps caps b E;
  new_count = kept_count steps caps b F;
}

-- the changed rows of a step, in order
abbrev pub changed_at : Course → ℕ → List SignedRow
changed_at c i = deltas (c.old i) (c.new i)

-- ---- what each step gives

-- the row of an atom from a row of its name, and a row that passes a test
abbrev pub leaf_row : PatAtom → Row → Option Row
leaf_row p r = spanned (Some r.span) (match_of_args p.args (args_of r))

abbrev pub passing : (Row → Bool) → Row → Option Row
passing test r = if test r then Some r else None

-- what a changed row of the one operand gives: what the step makes of it, where that fits, with the same sign
abbrev pub row_gives : Option ℕ → (Row → Option Row) → SignedRow → Visit
row_gives cap make d = signed d.sign (fitting cap (make d.row))

-- what a changed event gives to a name
abbrev pub event_row : NameArity → Event → Option Row
event_row n e = if is_of n e.atom then Some (found e.atom.args (span_of e)) else None

abbrev pub event_gives : Option ℕ → NameArity → EventChange → Visit
event_gives cap n (Came e) = signed sign.Plus (fitting cap (event_row n e))
event_gives cap n (Went e) = signed sign.Minus (fitting cap (event_row n e))

-- the rows of a Minus before and after
abbrev pub minus_old : Course → (joined before inner after : ℕ) → List Row
minus_old c j f i l = minus_rows (c.old j) (c.old f) (c.old i) (c.old l)

abbrev pub minus_new : Course → (joined before inner after : ℕ) → List Row
minus_new c j f i l = minus_rows (c.new j) (c.new f) (c.new i) (c.new l)

-- these rows with a sign, where they fit
abbrev pub given_rows : Option ℕ → Sign → List Row → List Visit
given_rows cap s rows = map (λ r. signed s (fitting cap (Some r))) rows

abbrev pub join_view : Option ℕ → (ℕ → List ℕ) → Course → Op → (left right : ℕ) → JoinView
join_view cap slots c op l r = record { op = op; cap = cap; key = join_key slots l r; lefts = c.old l; rights = c.new r }

abbrev pub minus_view : Option ℕ → (ℕ → List ℕ) → Course → (joined before inner after : ℕ) → MinusView
minus_view cap slots c j f i l = record {
  cap = cap;
  joined = c.new j;
  before = c.new f;
  inner = c.new i;
  after = c.new l;
  before_key = slots f;
  inner_key = slots i;
  after_key = slots l;
}

-- the visits of a step, in their order: those of a join and of a Minus count, and no other step has any
abbrev pub visits : Option ℕ → (ℕ → List ℕ) → PlainStep → Course → List Visit
visits cap slots (Named n heads) c = []
visits cap slots (Leaf of p) c = []
visits cap slots (Join op l r) c = join_visits (join_view cap slots c op l r) (changed_at c l) (changed_at c r)
visits cap slots (Either l r) c = []
visits cap slots (Where of t) c = []
visits cap slots (Exact of q) c = []
visits cap slots (Within of q) c = []
visits cap slots (Minus j f i l) c =
    minus_visits (minus_view cap slots c j f i l) (changed_at c j) (changed_at c i) (changed_at c f) (changed_at c l)
visits cap slots (Head of head) c = []

-- The supports that a step gets and loses, where its rows have this cap. A join gives what its visits give. A Minus gives the rows
-- that it has only after, and those that it had only before.
abbrev pub given : Option ℕ → (ℕ → List ℕ) → PlainStep → Course → List EventChange → List Visit
given cap slots (Named n heads) c es =
    map (event_gives cap n) es ++ flat_map (λ h. map (row_gives cap Some) (changed_at c h)) heads
given cap slots (Leaf of p) c es = map (row_gives cap (leaf_row p)) (changed_at c of)
given cap slots (Join op l r) c es = visits cap slots (Join op l r) c
given cap slots (Either l r) c es = map (row_gives cap Some) (changed_at c l) ++ map (row_gives cap Some) (changed_at c r)
given cap slots (Where of t) c es = map (row_gives cap (passing (λ r. holds t r.binding))) (changed_at c of)
given cap slots (Exact of q) c es = map (row_gives cap (passing (is_long q))) (changed_at c of)
given cap slots (Within of q) c es = map (row_gives cap (passing (is_short q))) (changed_at c of)
given cap slots (Minus j f i l) c es =
    given_rows cap sign.Plus (fresh (minus_old c j f i l) (minus_new c j f i l))
    ++ given_rows cap sign.Minus (dying (minus_old c j f i l) (minus_new c j f i l))
given cap slots (Head of head) c es = map (row_gives cap (λ r. Some (head_row head r))) (changed_at c of)

-- ---- what holds of a course

-- the steps below this one have so few rows, before and after, that each can have a number of its own in 64 bits
abbrev pub AreFew : Course → ℕ → Type 0
AreFew c i = (j : ℕ) → j < i → (length (c.old j) + length (fresh (c.old j) (c.new j)) < 2 ^ 64) × (length (c.new j) < 2 ^ 64)

-- the heads of a name
abbrev pub heads_of : PlainStep → List ℕ
heads_of (Named n heads) = heads
heads_of (Leaf of p) = []
heads_of (Join op l r) = []
heads_of (Either l r) = []
heads_of (Where of t) = []
heads_of (Exact of q) = []
heads_of (Within of q) = []
heads_of (Minus j f i l) = []
heads_of (Head of head) = []

-- the tests of a Minus leave, for each row, what it gives of it; no other step has tests
abbrev pub IsSettled : Option ℕ → (ℕ → List ℕ) → PlainStep → Course → (Row → ℕ) → List EventChange → Type 0
IsSettled cap slots (Named n heads) c count es = Unit {0}
IsSettled cap slots (Leaf of p) c count es = Unit {0}
IsSettled cap slots (Join op l r) c count es = Unit {0}
IsSettled cap slots (Either l r) c count es = Unit {0}
IsSettled cap slots (Where of t) c count es = Unit {0}
IsSettled cap slots (Exact of q) c count es = Unit {0}
IsSettled cap slots (Within of q) c count es = Unit {0}
IsSettled cap slots (Minus j f i l) c count es = (s : Sign) (r : Row)
    → turned s (tally sign.Plus r (visits cap slots (Minus j f i l) c)) (tally sign.Minus r (visits cap slots (Minus j f i l) c)) (count r)
    ≡ tally s r (given cap slots (Minus j f i l) c es)
IsSettled cap slots (Head of head) c count es = Unit {0}

-- What an evaluator that works by changes stands on: operands come first; what a step gives makes its counts after from those before;
-- the tests of a Minus leave what it gives; additions don't pass 128 bits; each list of rows is in order, and has just the rows with a
-- count; and past the last step nothing changes.
pub record IsCourse (steps : List PlainStep) (caps : PlainCaps) (es : List EventChange) (c : Course) : Type 0 where
  pub lower : (i : ℕ) (s : PlainStep) → step_at steps i ≡ Some s → IsLower i s
  pub counts : (i : ℕ) (s : PlainStep) → step_at steps i ≡ Some s → (r : Row)
      → c.new_count i r + tally sign.Minus r (given (caps.cap i) (slots_at steps) s c es)
      ≡ c.old_count i r + tally sign.Plus r (given (caps.cap i) (slots_at steps) s c es)
  pub settled : (i : ℕ) (s : PlainStep) → step_at steps i ≡ Some s
      → IsSettled (caps.cap i) (slots_at steps) s c (c.old_count i) es
  pub room : (i : ℕ) (s : PlainStep) → step_at steps i ≡ Some s → length es < 2 ^ 64 → length (heads_of s) < 2 ^ 64 → AreFew c i
      → (r : Row) → 0 < tally sign.Plus r (given (caps.cap i) (slots_at steps) s c es)
      → c.old_count i r + tally sign.Plus r (given (caps.cap i) (slots_at steps) s c es) < 2 ^ 128
  pub old_held : (i : ℕ) → IsHeld (c.old i) (c.old_count i)
  pub new_held : (i : ℕ) → IsHeld (c.new i) (c.new_count i)
  pub beyond : (i : ℕ) → length steps ≤ i → (c.new i ≡ c.old i) × ((r : Row) → c.new_count i r ≡ c.old_count i r)
