-- The visits of a Minus: each changed row has one of its own, and then one for each joined row that it can change.
use Rattle.std.specs.Prelude.{ℕ, Bool, true, false, ◌+◌, ◌==◌, ◌&&◌, nat_lt, nat_le, if◌then◌else◌, Option, Some, None, List, [], ◌∷◌, ◌++◌, map}
use Rattle.std.specs.List.{flat_map, list_any}
use Rattle.event_model.specs.declared.operators.Edge.TheVariants.{Start, End}
use Rattle.event_changes.specs.declared.changes.Sign.{Sign}
use Rattle.event_changes.specs.declared.changes.Sign.TheVariants.{Plus, Minus}
use Rattle.interval_ops.specs.Operators.{empty_range, range_at, range_from, range_before}
use Rattle.interval_ops.specs.declared.ranges.Range.{Range}
use Rattle.ev_bind.specs.declared.rows.Row.{Row}
use Rattle.row_changes.specs.Changes.{SignedRow}
use Rattle.row_changes.specs.Partners.{listed}
use Rattle.row_changes.specs.Visits.{Visit, signed}
use Rattle.change_meaning.specs.Caps.{fitting}

-- a Minus that works: the cap of its rows, the rows after of its operands, and the slots that those before, inside and after bind
pub record MinusView : Type 0 where
  pub cap : Option ℕ
  pub joined : List Row
  pub before : List Row
  pub inner : List Row
  pub after : List Row
  pub before_key : List ℕ
  pub inner_key : List ℕ
  pub after_key : List ℕ

-- ---- whether a chain gives a row

-- a row after that ends the chain behind y
abbrev pub ends_chain : MinusView → Row → Row → Bool
ends_chain v r y = list_any (λ z. nat_lt y.span.end z.span.start) (listed v.after_key (range_at End r.span.end) r.binding v.after)

-- a row inside that goes on behind x, and one after that ends the chain
abbrev pub goes_on : MinusView → Row → Row → Bool
goes_on v r x = list_any (ends_chain v r) (listed v.inner_key (range_from Start (x.span.end + 1)) r.binding v.inner)

-- whether a row before begins a chain that gives the row
abbrev pub blocks : MinusView → Row → Bool
blocks v r = list_any (goes_on v r) (listed v.before_key (range_at Start r.span.start) r.binding v.before)

-- ---- tests

-- what the test of a joined row gives, where it fits: Plus where the Minus has it, and Minus where it hasn't
abbrev pub verdict : MinusView → Row → Visit
verdict v r = signed (if blocks v r then Minus else Plus) (fitting v.cap (Some r))

-- a joined row that has gone isn't in the Minus
abbrev pub own_verdict : MinusView → Sign → Row → Visit
own_verdict v Plus r = verdict v r
own_verdict v Minus r = signed Minus (fitting v.cap (Some r))

-- a changed row; the joined rows that it can change have its values at the key, and lie in the range
pub record TestTask : Type 0 where
  pub is_joined : Bool
  pub key : List ℕ
  pub range : Range
  pub sign : Sign
  pub row : Row

-- of the joined rows, which changes itself alone
abbrev pub joined_task : SignedRow → TestTask
joined_task d = record { is_joined = true; key = []; range = empty_range Start; sign = d.sign; row = d.row }

-- of those inside: it changes joined rows that start before it
abbrev pub inner_task : MinusView → SignedRow → TestTask
inner_task v d = record {
  is_joined = false;
  key = v.inner_key;
  range = range_before Start 0 d.row.span.start;
  sign = d.sign;
  row = d.row;
}

-- of those before: it changes joined rows that start with it
abbrev pub before_task : MinusView → SignedRow → TestTask
before_task v d = record {
  is_joined = false;
  key = v.before_key;
  range = range_at Start d.row.span.start;
  sign = d.sign;
  row = d.row;
}

-- of those after: it changes joined rows that end with it
abbrev pub after_task : MinusView → SignedRow → TestTask
after_task v d = record {
  is_joined = false;
  key = v.after_key;
  range = range_at End d.row.span.end;
  sign = d.sign;
  row = d.row;
}

abbrev pub test_tasks : MinusView → (joined inner before after : List SignedRow) → List TestTask
test_tasks v cj ci cb ca = map joined_task cj ++ (map (inner_task v) ci ++ (map (before_task v) cb ++ map (after_task v) ca))

-- a joined row that ends before the changed row is left as it is
abbrev pub test : MinusView → (changed joined : Row) → Visit
test v q r = if nat_le q.span.end r.span.end then verdict v r else None

-- the visit of a changed row itself: a joined row is tested
abbrev pub own_test : MinusView → TestTask → Visit
own_test v t = if t.is_joined then own_verdict v t.sign t.row else None

-- the joined rows that are looked at
abbrev pub tested_rows : MinusView → TestTask → List Row
tested_rows v t = listed t.key t.range t.row.binding v.joined

abbrev pub tests_at : MinusView → TestTask → List Visit
tests_at v t = own_test v t ∷ map (test v t.row) (tested_rows v t)

-- all visits, where these are the changed rows of the operands
abbrev pub minus_visits : MinusView → (joined inner before after : List SignedRow) → List Visit
minus_visits v cj ci cb ca = flat_map (tests_at v) (test_tasks v cj ci cb ca)

-- ---- at the end

-- a row for which tests told Plus so often, and Minus so often, comes where it had no count, and goes where it had one
abbrev pub turned : Sign → (has hasnt count : ℕ) → ℕ
turned Plus has hasnt count = if nat_lt 0 has && (count == 0) then 1 else 0
turned Minus has hasnt count = if nat_lt 0 hasnt && nat_lt 0 count then 1 else 0
