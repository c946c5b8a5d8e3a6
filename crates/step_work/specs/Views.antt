-- What is seen of the steps of a plan while changes of events go through them, and what the step under way makes of it.
--     seen_visits     the visits that it has to make
--     seen_gives      all that is noted of it: what its visits give, or what the changed rows of its operands give
--     settled         what is applied of that: a Minus only tests rows, and its tests are settled against the counts
use Rattle.std.specs.Prelude.{ℕ, Bool, true, false, Option, Some, List, [], ◌++◌, map}
use Rattle.std.specs.List.{flat_map}
use Rattle.event_model.specs.declared.operators.Op.{Op}
use Rattle.event_changes.specs.declared.changes.Sign.{Sign}
use Rattle.event_changes.specs.declared.changes.Sign.TheVariants as sign
use Rattle.event_changes.specs.declared.events.EventChange.{EventChange}
use Rattle.ev_bind.specs.declared.rows.Row.{Row}
use Rattle.rule_ast.specs.PlainPlans.{PlainStep, Named, Leaf, Join, Either, Where, Exact, Within, Minus, Head}
use Rattle.term_eval.specs.Values.{holds}
use Rattle.pattern_meaning.specs.PatternRows.{head_row}
use Rattle.pattern_meaning.specs.RuleRows.{is_long, is_short}
use Rattle.row_changes.specs.Changes.{SignedRow}
use Rattle.row_changes.specs.Visits.{Visit}
use Rattle.change_meaning.specs.Keys.{join_key}
use Rattle.change_meaning.specs.JoinVisits.{JoinView, join_visits}
use Rattle.change_meaning.specs.MinusVisits.{MinusView, minus_visits, turned}
use Rattle.change_meaning.specs.Courses.{leaf_row, passing, row_gives, event_gives}

-- the rows of each step as they are seen from before the changes and from after them, the supports of each row, and the changed rows
-- of the steps that are finished
pub record View : Type 0 where
  pub before : ℕ → List Row
  pub after : ℕ → List Row
  pub count : ℕ → Row → ℕ
  pub changed : ℕ → List SignedRow

abbrev pub seen_join : Option ℕ → (ℕ → List ℕ) → View → Op → (left right : ℕ) → JoinView
seen_join cap slots v op l r = record { op = op; cap = cap; key = join_key slots l r; lefts = v.before l; rights = v.after r }

abbrev pub seen_minus : Option ℕ → (ℕ → List ℕ) → View → (joined before inner after : ℕ) → MinusView
seen_minus cap slots v j f i l = record {
  cap = cap;
  joined = v.after j;
  before = v.after f;
  inner = v.after i;
  after = v.after l;
  before_key = slots f;
  inner_key = slots i;
  after_key = slots l;
}

-- a join and a Minus make visits
abbrev pub has_visits : PlainStep → Bool
has_visits (Named n heads) = false
has_visits (Leaf of p) = false
has_visits (Join op l r) = true
has_visits (Either l r) = false
has_visits (Where of t) = false
has_visits (Exact of q) = false
has_visits (Within of q) = false
has_visits (Minus j f i l) = true
has_visits (Head of head) = false

abbrev pub seen_visits : Option ℕ → (ℕ → List ℕ) → PlainStep → View → List Visit
seen_visits cap slots (Named n heads) v = []
seen_visits cap slots (Leaf of p) v = []
seen_visits cap slots (Join op l r) v = join_visits (seen_join cap slots v op l r) (v.changed l) (v.changed r)
seen_visits cap slots (Either l r) v = []
seen_visits cap slots (Where of t) v = []
seen_visits cap slots (Exact of q) v = []
seen_visits cap slots (Within of q) v = []
seen_visits cap slots (Minus j f i l) v =
    minus_visits (seen_minus cap slots v j f i l) (v.changed j) (v.changed i) (v.changed f) (v.changed l)
seen_visits cap slots (Head of head) v = []

abbrev pub seen_gives : Option ℕ → (ℕ → List ℕ) → PlainStep → View → List EventChange → List Visit
seen_gives cap slots (Named n heads) v es =
    map (event_gives cap n) es ++ flat_map (λ h. map (row_gives cap Some) (v.changed h)) heads
seen_gives cap slots (Leaf of p) v es = map (row_gives cap (leaf_row p)) (v.changed of)
seen_gives cap slots (Join op l r) v es = seen_visits cap slots (Join op l r) v
seen_gives cap slots (Either l r) v es = map (row_gives cap Some) (v.changed l) ++ map (row_gives cap Some) (v.changed r)
seen_gives cap slots (Where of t) v es = map (row_gives cap (passing (λ r. holds t r.binding))) (v.changed of)
seen_gives cap slots (Exact of q) v es = map (row_gives cap (passing (is_long q))) (v.changed of)
seen_gives cap slots (Within of q) v es = map (row_gives cap (passing (is_short q))) (v.changed of)
seen_gives cap slots (Minus j f i l) v es = seen_visits cap slots (Minus j f i l) v
seen_gives cap slots (Head of head) v es = map (row_gives cap (λ r. Some (head_row head r))) (v.changed of)

abbrev pub is_minus : PlainStep → Bool
is_minus (Named n heads) = false
is_minus (Leaf of p) = false
is_minus (Join op l r) = false
is_minus (Either l r) = false
is_minus (Where of t) = false
is_minus (Exact of q) = false
is_minus (Within of q) = false
is_minus (Minus j f i l) = true
is_minus (Head of head) = false

abbrev pub settled : PlainStep → (count : Row → ℕ) → (noted : Sign → Row → ℕ) → Sign → Row → ℕ
settled (Named n heads) count noted = noted
settled (Leaf of p) count noted = noted
settled (Join op l r) count noted = noted
settled (Either l r) count noted = noted
settled (Where of t) count noted = noted
settled (Exact of q) count noted = noted
settled (Within of q) count noted = noted
settled (Minus j f i l) count noted = λ s r. turned s (noted sign.Plus r) (noted sign.Minus r) (count r)
settled (Head of head) count noted = noted
