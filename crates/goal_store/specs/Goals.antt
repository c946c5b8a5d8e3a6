-- Stores of goals. A goal is a step with a row that it has, and a mark.
--     mark_at g s r         the mark of step s at the row r, none where it doesn't have it
--     seen g s w            the rows that step s is seen to have, in order
--     row_at g n            the row under a number
--     steps_of g, indexes_of g      the number of steps, and the indexes, which no call changes
--     rest g c              what a cursor stands before: a function of the marks, of the rows under numbers and of the cursor
use Rattle.std.specs.Prelude.{ℕ, zero, suc, ◌≡◌, ◌≢◌, ◌+◌, ◌&&◌, ◌||◌, not, refl, true, false, List, [], length, map, Option, Some, None, slice_get}
use Rattle.std.specs.List.{filter}
use Rattle.std.specs.Option.{option_and_then, option_map_or}
use Rattle.std.specs.Ordering.{is_eq, is_lt}
use Rattle.std.proofs.Common.{ap, sym, ◌∙◌, inl, inr}
use Rattle.ordered_lists.specs.Canon.{has, place, Rising, canon_one, has-place, has-filter, Rising-place, Rising-filter}
use Rattle.ev_bind.specs.Rows.{row_cmp, row_writes, exact_rows}
use Rattle.ev_bind.specs.declared.rows.Row.{Row}
use Rattle.row_changes.specs.Partners.{edge_cmp, listed}
use Rattle.row_table.specs.Steps.{row_under}
use Rattle.row_table.specs.Tables.{hashed}
use Rattle.rule_ast.specs.PlainPlans.{PlainIndex, plain_index}
use Rattle.goal_store.specs.Marks.{sees, seen_as, settled}
use Rattle.goal_store.specs.Values.{value_in, value_nowhere, rows_that, has_rows, rows_rise, tells, tied, untied}
use Rattle.goal_store.specs.declared.cursors.Cursor.{Cursor}
use Rattle.goal_store.specs.declared.kept.GoalStore.{GoalStore}
use Rattle.goal_store.specs.declared.marks.Mark.{Mark}
use Rattle.goal_store.specs.declared.marks.Mark.TheVariants.{Old, Fresh, Dying}
use Rattle.goal_store.specs.declared.marks.When.{When}
use Rattle.goal_store.specs.declared.marks.When.TheVariants.{Before, After}

unfoldable pub mark_at : GoalStore → ℕ → Row → Option Mark
mark_at g s r = value_in row_cmp g.goals.held.rows s r

unfoldable pub seen : GoalStore → ℕ → When → List Row
seen g s w = rows_that row_cmp (sees w) g.goals.held.rows s

-- the rows that a step has with whatever mark, in order
unfoldable pub goals_of : GoalStore → ℕ → List Row
goals_of g s = rows_that row_cmp (λ m. true) g.goals.held.rows s

abbrev pub row_at : GoalStore → ℕ → Option Row
row_at g n = row_under g.goals.held.rows n

abbrev pub steps_of : GoalStore → ℕ
steps_of g = length g.goals.held.steps.items

abbrev pub indexes_of : GoalStore → List PlainIndex
indexes_of g = map plain_index g.indexes.items

-- the sum over the first steps
abbrev pub sum_below : (ℕ → ℕ) → ℕ → ℕ
sum_below f zero = 0
sum_below f (suc n) = sum_below f n + f n

-- the number of goals
abbrev pub number_of : GoalStore → ℕ
number_of g = sum_below (λ s. length (goals_of g s)) (steps_of g)

-- of the rows of an index that agree with a row on the key: those that don't come before it, up to the end of a range
abbrev pub from_row : PlainIndex → ℕ → Row → List Row → List Row
from_row ix high r rows = filter (λ x. not (is_lt (edge_cmp ix.edge x r)))
    (listed ix.key (record { edge = ix.edge; low = 0; high = high }) r.binding rows)

unfoldable pub rest : GoalStore → Cursor → List Row
rest g c = option_map_or
    (λ r. option_map_or (λ ix. from_row ix c.high r (seen g ix.of c.when)) (slice_get (indexes_of g) c.index) [])
    (option_and_then (row_at g) c.number) []

-- ---- what calls do

abbrev pub SamePlan : GoalStore → GoalStore → Type 0
SamePlan old new = (steps_of new ≡ steps_of old) × (indexes_of new ≡ indexes_of old)

-- one mark is this, and all others stay
pub record Marks (old new : GoalStore) (step : ℕ) (row : Row) (m : Option Mark) : Type 0 where
  pub this : mark_at new step row ≡ m
  pub others : (s : ℕ) (r : Row) → (s ≡ step → r ≡ row → ⊥) → mark_at new s r ≡ mark_at old s r

-- all marks stay
abbrev pub SameMarks : GoalStore → GoalStore → Type 0
SameMarks old new = (s : ℕ) (r : Row) → mark_at new s r ≡ mark_at old s r

-- all rows stay under their numbers
abbrev pub SameRows : GoalStore → GoalStore → Type 0
SameRows old new = (n : ℕ) → row_at new n ≡ row_at old n

-- rows keep their numbers
abbrev pub KeptRows : GoalStore → GoalStore → Type 0
KeptRows old new = (n : ℕ) (r : Row) → row_at old n ≡ Some r → row_at new n ≡ Some r

-- all goals are old
abbrev pub AllOld : GoalStore → Type 0
AllOld g = (s : ℕ) (r : Row) → settled (mark_at g s r) ≡ mark_at g s r

-- fresh goals become old, and dying ones go
abbrev pub Settled : GoalStore → GoalStore → Type 0
Settled old new = (s : ℕ) (r : Row) → mark_at new s r ≡ settled (mark_at old s r)

-- ---- laws

passes_seen : (w : When) (o : Option Mark) → option_map_or (sees w) o false ≡ seen_as w o
passes_seen w None = refl
passes_seen w (Some m) = refl

-- what is seen
pub has_seen : (g : GoalStore) (s : ℕ) (w : When) (r : Row) → has row_cmp r (seen g s w) ≡ seen_as w (mark_at g s r)
unfolding seen mark_at
has_seen g s w r = has_rows exact_rows (hashed row_writes) g.goals.held.rows g.good.held.table (sees w) s r
    ∙ passes_seen w (value_in row_cmp g.goals.held.rows s r)

pub seen_rises : (g : GoalStore) (s : ℕ) (w : When) → Rising row_cmp (seen g s w)
unfolding seen
seen_rises g s w = rows_rise exact_rows (hashed row_writes) g.goals.held.rows (sees w) s

-- what is seen is fixed by the marks
pub seen_same : (a b : GoalStore) (s t : ℕ) (v w : When) → ((r : Row) → seen_as v (mark_at a s r) ≡ seen_as w (mark_at b t r))
    → seen a s v ≡ seen b t w
seen_same a b s t v w same = canon_one exact_rows (seen a s v) (seen b t w) (seen_rises a s v) (seen_rises b t w)
    (λ r. has_seen a s v r ∙ same r ∙ sym (has_seen b t w r))

-- a row that has no number is a row of no step
pub unnumbered : (g : GoalStore) (s : ℕ) (r : Row) → ((n : ℕ) → row_at g n ≢ Some r) → mark_at g s r ≡ None
unfolding mark_at
unnumbered g s r none = value_nowhere exact_rows (hashed row_writes) g.goals.held.rows s r none

module _ (old new : GoalStore) (step : ℕ) (row : Row) where
  pub seen_others : (m : Option Mark) → Marks old new step row m → (s : ℕ) → s ≢ step → (w : When) → seen new s w ≡ seen old s w
  seen_others m change s d w = seen_same new old s s w w (λ r. ap (seen_as w) (change.others s r (λ e f. d e)))

  -- where the view of the one mark stays
  seen_still : (m : Option Mark) → Marks old new step row m → (w : When) → seen_as w m ≡ seen_as w (mark_at old step row)
      → seen new step w ≡ seen old step w
  seen_still m change w same = seen_same new old step step w w (λ r. elim (tells exact_rows r row) [
    | inr d ↦ ap (seen_as w) (change.others step r (λ e f. d f))
    | inl e ↦ ap (λ z. seen_as w (mark_at new step z)) e ∙ ap (seen_as w) change.this ∙ same
        ∙ sym (ap (λ z. seen_as w (mark_at old step z)) e)
  ])

  module _ (m : Option Mark) (change : Marks old new step row m) (w : When) where
    -- where it comes into view
    seen_more : seen_as w m ≡ true → seen new step w ≡ place row_cmp row (seen old step w)
    seen_more shown = canon_one exact_rows (seen new step w) (place row_cmp row (seen old step w)) (seen_rises new step w)
        (Rising-place exact_rows row (seen old step w) (seen_rises old step w))
        (λ r. has_seen new step w r ∙ by r ∙ sym (has-place exact_rows r row (seen old step w)))
      where
        by : (r : Row) → seen_as w (mark_at new step r) ≡ (is_eq (row_cmp r row) || has row_cmp r (seen old step w))
        by r = elim (tells exact_rows r row) [
          | inr d ↦ ap (seen_as w) (change.others step r (λ e f. d f)) ∙ sym (has_seen old step w r)
              ∙ sym (ap (λ b. b || has row_cmp r (seen old step w)) (untied exact_rows r row d))
          | inl e ↦ ap (λ z. seen_as w (mark_at new step z)) e ∙ ap (seen_as w) change.this ∙ shown
              ∙ sym (ap (λ b. b || has row_cmp r (seen old step w)) (tied exact_rows r row e))
        ]

    -- where it goes out of view
    seen_less : seen_as w m ≡ false → seen new step w ≡ filter (λ x. not (is_eq (row_cmp row x))) (seen old step w)
    seen_less hidden = canon_one exact_rows (seen new step w) (filter (λ x. not (is_eq (row_cmp row x))) (seen old step w))
        (seen_rises new step w)
        (Rising-filter exact_rows (λ x. not (is_eq (row_cmp row x))) (seen old step w) (seen_rises old step w))
        (λ r. has_seen new step w r ∙ by r ∙ sym (has-filter exact_rows (λ x. not (is_eq (row_cmp row x))) r (seen old step w)))
      where
        by : (r : Row) → seen_as w (mark_at new step r) ≡ (not (is_eq (row_cmp row r)) && has row_cmp r (seen old step w))
        by r = elim (tells exact_rows row r) [
          | inr d ↦ ap (seen_as w) (change.others step r (λ e f. d (sym f))) ∙ sym (has_seen old step w r)
              ∙ sym (ap (λ b. not b && has row_cmp r (seen old step w)) (untied exact_rows row r d))
          | inl e ↦ ap (λ z. seen_as w (mark_at new step z)) (sym e) ∙ ap (seen_as w) change.this ∙ hidden
              ∙ sym (ap (λ b. not b && has row_cmp r (seen old step w)) (tied exact_rows row r e))
        ]

  -- after a row was added
  module _ (change : Marks old new step row (Some Fresh)) (absent : mark_at old step row ≡ None) where
    pub seen_added : seen new step After ≡ place row_cmp row (seen old step After)
    seen_added = seen_more (Some Fresh) change After refl

    pub unseen_added : seen new step Before ≡ seen old step Before
    unseen_added = seen_still (Some Fresh) change Before (sym (ap (seen_as Before) absent))

  -- after a row was dropped
  module _ (change : Marks old new step row (Some Dying)) (held : mark_at old step row ≡ Some Old) where
    pub seen_dropped : seen new step After ≡ filter (λ x. not (is_eq (row_cmp row x))) (seen old step After)
    seen_dropped = seen_less (Some Dying) change After refl

    pub still_dropped : seen new step Before ≡ seen old step Before
    still_dropped = seen_still (Some Dying) change Before (sym (ap (seen_as Before) held))

module _ (old new : GoalStore) where
  settled_seen : (w : When) (o : Option Mark) → seen_as w (settled o) ≡ seen_as After o
  settled_seen Before None = refl
  settled_seen Before (Some Old) = refl
  settled_seen Before (Some Fresh) = refl
  settled_seen Before (Some Dying) = refl
  settled_seen After None = refl
  settled_seen After (Some Old) = refl
  settled_seen After (Some Fresh) = refl
  settled_seen After (Some Dying) = refl

  -- once a change is over, all see what was seen after it
  pub seen_settled : Settled old new → (s : ℕ) (w : When) → seen new s w ≡ seen old s After
  seen_settled h s w = seen_same new old s s w After (λ r. ap (seen_as w) (h s r) ∙ settled_seen w (mark_at old s r))

  pub seen_all : SameMarks old new → (s : ℕ) (w : When) → seen new s w ≡ seen old s w
  seen_all h s w = seen_same new old s s w w (λ r. ap (seen_as w) (h s r))

  -- a cursor stands before the same rows where the rows under numbers and what is seen are the same
  pub rest_same : indexes_of new ≡ indexes_of old → SameRows old new → ((s : ℕ) (w : When) → seen new s w ≡ seen old s w)
      → (c : Cursor) → rest new c ≡ rest old c
  unfolding rest
  rest_same plan rows views c = at c.number
    where
      at : (o : Option ℕ) → option_map_or (λ r. option_map_or (λ ix. from_row ix c.high r (seen new ix.of c.when))
          (slice_get (indexes_of new) c.index) [])
          (option_and_then (row_at new) o) []
          ≡ option_map_or (λ r. option_map_or (λ ix. from_row ix c.high r (seen old ix.of c.when)) (slice_get (indexes_of old) c.index) [])
          (option_and_then (row_at old) o) []
      at None = refl
      at (Some n) = λ i. option_map_or
          (λ r. option_map_or (λ ix. from_row ix c.high r (views ix.of c.when i)) (slice_get (plan i) c.index) []) (rows n i) []

-- where all goals are old, each is seen from before and after
pub seen_old : (g : GoalStore) → AllOld g → (s : ℕ) (v w : When) → seen g s v ≡ seen g s w
seen_old g old s v w = seen_same g g s s v w (λ r. ap (seen_as v) (sym (old s r)) ∙ settled_seen g g v (mark_at g s r)
    ∙ sym (settled_seen g g w (mark_at g s r)) ∙ ap (seen_as w) (old s r))
