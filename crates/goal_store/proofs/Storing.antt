-- From the parts of a store to the store.
use Rattle.std.proofs.Common.{ℕ, zero, suc, ◌≡◌, ◌+◌, List, length, Option, Some, None, Result, Ok, Err, refl, ap, sym, ◌∙◌}
use Rattle.std.specs.Result.{OnOk, OnErr}
use Rattle.std.proofs.lemmas.Result.{on_ok_weaker}
use Rattle.ev_bind.specs.Rows.{row_cmp, row_writes, exact_rows}
use Rattle.ev_bind.specs.declared.rows.Row.{Row}
use Rattle.row_table.specs.Pairs.{get}
use Rattle.row_table.specs.Steps.{step_value}
use Rattle.row_table.specs.Tables.{hashed}
use Rattle.rule_ast.specs.declared.plans.Index.{Index}
use Rattle.std.proofs.Common.{nat_lt, true}
use Rattle.goal_store.specs.Fits.{IsPlaced}
use Rattle.goal_store.specs.Goals.{mark_at, row_at, goals_of, sum_below, Marks, SameMarks, SameRows, KeptRows, Settled}
use Rattle.goal_store.specs.Good.{OneMark, SameValues, SettledRows, count_below}
use Rattle.goal_store.specs.Steps.{SameSteps}
use Rattle.goal_store.specs.Values.{value_in, value_under, value_kept}
use Rattle.goal_store.specs.declared.kept.GoalStore.{GoalStore}
use Rattle.goal_store.specs.declared.marks.Mark.{Mark}
use Rattle.goal_store.specs.declared.steps.StepPlaces.{StepPlaces}

-- the indexes stay where they are
pub placed_kept : (indexes : List Index) (spots : List ℕ) (old new : List StepPlaces) → IsPlaced indexes spots old → SameSteps old new
    → length new ≡ length old → IsPlaced indexes spots new
placed_kept indexes spots old new was same len = record {
  fits = was.fits;
  number = was.number;
  placed = λ i x k a b c. same x.of k ∙ was.placed i x k a b (sym (ap (nat_lt x.of) len) ∙ c);
}

module _ (old new : GoalStore) where
  pub marks_of : (step : ℕ) (row : Row) (m : Option Mark) → OneMark old.goals.held.rows new.goals.held.rows step row m → Marks old new step row m
  unfolding mark_at
  marks_of step row m one = record { this = one.this; others = one.others }

  pub marks_result : {A E : Type 0} (r : Result A E) (step : ℕ) (row : Row) (m : Option Mark)
      → OnOk r (OneMark old.goals.held.rows new.goals.held.rows step row m) → OnOk r (Marks old new step row m)
  marks_result r step row m one = on_ok_weaker r (marks_of step row m) one

  pub same_marks : SameRows old new → SameValues old.goals.held.rows new.goals.held.rows → SameMarks old new
  unfolding mark_at
  same_marks rows values = value_kept exact_rows (hashed row_writes) old.goals.held.rows new.goals.held.rows old.good.held.table new.good.held.table
      values (λ n r e. rows n ∙ e)

  -- records without steps came
  pub more_marks : KeptRows old new → SameValues old.goals.held.rows new.goals.held.rows → SameMarks old new
  unfolding mark_at
  more_marks rows values = value_kept exact_rows (hashed row_writes) old.goals.held.rows new.goals.held.rows old.good.held.table new.good.held.table
      values rows

  -- records without steps went
  pub fewer_marks : KeptRows new old → SameValues old.goals.held.rows new.goals.held.rows → SameMarks old new
  unfolding mark_at
  fewer_marks rows values s r = sym (value_kept exact_rows (hashed row_writes) new.goals.held.rows old.goals.held.rows new.good.held.table
      old.good.held.table (λ n s. sym (values n s)) rows s r)

  pub settled_marks : SettledRows old.goals.held.rows new.goals.held.rows → Settled old new
  unfolding mark_at
  settled_marks h = h

-- under its number a row has the marks that steps have at it
pub marks_under : (g : GoalStore) (n : ℕ) (l : List (ℕ × Mark)) → ((s : ℕ) → get l s ≡ step_value g.goals.held.rows n s)
    → (r : Row) → row_at g n ≡ Some r → (s : ℕ) → get l s ≡ mark_at g s r
unfolding mark_at
marks_under g n l values r e s =
    values s ∙ sym (value_under exact_rows (hashed row_writes) g.goals.held.rows g.good.held.table n s r e)

-- the number of goals
pub count_is : (g : GoalStore) (n : ℕ) → count_below (λ m. true) g.goals.held.rows n ≡ sum_below (λ s. length (goals_of g s)) n
unfolding goals_of
count_is g zero = refl
count_is g (suc n) = ap (λ k. k + length (goals_of g n)) (count_is g n)

-- no mark is no value
pub unmarked : (g : GoalStore) (s : ℕ) (r : Row) → mark_at g s r ≡ None → value_in row_cmp g.goals.held.rows s r ≡ None
unfolding mark_at
unmarked g s r e = e

pub same_marks_result : {A E : Type 0} (r : Result A E) (old new : GoalStore) → OnErr r (SameRows old new)
    → OnErr r (SameValues old.goals.held.rows new.goals.held.rows) → OnErr r (SameMarks old new)
same_marks_result (Ok x) old new rows values = values
same_marks_result (Err x) old new rows values = same_marks old new rows values
