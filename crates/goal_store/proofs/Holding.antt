-- What is held after one goal comes, goes, or gets another mark.
use Rattle.std.proofs.Common.{ℕ, ◌≡◌, ◌≢◌, ◌<◌, ◌+◌, ◌==◌, ◌&&◌, ◌||◌, not, Bool, true, false, List, length, Option, Some, None, refl, ap, sym, ◌∙◌, subst, inl, inr, arith, nat_lt}
use Rattle.std.specs.List.{slice_get}
use Rattle.std.specs.Option.{is_some, option_map_or, option_and_then, option_map}
use Rattle.std.specs.Ordering.{is_eq}
use Rattle.std.proofs.Math.Bool.{and-false, or-false, and-true}
use Rattle.std.proofs.lemmas.Bool.{true≢false, false_from_ne_true, eqb-true, eq-eqb, ltb-true, lt-ltb}
use Rattle.std.proofs.lemmas.Bool.Decides.{eqb_tells}
use Rattle.ev_bind.specs.Rows.{row_cmp, row_writes, exact_rows}
use Rattle.ev_bind.specs.declared.rows.Row.{Row}
use Rattle.row_table.specs.Pairs.{get}
use Rattle.row_table.specs.Tables.{hashed}
use Rattle.row_table.specs.Steps.{row_under, step_value, same_record, IsRowTable}
use Rattle.row_table.specs.declared.rows.RowTable.{RowTable}
use Rattle.goal_store.specs.Good.{held_by, count_below, OneValue, OneMark, SameValues, FewerRows, IsHeld}
use Rattle.goal_store.specs.Indexed.{Rows, IsIndex, is_this, also, less}
use Rattle.goal_store.specs.Steps.{Lists, index_in}
use Rattle.goal_store.specs.Values.{value_in, value_under, value_kept, value_others, no_record}
use Rattle.goal_store.specs.declared.held.Held.{Held}
use Rattle.goal_store.specs.declared.indexes.RowIndex.{RowIndex}
use Rattle.goal_store.specs.declared.marks.Mark.{Mark}
use Rattle.goal_store.specs.declared.steps.StepPlaces.{StepPlaces}
use Rattle.goal_store.proofs.Counting.{bit, passes, count_one, count_same, count_have}
use Rattle.goal_store.proofs.Stepping.{is_index_same, less_also}

none_some : {X : Type 0} (x : X) → None ≡ Some x → ⊥
none_some x e = cc

abbrev pub Table : RowTable Row Mark → Type 0
Table t = IsRowTable (hashed row_writes) row_cmp t

-- ---- marks

module _ (a b : RowTable Row Mark) (x : Table a) (y : Table b) (n step : ℕ) (row : Row) (at : row_under a n ≡ Some row) (o : Option Mark) where
  pub mark_set : ((m : ℕ) → row_under b m ≡ row_under a m) → step_value b n step ≡ o
      → ((s : ℕ) → s ≢ step → step_value b n s ≡ step_value a n s) → ((m : ℕ) → m ≢ n → same_record a b m) → OneMark a b step row o
  mark_set keys here steps others = record {
    this = value_under exact_rows (hashed row_writes) b y n step row (keys n ∙ at) ∙ here;
    others = value_others exact_rows (hashed row_writes) a b x y n step row at keys steps others;
  }

  -- and where records without steps go afterwards
  pub mark_cleared : (c : RowTable Row Mark) → Table c → OneMark a b step row o → SameValues b c → FewerRows b c → OneMark a c step row o
  mark_cleared c z one values fewer = record {
    this = same step row ∙ one.this;
    others = λ s r d. same s r ∙ one.others s r d;
  }
    where
      same : (s : ℕ) (r : Row) → value_in row_cmp c s r ≡ value_in row_cmp b s r
      same s r = sym (value_kept exact_rows (hashed row_writes) c b z y (λ n s. sym (values n s)) fewer s r)

-- ---- which rows are held

-- whether a step has the row under the number, by its parts
abbrev pub part : Option Row → Option Mark → Row → Bool
part k v r = option_map_or (λ k. is_eq (row_cmp r k)) k false && is_some v

module _ (a b : RowTable Row Mark) (fewer : FewerRows a b) where
  pub same_held : (s n : ℕ) (r : Row) → step_value b n s ≡ step_value a n s → held_by b s r n ≡ held_by a s r n
  same_held s n r e = by (row_under b n) refl
    where
      by : (k : Option Row) → row_under b n ≡ k → held_by b s r n ≡ held_by a s r n
      by (Some k) h = λ i. part ((h ∙ sym (fewer n k h)) i) (e i) r
      by None h = let gone = no_record exact_rows (hashed row_writes) b n s h in
          ap (λ v. part (row_under b n) v r) gone ∙ and-false _ ∙ sym (ap (λ v. part (row_under a n) v r) (sym e ∙ gone) ∙ and-false _)

  module _ (number step : ℕ) (row : Row) (at : row_under a number ≡ Some row) (o : Option Mark) (one : OneValue a b number step o) where
    this_other : (r : Row) (n : ℕ) → n ≢ number → is_this row number r n ≡ false
    this_other r n d = ap (λ c. is_eq (row_cmp r row) && c) (false_from_ne_true (n == number) (λ e. d (eqb-true n number e))) ∙ and-false _

    this_number : (r : Row) → is_this row number r number ≡ is_eq (row_cmp r row)
    this_number r = ap (λ c. is_eq (row_cmp r row) && c) (eq-eqb number number refl) ∙ and-true _

    other_number : (r : Row) (n : ℕ) → n ≢ number → held_by b step r n ≡ held_by a step r n
    other_number r n d = same_held step n r (one.others n step (λ e f. d e))

    pub held_also : row_under b number ≡ Some row → is_some o ≡ true → step_value a number step ≡ None → (r : Row) (n : ℕ)
        → also row number (held_by a step) r n ≡ held_by b step r n
    held_also still there absent r n = elim (eqb_tells n number) [
      | inr d ↦ ap (λ c. c || held_by a step r n) (this_other r n d.1) ∙ sym (other_number r n d.1)
      | inl e ↦ subst (λ z. also row number (held_by a step) r z ≡ held_by b step r z) (sym e.1)
          ((λ i. this_number r i || (ap (λ v. part (row_under a number) v r) absent ∙ and-false _) i) ∙ or-false _
          ∙ sym ((λ i. part (still i) (one.here i) r) ∙ ap (λ c. is_eq (row_cmp r row) && c) there ∙ and-true _))
    ]

    cut_same : (x v : Bool) → (not x && (x && v)) ≡ false
    cut_same true v = refl
    cut_same false v = refl

    pub held_less : o ≡ None → (r : Row) (n : ℕ) → less row number (held_by a step) r n ≡ held_by b step r n
    held_less none r n = elim (eqb_tells n number) [
      | inr d ↦ ap (λ c. not c && held_by a step r n) (this_other r n d.1) ∙ sym (other_number r n d.1)
      | inl e ↦ subst (λ z. less row number (held_by a step) r z ≡ held_by b step r z) (sym e.1)
          ((λ i. not (this_number r i) && part (at i) (step_value a number step) r) ∙ cut_same (is_eq (row_cmp r row)) (is_some (step_value a number step))
          ∙ sym (ap (λ v. part (row_under b number) v r) (one.here ∙ none) ∙ and-false _))
    ]

-- ---- the whole

module _ (old new : Held) (was : IsHeld old) (table : Table new.rows) (fewer : FewerRows old.rows new.rows) (number step : ℕ) (row : Row)
    (at : row_under old.rows number ≡ Some row) (o : Option Mark) (one : OneValue old.rows new.rows number step o)
    (mark : OneMark old.rows new.rows step row o) (others : (s : ℕ) → s ≢ step → slice_get new.steps.items s ≡ slice_get old.steps.items s)
    (len : length new.steps.items ≡ length old.steps.items) (within : step < length old.steps.items) where
  other_step : (s : ℕ) → s ≢ step → (k : ℕ) → Lists new.steps.items s k (held_by new.rows s)
  other_step s d k ix e = is_index_same ix (held_by old.rows s) (held_by new.rows s)
      (λ r n. sym (same_held old.rows new.rows fewer s n r (one.others n s (λ f g. d g))))
      (was.listed s k ix (sym (ap (λ p. option_and_then (λ p. slice_get p.indexes.items k) p) (others s d)) ∙ e))

  within_after : (n s : ℕ) → is_some (step_value new.rows n s) ≡ true → nat_lt s (length new.steps.items) ≡ true
  within_after n s e = ap (nat_lt s) len ∙ elim (eqb_tells s step) [
    | inl f ↦ subst (λ z. nat_lt z (length old.steps.items) ≡ true) (sym f.1) (lt-ltb step (length old.steps.items) within)
    | inr d ↦ was.within n s (sym (ap is_some (one.others n s (λ f g. d.1 g))) ∙ e)
  ]

  counts : (a b : Bool) → passes (λ m. true) old.rows step row ≡ a → passes (λ m. true) new.rows step row ≡ b
      → count_below (λ m. true) new.rows (length new.steps.items) + bit a ≡ count_below (λ m. true) old.rows (length old.steps.items) + bit b
  counts a b e f = (λ i. count_below (λ m. true) new.rows (len i) + bit (sym e i))
      ∙ count_one (λ m. true) old.rows new.rows was.table table step row mark.others (length old.steps.items) within
      ∙ (λ i. count_below (λ m. true) old.rows (length old.steps.items) + bit (f i))

  passed : (t : RowTable Row Mark) (v : Option Mark) → value_in row_cmp t step row ≡ v → passes (λ m. true) t step row ≡ is_some v
  passed t v e = ap (λ v. option_map_or (λ m. true) v false) e ∙ by v
    where
      by : (v : Option Mark) → option_map_or (λ m. true) v false ≡ is_some v
      by None = refl
      by (Some m) = refl

  listed_all : (held : Rows) → ((r : Row) (n : ℕ) → held r n ≡ held_by new.rows step r n) → ((k : ℕ) → Lists new.steps.items step k held)
      → (s k : ℕ) → Lists new.steps.items s k (held_by new.rows s)
  listed_all held same here s k = elim (eqb_tells s step) [
    | inr d ↦ other_step s d.1 k
    | inl e ↦ subst (λ z. Lists new.steps.items z k (held_by new.rows z)) (sym e.1)
        (λ ix f. is_index_same ix held (held_by new.rows step) same (here k ix f))
  ]

  old_value : value_in row_cmp old.rows step row ≡ step_value old.rows number step
  old_value = value_under exact_rows (hashed row_writes) old.rows was.table number step row at

  pub is_held_added : row_under new.rows number ≡ Some row → is_some o ≡ true → step_value old.rows number step ≡ None
      → ((k : ℕ) (held : Rows) → Lists old.steps.items step k held → Lists new.steps.items step k (also row number held))
      → new.number ≡ old.number + 1 → IsHeld new
  is_held_added still there absent grown more = record {
    table = table;
    listed = listed_all (also row number (held_by old.rows step)) (held_also old.rows new.rows fewer number step row at o one still there absent)
        (λ k. grown k (held_by old.rows step) (was.listed step k));
    within = within_after;
    counted = let count = counts false true (passed old.rows None (old_value ∙ absent)) (passed new.rows o mark.this ∙ there) in
        let before = was.counted in omega (arith, count, before, more);
  }

  pub is_held_taken : o ≡ None → is_some (step_value old.rows number step) ≡ true
      → ((k : ℕ) (held : Rows) → Lists old.steps.items step k held → Lists new.steps.items step k (less row number held))
      → new.number + 1 ≡ old.number → IsHeld new
  is_held_taken none there shrunk fewer_now = record {
    table = table;
    listed = listed_all (less row number (held_by old.rows step)) (held_less old.rows new.rows fewer number step row at o one none)
        (λ k. shrunk k (held_by old.rows step) (was.listed step k));
    within = within_after;
    counted = let count = counts true false (passed old.rows _ old_value ∙ there) (passed new.rows None (mark.this ∙ none)) in
        let before = was.counted in omega (arith, count, before, fewer_now);
  }

  -- there was a goal to take
  pub one_there : o ≡ None → is_some (step_value old.rows number step) ≡ true → 0 < old.number
  one_there none there = let count = counts true false (passed old.rows _ old_value ∙ there) (passed new.rows None (mark.this ∙ none)) in
      let before = was.counted in omega (arith, count, before)

-- where nothing came of it
module _ (old new : Held) (was : IsHeld old) (table : Table new.rows) (rows : (n : ℕ) → row_under new.rows n ≡ row_under old.rows n)
    (values : SameValues old.rows new.rows) (step : ℕ) (others : (s : ℕ) → s ≢ step → slice_get new.steps.items s ≡ slice_get old.steps.items s)
    (len : length new.steps.items ≡ length old.steps.items) (number : new.number ≡ old.number) where
  pub is_held_back : ((k : ℕ) → Lists new.steps.items step k (held_by old.rows step)) → IsHeld new
  is_held_back here = record {
    table = table;
    listed = listed;
    within = λ n s e. ap (nat_lt s) len ∙ was.within n s (sym (ap is_some (values n s)) ∙ e);
    counted = number ∙ was.counted ∙ sym (count_same (λ m. true) old.rows new.rows was.table table same (length old.steps.items))
        ∙ sym (ap (count_below (λ m. true) new.rows) len);
  }
    where
      same : (s : ℕ) (r : Row) → value_in row_cmp new.rows s r ≡ value_in row_cmp old.rows s r
      same s r = value_kept exact_rows (hashed row_writes) old.rows new.rows was.table table values (λ n r e. rows n ∙ e) s r

      alike : (s n : ℕ) (r : Row) → held_by old.rows s r n ≡ held_by new.rows s r n
      alike s n r = sym (same_held old.rows new.rows (λ n r e. sym (rows n) ∙ e) s n r (values n s))

      listed : (s k : ℕ) → Lists new.steps.items s k (held_by new.rows s)
      listed s k ix e = is_index_same ix (held_by old.rows s) (held_by new.rows s) (λ r n. alike s n r) (elim (eqb_tells s step) [
        | inr d ↦ was.listed s k ix (sym (ap (λ p. option_and_then (λ p. slice_get p.indexes.items k) p) (others s d.1)) ∙ e)
        | inl f ↦ subst (λ z. (ix : RowIndex) → index_in new.steps.items z k ≡ Some ix → IsIndex ix (held_by old.rows z)) (sym f.1)
            (here k) ix e
      ])

-- where a goal gets another mark
pub is_held_set : (old new : Held) → IsHeld old → Table new.rows → ((n : ℕ) → row_under new.rows n ≡ row_under old.rows n) → (number step : ℕ) (m : Mark)
    → is_some (step_value old.rows number step) ≡ true → OneValue old.rows new.rows number step (Some m) → new.steps ≡ old.steps → new.number ≡ old.number
    → IsHeld new
is_held_set old new was table rows number step m there one steps number' = record {
  table = table;
  listed = λ s k ix e. is_index_same ix (held_by old.rows s) (held_by new.rows s) (λ r n. sym (alike s n r))
      (was.listed s k ix (sym (ap (λ p. index_in p.items s k) steps) ∙ e));
  within = λ n s e. ap (λ p. nat_lt s (length p.items)) steps ∙ was.within n s (sym (have n s) ∙ e);
  counted = number' ∙ was.counted ∙ sym (ap (λ p. count_below (λ m. true) new.rows (length p.items)) steps ∙ count_held (length old.steps.items));
}
  where
    have : (n s : ℕ) → is_some (step_value new.rows n s) ≡ is_some (step_value old.rows n s)
    have n s = elim (eqb_tells n number) [
      | inr d ↦ ap is_some (one.others n s (λ f g. d.1 f))
      | inl e ↦ elim (eqb_tells s step) [
        | inr d ↦ ap is_some (one.others n s (λ f g. d.1 g))
        | inl f ↦ (λ i. is_some (step_value new.rows (e.1 i) (f.1 i))) ∙ ap is_some one.here ∙ sym there
            ∙ sym (λ i. is_some (step_value old.rows (e.1 i) (f.1 i)))
      ]
    ]

    alike : (s n : ℕ) (r : Row) → held_by new.rows s r n ≡ held_by old.rows s r n
    alike s n r = λ i. option_map_or (λ k. is_eq (row_cmp r k)) (rows n i) false && have n s i

    count_held : (n : ℕ) → count_below (λ m. true) new.rows n ≡ count_below (λ m. true) old.rows n
    count_held n = count_have old.rows new.rows was.table table rows have n

-- one mark under a number, from what a write says of its record and of the others
pub one_set : (a b : RowTable Row Mark) (n step : ℕ) (o : Option Mark) → step_value b n step ≡ o
    → ((s : ℕ) → s ≢ step → step_value b n s ≡ step_value a n s) → ((m : ℕ) → m ≢ n → same_record a b m) → OneValue a b n step o
one_set a b n step o here steps others = record { here = here; others = there }
  where
    there : (m s : ℕ) → (m ≡ n → s ≡ step → ⊥) → step_value b m s ≡ step_value a m s
    there m s d = elim (eqb_tells m n) [
      | inr c ↦ ap (λ x. option_and_then (λ l. get l s) (option_map (λ e. e.value) x)) (others m c.1)
      | inl e ↦ elim (eqb_tells s step) [
        | inr c ↦ subst (λ z. step_value b z s ≡ step_value a z s) (sym e.1) (steps s c.1)
        | inl f ↦ absurd (d e.1 f.1)
      ]
    ]

-- a step has something only at a number with a row
pub row_there : (t : RowTable Row Mark) (n s : ℕ) → is_some (step_value t n s) ≡ true → (row : Row) × (row_under t n ≡ Some row)
row_there t n s there = by (row_under t n) refl
  where
    by : (k : Option Row) → row_under t n ≡ k → (row : Row) × (row_under t n ≡ Some row)
    by (Some row) e = (row, e)
    by None e = absurd (true≢false (sym there ∙ ap is_some (no_record exact_rows (hashed row_writes) t n s e)))

-- where a goal goes, whatever its row
module _ (old new : Held) (was : IsHeld old) (number step : ℕ) (there : is_some (step_value old.rows number step) ≡ true)
    (table : Table new.rows) (fewer : FewerRows old.rows new.rows) (one : OneValue old.rows new.rows number step None)
    (mark : (row : Row) → row_under old.rows number ≡ Some row → OneMark old.rows new.rows step row None)
    (others : (s : ℕ) → s ≢ step → slice_get new.steps.items s ≡ slice_get old.steps.items s)
    (len : length new.steps.items ≡ length old.steps.items) where
  inside : step < length old.steps.items
  inside = ltb-true step (length old.steps.items) (was.within number step there)

  pub goal_there : 0 < old.number
  goal_there = let r = row_there old.rows number step there in
      one_there old new was table fewer number step r.0 r.1 None one (mark r.0 r.1) others len inside refl there

  pub is_held_less : ((row : Row) → row_under old.rows number ≡ Some row → (k : ℕ) (held : Rows) → Lists old.steps.items step k held
      → Lists new.steps.items step k (less row number held)) → new.number + 1 ≡ old.number → IsHeld new
  is_held_less shrunk number' = let r = row_there old.rows number step there in
      is_held_taken old new was table fewer number step r.0 r.1 None one (mark r.0 r.1) others len inside refl there (shrunk r.0 r.1) number'

pub absent_held : (t : RowTable Row Mark) (number step : ℕ) (row : Row) → step_value t number step ≡ None → held_by t step row number ≡ false
absent_held t number step row e = ap (λ v. part (row_under t number) v row) e ∙ and-false _

-- lists out of which a row was taken that had just come
pub taken_again : (ys zs : List StepPlaces) (step number : ℕ) (row : Row) (held : Rows) → held row number ≡ false → (k : ℕ)
    → Lists ys step k (also row number held) → (Lists ys step k (also row number held) → Lists zs step k (less row number (also row number held)))
    → Lists zs step k held
taken_again ys zs step number row held absent k both back ix e =
    is_index_same ix (less row number (also row number held)) held (less_also row number held absent) (back both ix e)

pub some_row : (o : Option Row) → is_some o ≡ true → (row : Row) × (o ≡ Some row)
some_row (Some row) h = (row, refl)
some_row None h = absurd (true≢false (sym h))

-- where records without steps come or go
pub is_held_rows : (old new : Held) → IsHeld old → Table new.rows → SameValues old.rows new.rows
    → ((s n : ℕ) (r : Row) → held_by old.rows s r n ≡ held_by new.rows s r n)
    → ((s : ℕ) (r : Row) → value_in row_cmp new.rows s r ≡ value_in row_cmp old.rows s r) → new.steps ≡ old.steps → new.number ≡ old.number → IsHeld new
is_held_rows old new was table values alike same steps number = record {
  table = table;
  listed = λ s k ix e. is_index_same ix (held_by old.rows s) (held_by new.rows s) (λ r n. alike s n r)
      (was.listed s k ix (sym (ap (λ p. index_in p.items s k) steps) ∙ e));
  within = λ n s e. ap (λ p. nat_lt s (length p.items)) steps ∙ was.within n s (sym (ap is_some (values n s)) ∙ e);
  counted = number ∙ was.counted ∙ sym (ap (λ p. count_below (λ m. true) new.rows (length p.items)) steps
      ∙ count_same (λ m. true) old.rows new.rows was.table table same (length old.steps.items));
}

module _ (old new : Held) (was : IsHeld old) (table : Table new.rows) (values : SameValues old.rows new.rows) (steps : new.steps ≡ old.steps)
    (number : new.number ≡ old.number) where
  pub is_held_more : FewerRows new.rows old.rows → IsHeld new
  is_held_more rows = is_held_rows old new was table values
      (λ s n r. same_held new.rows old.rows rows s n r (sym (values n s)))
      (value_kept exact_rows (hashed row_writes) old.rows new.rows was.table table values rows) steps number

  pub is_held_fewer : FewerRows old.rows new.rows → IsHeld new
  is_held_fewer rows = is_held_rows old new was table values
      (λ s n r. sym (same_held old.rows new.rows rows s n r (values n s)))
      (λ s r. sym (value_kept exact_rows (hashed row_writes) new.rows old.rows table was.table (λ n s. sym (values n s)) rows s r)) steps number
