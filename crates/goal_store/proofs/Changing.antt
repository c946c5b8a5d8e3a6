-- The goals that are to change, after one call.
use Rattle.std.proofs.Common.{ℕ, ◌≡◌, ◌≢◌, ◌<◌, ◌≤◌, ◌+◌, ◌==◌, ◌&&◌, ◌||◌, ◌++◌, ◌∷◌, [], Bool, true, false, List, length, Option, Some, None, Result, Ok, Err, refl, ap, sym, ◌∙◌, inl, inr, arith, vec_len, vec_capacity}
use Rattle.std.specs.Option.{is_some, option_map_or, option_map, option_and_then}
use Rattle.std.specs.Result.{OnOk, OnErr}
use Rattle.row_table.specs.Pairs.{get}
use Rattle.std.proofs.Math.Bool.{or-false}
use Rattle.std.proofs.lemmas.Bool.{true≢false, eqb-true, eq-eqb, ltb-true, false_from_ne_true, and_parts}
use Rattle.std.proofs.lemmas.Bool.Decides.{eqb_tells}
use Rattle.std.proofs.lemmas.List.Folds.{list_any-append}
use Rattle.ev_bind.specs.Rows.{row_cmp, row_writes, exact_rows}
use Rattle.ev_bind.specs.declared.rows.Row.{Row}
use Rattle.row_table.specs.Tables.{hashed}
use Rattle.row_table.specs.Steps.{row_under, step_value, same_record, IsRowTable}
use Rattle.row_table.specs.declared.rows.RowTable.{RowTable}
use Rattle.goal_store.specs.Good.{OneValue, OneMark, SameValues, FewerRows, SettlesAt, IsHeld, IsGood, unsettled, is_noted, count_below}
use Rattle.goal_store.specs.Marks.{is_old, settled, was_old}
use Rattle.goal_store.specs.Values.{value_in, value_under, value_nowhere, value_kept, find_row, tells, no_record}
use Rattle.goal_store.specs.declared.goals.Changed.{Changed}
use Rattle.goal_store.specs.declared.goals.Goals.{Goals}
use Rattle.goal_store.specs.declared.held.Held.{Held}
use Rattle.goal_store.specs.declared.marks.Mark.{Mark}
use Rattle.goal_store.specs.declared.marks.Mark.TheVariants.{Old, Fresh, Dying}
use Rattle.goal_store.proofs.Counting.{bit, passes, count_one, count_same}
use Rattle.goal_store.proofs.Holding.{row_there, is_held_more, is_held_fewer}

or_left : (a b : Bool) → a ≡ true → (a || b) ≡ true
or_left a b e = ap (λ c. c || b) e

or_right : (a b : Bool) → b ≡ true → (a || b) ≡ true
or_right true b e = refl
or_right false b e = e

abbrev is_at : ℕ → ℕ → Changed → Bool
is_at n s c = (c.number == n) && (c.step == s)

noted_end : (n s : ℕ) (cs : List Changed) (c : Changed) → is_noted n s (cs ++ c ∷ []) ≡ (is_noted n s cs || is_at n s c)
noted_end n s cs c = list_any-append (is_at n s) cs (c ∷ []) ∙ ap (λ b. is_noted n s cs || b) (or-false (is_at n s c))

module _ (a b : RowTable Row Mark) (number step : ℕ) (o : Option Mark) (one : OneValue a b number step o) (cs ds : List Changed)
    (c : Changed) (here : c ≡ record { number = number; step = step }) (items : ds ≡ cs ++ c ∷ [])
    (noted : (n s : ℕ) → unsettled (step_value a n s) ≡ true → is_noted n s cs ≡ true) where
  -- one goal more is noted
  pub noted_more : (n s : ℕ) → unsettled (step_value b n s) ≡ true → is_noted n s ds ≡ true
  noted_more n s e = ap (is_noted n s) items ∙ noted_end n s cs c ∙ elim (eqb_tells n number) [
    | inr d ↦ or_left _ _ (noted n s (sym (ap unsettled (one.others n s (λ f g. d.1 f))) ∙ e))
    | inl f ↦ elim (eqb_tells s step) [
      | inr d ↦ or_left _ _ (noted n s (sym (ap unsettled (one.others n s (λ f g. d.1 g))) ∙ e))
      | inl g ↦ or_right (is_noted n s cs) _
          ((λ i. ((here i).number == n) && ((here i).step == s)) ∙ (λ i. eq-eqb number n (sym f.1) i && eq-eqb step s (sym g.1) i))
    ]
  ]

-- ---- how many are old

module _ (old new : Held) (was : IsHeld old) (is : IsHeld new) (number step : ℕ) (row : Row) (at : row_under old.rows number ≡ Some row)
    (o : Option Mark) (mark : OneMark old.rows new.rows step row o) (len : length new.steps.items ≡ length old.steps.items)
    (within : step < length old.steps.items) where
  passed : (t : RowTable Row Mark) (v : Option Mark) → value_in row_cmp t step row ≡ v → passes is_old t step row ≡ was_old v
  passed t v e = ap (λ v. option_map_or is_old v false) e ∙ by v
    where
      by : (v : Option Mark) → option_map_or is_old v false ≡ was_old v
      by None = refl
      by (Some m) = refl

  pub olds_one : count_below is_old new.rows (length new.steps.items) + bit (was_old (step_value old.rows number step))
      ≡ count_below is_old old.rows (length old.steps.items) + bit (was_old o)
  olds_one =
      (λ i. count_below is_old new.rows (len i) + bit (sym was_passed i))
      ∙ count_one is_old old.rows new.rows was.table is.table step row mark.others (length old.steps.items) within
      ∙ (λ i. count_below is_old old.rows (length old.steps.items) + bit (passed new.rows o mark.this i))
    where
      was_passed : passes is_old old.rows step row ≡ was_old (step_value old.rows number step)
      was_passed = passed old.rows (step_value old.rows number step)
          (value_under exact_rows (hashed row_writes) old.rows was.table number step row at)

-- ---- the whole

module _ (old new : Goals) (was : IsGood old) (held : IsHeld new.held) (number step : ℕ) (o : Option Mark)
    (one : OneValue old.held.rows new.held.rows number step o) (c : Changed) (here : c ≡ record { number = number; step = step })
    (items : new.changed.items ≡ old.changed.items ++ c ∷ []) (grown : vec_len new.changed ≡ vec_len old.changed + 1)
    (row : Row) (at : row_under old.held.rows number ≡ Some row) (mark : OneMark old.held.rows new.held.rows step row o)
    (len : length new.held.steps.items ≡ length old.held.steps.items) (within : step < length old.held.steps.items) where
  pub good_added : step_value old.held.rows number step ≡ None → o ≡ Some Fresh → new.held.number ≡ old.held.number + 1
      → new.held.number ≤ vec_capacity new.changed → IsGood new
  good_added absent fresh more fits = record {
    held = held;
    noted = noted_more old.held.rows new.held.rows number step o one old.changed.items new.changed.items c here items was.noted;
    room = let count = olds_one old.held new.held was.held held number step row at o mark len within in
        let count' = (λ i. count_below is_old new.held.rows (length new.held.steps.items) + bit (was_old (sym absent i))) ∙ count
        ∙ (λ i. count_below is_old old.held.rows (length old.held.steps.items) + bit (was_old (fresh i))) in
        let before = was.room in omega (arith, count', before, more, grown);
    fits = fits;
  }

  pub good_dropped : step_value old.held.rows number step ≡ Some Old → o ≡ Some Dying → new.held.number ≡ old.held.number
      → vec_capacity old.changed ≤ vec_capacity new.changed → IsGood new
  good_dropped there dying same room = record {
    held = held;
    noted = noted_more old.held.rows new.held.rows number step o one old.changed.items new.changed.items c here items was.noted;
    room = let count = olds_one old.held new.held was.held held number step row at o mark len within in
        let count' = (λ i. count_below is_old new.held.rows (length new.held.steps.items) + bit (was_old (sym there i))) ∙ count
        ∙ (λ i. count_below is_old old.held.rows (length old.held.steps.items) + bit (was_old (dying i))) in
        let before = was.room in omega (arith, count', before, same, grown);
    fits = let before = was.fits in omega (arith, before, same, room);
  }

-- an old goal leaves room in the list
pub room_left : (g : Goals) → IsGood g → (number step : ℕ) → step_value g.held.rows number step ≡ Some Old → (new : Held) → IsHeld new
    → (row : Row) → row_under g.held.rows number ≡ Some row → OneMark g.held.rows new.rows step row (Some Dying)
    → length new.steps.items ≡ length g.held.steps.items → vec_len g.changed < vec_capacity g.changed
room_left g good number step there new is row at mark len =
    let count = olds_one g.held new good.held is number step row at (Some Dying) mark len
    (ltb-true step (length g.held.steps.items) (good.held.within number step (ap is_some there))) in
    let count' = (λ i. count_below is_old new.rows (length new.steps.items) + bit (was_old (sym there i))) ∙ count in
    let room = good.room in let fits = good.fits in omega (arith, count', room, fits)

-- where nothing came of it
pub good_same : (old new : Goals) → IsGood old → IsHeld new.held → ((n : ℕ) → row_under new.held.rows n ≡ row_under old.held.rows n)
    → SameValues old.held.rows new.held.rows → length new.held.steps.items ≡ length old.held.steps.items
    → new.held.number ≡ old.held.number → new.changed.items ≡ old.changed.items → vec_len new.changed ≡ vec_len old.changed
    → vec_capacity old.changed ≤ vec_capacity new.changed → IsGood new
good_same old new was held rows values len number items same room = record {
  held = held;
  noted = λ n s e. ap (is_noted n s) items ∙ was.noted n s (sym (ap unsettled (values n s)) ∙ e);
  room = let before = was.room in
      let count = ap (count_below is_old new.held.rows) len
      ∙ count_same is_old old.held.rows new.held.rows was.held.table held.table
      (value_kept exact_rows (hashed row_writes) old.held.rows new.held.rows was.held.table held.table values (λ n r e. rows n ∙ e))
      (length old.held.steps.items) in
      omega (arith, before, count, number, same);
  fits = let before = was.fits in omega (arith, before, number, room);
}

-- ---- settling

settled_twice : (o : Option Mark) → settled (settled o) ≡ settled o
settled_twice None = refl
settled_twice (Some Old) = refl
settled_twice (Some Fresh) = refl
settled_twice (Some Dying) = refl

settled_still : (o : Option Mark) → unsettled o ≡ false → settled o ≡ o
settled_still None e = refl
settled_still (Some Old) e = refl
settled_still (Some Fresh) e = absurd (true≢false e)
settled_still (Some Dying) e = absurd (true≢false e)

module _ (old new : Held) (was : IsHeld old) (is : IsHeld new) (number step : ℕ) (o : Option Mark)
    (one : OneValue old.rows new.rows number step o) (mark : (row : Row) → row_under old.rows number ≡ Some row → OneMark old.rows new.rows step row o)
    (len : length new.steps.items ≡ length old.steps.items) (there : is_some (step_value old.rows number step) ≡ true)
    (alike : settled o ≡ settled (step_value old.rows number step)) (done : unsettled o ≡ false) where
  pub settles_one : bit (was_old o) + old.number ≤ 1 + new.number → new.number ≤ old.number → SettlesAt old new number step
  settles_one enough fewer = record {
    same = same;
    here = ap unsettled one.here ∙ done;
    others = others;
    fewer = fewer;
    room = let count = olds_one old new was is number step row at o (mark row at) len
        (ltb-true step (length old.steps.items) (was.within number step there)) in
        omega (arith, count, enough);
  }
    where
      row : Row
      row = (row_there old.rows number step there).0

      at : row_under old.rows number ≡ Some row
      at = (row_there old.rows number step there).1

      same : (s : ℕ) (r : Row) → settled (value_in row_cmp new.rows s r) ≡ settled (value_in row_cmp old.rows s r)
      same s r = elim (eqb_tells s step) [
        | inr d ↦ ap settled ((mark row at).others s r (λ e f. d.1 e))
        | inl e ↦ elim (tells exact_rows r row) [
          | inr d ↦ ap settled ((mark row at).others s r (λ e f. d f))
          | inl f ↦ (λ i. settled (value_in row_cmp new.rows (e.1 i) (f i))) ∙ ap settled (mark row at).this ∙ alike
              ∙ sym (ap settled (value_under exact_rows (hashed row_writes) old.rows was.table number step row at))
              ∙ sym (λ i. settled (value_in row_cmp old.rows (e.1 i) (f i)))
        ]
      ]

      others : (n s : ℕ) → unsettled (step_value new.rows n s) ≡ true → unsettled (step_value old.rows n s) ≡ true
      others n s e = elim (eqb_tells n number) [
        | inr d ↦ sym (ap unsettled (one.others n s (λ f g. d.1 f))) ∙ e
        | inl f ↦ elim (eqb_tells s step) [
          | inr d ↦ sym (ap unsettled (one.others n s (λ f g. d.1 g))) ∙ e
          | inl g ↦ absurd (true≢false (sym e ∙ (λ i. unsettled (step_value new.rows (f.1 i) (g.1 i))) ∙ ap unsettled one.here ∙ done))
        ]
      ]

pub settles_none : (h : Held) (number step : ℕ) → unsettled (step_value h.rows number step) ≡ false → SettlesAt h h number step
settles_none h number step e = record { same = λ s r. refl; here = e; others = λ n s f. f; fewer = omega arith; room = omega arith }

-- after the last goal of the list was settled
pub good_settled : (old new : Goals) (c : Changed) → IsGood old → IsHeld new.held → SettlesAt old.held new.held c.number c.step
    → old.changed.items ≡ new.changed.items ++ c ∷ [] → vec_len new.changed + 1 ≡ vec_len old.changed
    → vec_capacity new.changed ≡ vec_capacity old.changed → IsGood new
good_settled old new c was held done items len capacity = record {
  held = held;
  noted = λ n s e. by n s e (is_at n s c) refl (sym (noted_end n s new.changed.items c) ∙ sym (ap (is_noted n s) items) ∙ was.noted n s (done.others n s e));
  room = let room = done.room in let before = was.room in omega (arith, room, before, len);
  fits = let fewer = done.fewer in let before = was.fits in omega (arith, fewer, before, capacity);
}
  where
    by : (n s : ℕ) → unsettled (step_value new.held.rows n s) ≡ true → (b : Bool) → is_at n s c ≡ b
        → (is_noted n s new.changed.items || is_at n s c) ≡ true → is_noted n s new.changed.items ≡ true
    by n s e false h f = sym (or-false _) ∙ sym (ap (λ b. is_noted n s new.changed.items || b) h) ∙ f
    by n s e true h f = let both = and_parts (c.number == n) (c.step == s) h in
        absurd (true≢false (sym e ∙ (λ i. unsettled (step_value new.held.rows (sym (eqb-true c.number n both.0) i) (sym (eqb-true c.step s both.1) i)))
        ∙ done.here))

no_items : {X : Type 0} (xs : List X) → length xs ≡ 0 → xs ≡ []
no_items [] e = refl
no_items (x ∷ xs) e = absurd (omega (arith, e))

-- where no goal is left to change
pub settled_end : (g : Goals) → IsGood g → vec_len g.changed ≡ 0 → (s : ℕ) (r : Row)
    → settled (value_in row_cmp g.held.rows s r) ≡ value_in row_cmp g.held.rows s r
settled_end g good empty s r = let none = no_items g.changed.items (sym g.changed.ok.0 ∙ empty) in elim (find_row exact_rows (hashed row_writes) g.held.rows r) [
  | inr absent ↦ let e = value_nowhere exact_rows (hashed row_writes) g.held.rows s r absent in ap settled e ∙ sym e
  | inl f ↦ let e = value_under exact_rows (hashed row_writes) g.held.rows good.held.table f.0 s r f.1 in
      ap settled e ∙ settled_still _ (false_from_ne_true _ (λ h. true≢false (sym (good.noted f.0 s h) ∙ ap (is_noted f.0 s) none))) ∙ sym e
]

-- where records without steps come or go
pub good_rows : (old new : Goals) → IsGood old → IsHeld new.held → SameValues old.held.rows new.held.rows
    → ((s : ℕ) (r : Row) → value_in row_cmp new.held.rows s r ≡ value_in row_cmp old.held.rows s r) → new.held.steps ≡ old.held.steps
    → new.held.number ≡ old.held.number → new.changed ≡ old.changed → IsGood new
good_rows old new was held values same steps number changed = record {
  held = held;
  noted = λ n s e. ap (λ c. is_noted n s c.items) changed ∙ was.noted n s (sym (ap unsettled (values n s)) ∙ e);
  room = let before = was.room in
      let count = ap (λ p. count_below is_old new.held.rows (length p.items)) steps
      ∙ count_same is_old old.held.rows new.held.rows was.held.table held.table same (length old.held.steps.items) in
      let len = ap vec_len changed in
      omega (arith, before, count, number, len);
  fits = let before = was.fits in let room = ap vec_capacity changed in omega (arith, before, number, room);
}

module _ (old new : Goals) (was : IsGood old) (table : IsRowTable (hashed row_writes) row_cmp new.held.rows)
    (values : SameValues old.held.rows new.held.rows) (steps : new.held.steps ≡ old.held.steps)
    (number : new.held.number ≡ old.held.number) (changed : new.changed ≡ old.changed) where
  pub good_more : FewerRows new.held.rows old.held.rows → IsGood new
  good_more rows = good_rows old new was (is_held_more old.held new.held was.held table values steps number rows) values
      (value_kept exact_rows (hashed row_writes) old.held.rows new.held.rows was.held.table table values rows) steps number changed

  pub good_fewer : FewerRows old.held.rows new.held.rows → IsGood new
  good_fewer rows = good_rows old new was (is_held_fewer old.held new.held was.held table values steps number rows) values
      (λ s r. sym (value_kept exact_rows (hashed row_writes) new.held.rows old.held.rows table was.held.table (λ n s. sym (values n s)) rows s r))
      steps number changed

-- what an answer with a number says of all values and rows
pub numbered_values : {A E : Type 0} (r : Result A E) (a b : RowTable Row Mark) → OnOk r (SameValues a b)
    → OnErr r ((m : ℕ) → same_record a b m) → SameValues a b
numbered_values (Ok n) a b v e = v
numbered_values (Err x) a b v e = λ n s. ap (λ o. option_and_then (λ l. get l s) (option_map (λ x. x.value) o)) (e n)

pub numbered_rows : {A E : Type 0} (r : Result A E) (a b : RowTable Row Mark)
    → OnOk r ((m : ℕ) (k : Row) → row_under a m ≡ Some k → row_under b m ≡ Some k)
    → OnErr r ((m : ℕ) → same_record a b m) → FewerRows b a
numbered_rows (Ok n) a b v e = v
numbered_rows (Err x) a b v e = λ n r h. ap (option_map (λ x. x.key)) (e n) ∙ h

-- a row that had no number has a number that was free
module _ (a b : RowTable Row Mark) (rows : FewerRows b a) (n : ℕ) (row : Row) (at : row_under b n ≡ Some row)
    (new : (m : ℕ) → row_under a m ≢ Some row) where
  pub was_free : row_under a n ≡ None
  was_free = by (row_under a n) refl
    where
      by : (o : Option Row) → row_under a n ≡ o → row_under a n ≡ None
      by None e = e
      by (Some k) e = absurd (new n (e ∙ sym (rows n k e) ∙ at))

  pub absent_new : SameValues a b → (s : ℕ) → step_value b n s ≡ None
  absent_new values s = values n s ∙ no_record exact_rows (hashed row_writes) a n s was_free

-- all rows are as before where a new one went again
pub rows_again : (a b c : RowTable Row Mark) (n : ℕ) → ((m : ℕ) → m ≢ n → row_under b m ≡ row_under a m)
    → ((m : ℕ) → m ≢ n → row_under c m ≡ row_under b m) → row_under a n ≡ None → row_under c n ≡ None
    → (m : ℕ) → row_under c m ≡ row_under a m
rows_again a b c n came went free gone m = elim (eqb_tells m n) [
  | inr d ↦ went m d.1 ∙ came m d.1
  | inl e ↦ ap (row_under c) e.1 ∙ gone ∙ sym (ap (row_under a) e.1 ∙ free)
]

-- no value under a row's number
pub absent_value : (t : RowTable Row Mark) → IsRowTable (hashed row_writes) row_cmp t → (n s : ℕ) (row : Row) → row_under t n ≡ Some row
    → value_in row_cmp t s row ≡ None → step_value t n s ≡ None
absent_value t table n s row at e = sym (value_under exact_rows (hashed row_writes) t table n s row at) ∙ e

-- one mark changes, after records came
pub mark_through : (a b c : RowTable Row Mark) → IsRowTable (hashed row_writes) row_cmp a → IsRowTable (hashed row_writes) row_cmp b
    → SameValues a b → FewerRows b a → (step : ℕ) (row : Row) (o : Option Mark) → OneMark b c step row o → OneMark a c step row o
mark_through a b c x y values rows step row o one = record {
  this = one.this;
  others = λ s r d. one.others s r d ∙ value_kept exact_rows (hashed row_writes) a b x y values rows s r;
}
