-- A step has so few rows that they have a number in 64 bits.
--     few_goals     whatever their marks
--     few_seen      those that are seen
--     few_both      those that are seen from before, and beside them those that are seen from after alone
use Rattle.std.specs.Prelude.{ℕ, zero, suc, ◌≡◌, ◌<◌, ◌≤◌, ◌+◌, ◌^◌, ◌&&◌, not, refl, Bool, true, false, cond, List, [], ◌∷◌, length, Option, Some, None, nat_lt}
use Rattle.std.specs.List.{filter}
use Rattle.std.specs.Option.{is_some, option_map_or}
use Rattle.std.proofs.Common.{ap, sym, ◌∙◌, inl, inr, arith}
use Rattle.std.proofs.lemmas.Bool.{true≢false}
use Rattle.std.proofs.lemmas.Bool.Decides.{eqb_tells, nat_tests}
use Rattle.ordered_lists.specs.Canon.{has, Rising, canon_one, has-filter, Rising-filter}
use Rattle.ordered_lists.specs.Members.{filter_agree}
use Rattle.ev_bind.specs.Rows.{row_cmp, row_writes, exact_rows}
use Rattle.ev_bind.specs.declared.rows.Row.{Row}
use Rattle.row_changes.specs.Changes.{fresh}
use Rattle.row_table.specs.Tables.{hashed}
use Rattle.row_table.specs.declared.rows.RowTable.{RowTable}
use Rattle.goal_store.specs.Goals.{mark_at, seen, goals_of, has_seen, seen_rises}
use Rattle.goal_store.specs.Good.{count_below}
use Rattle.goal_store.specs.Marks.{seen_as}
use Rattle.goal_store.specs.Values.{value_in, rows_that, find_row, value_under, value_nowhere, has_rows, rows_rise}
use Rattle.goal_store.specs.declared.kept.GoalStore.{GoalStore}
use Rattle.goal_store.specs.declared.marks.Mark.{Mark}
use Rattle.goal_store.specs.declared.marks.Mark.TheVariants.{Old, Fresh, Dying}
use Rattle.goal_store.specs.declared.marks.When.{When}
use Rattle.goal_store.specs.declared.marks.When.TheVariants.{Before, After}

filter_len : {A : Type 0} (p : A → Bool) (xs : List A) → length (filter p xs) ≤ length xs
filter_len p [] = omega arith
filter_len p (x ∷ xs) = at (p x) (filter_len p xs)
  where
    at : (b : Bool) → length (filter p xs) ≤ length xs → length (cond b (x ∷ filter p xs) (filter p xs)) ≤ length (x ∷ xs)
    at true i = omega (arith, i)
    at false i = omega (arith, i)

-- those of a part that pass a test, and those of the whole that don't pass it, are no more than the whole
filter_both : {A : Type 0} (p q : A → Bool) (xs : List A)
    → length (filter p xs) + length (filter (λ x. not (p x)) (filter q xs)) ≤ length xs
filter_both p q [] = omega arith
filter_both p q (x ∷ xs) = at (p x) refl (q x) (filter_both p q xs)
  where
    at : (b : Bool) → p x ≡ b → (c : Bool) → length (filter p xs) + length (filter (λ y. not (p y)) (filter q xs)) ≤ length xs
        → length (cond b (x ∷ filter p xs) (filter p xs)) + length (filter (λ y. not (p y)) (cond c (x ∷ filter q xs) (filter q xs)))
        ≤ length (x ∷ xs)
    at b e false i = in_front b (length (filter p xs)) i
      where
        in_front : (d : Bool) (n : ℕ) → length (filter p xs) + length (filter (λ y. not (p y)) (filter q xs)) ≤ length xs
            → length (cond d (x ∷ filter p xs) (filter p xs)) + length (filter (λ y. not (p y)) (filter q xs)) ≤ length (x ∷ xs)
        in_front true n i = omega (arith, i)
        in_front false n i = omega (arith, i)
    at true e true i =
        let f = ap (λ d. length (cond (not d) (x ∷ filter (λ y. not (p y)) (filter q xs)) (filter (λ y. not (p y)) (filter q xs)))) e in
        omega (arith, i, f)
    at false e true i =
        let f = ap (λ d. length (cond (not d) (x ∷ filter (λ y. not (p y)) (filter q xs)) (filter (λ y. not (p y)) (filter q xs)))) e in
        omega (arith, i, f)

-- the rows of one of the first steps are no more than those of all of them
below_has : (t : RowTable Row Mark) (n s : ℕ) → s < n → length (rows_that row_cmp (λ m. true) t s) ≤ count_below (λ m. true) t n
below_has t zero s h = absurd (omega (arith, h))
below_has t (suc n) s h = elim (eqb_tells s n) [
  | inl e ↦ let same = ap (λ z. length (rows_that row_cmp (λ m. true) t z)) e.1 in omega (arith, same)
  | inr d ↦ let rest = below_has t n s (let differ = d.1 in omega (arith, h, differ)) in omega (arith, rest)
]

tt_some : (o : Option Mark) → option_map_or (λ m. true) o false ≡ is_some o
tt_some None = refl
tt_some (Some m) = refl

not_some : (o : Option Mark) → (is_some o ≡ true → ⊥) → is_some o ≡ false
not_some None h = refl
not_some (Some m) h = absurd (h refl)

seen_held : (w : When) (o : Option Mark) → (seen_as w o && is_some o) ≡ seen_as w o
seen_held w None = refl
seen_held Before (Some Old) = refl
seen_held Before (Some Fresh) = refl
seen_held Before (Some Dying) = refl
seen_held After (Some Old) = refl
seen_held After (Some Fresh) = refl
seen_held After (Some Dying) = refl

module _ (g : GoalStore) (s : ℕ) where
  -- there is no row past the last step
  none_past : nat_lt s (length g.goals.held.steps.items) ≡ false → (r : Row) → is_some (value_in row_cmp g.goals.held.rows s r) ≡ false
  none_past past r = not_some (value_in row_cmp g.goals.held.rows s r) (λ e. elim (find_row exact_rows (hashed row_writes) g.goals.held.rows r) [
    | inl f ↦ true≢false (sym (g.good.held.within f.0 s
        (ap is_some (sym (value_under exact_rows (hashed row_writes) g.goals.held.rows g.good.held.table f.0 s r f.1)) ∙ e)) ∙ past)
    | inr none ↦ true≢false (sym e ∙ ap is_some (value_nowhere exact_rows (hashed row_writes) g.goals.held.rows s r none))
  ])

  empty_past : nat_lt s (length g.goals.held.steps.items) ≡ false → rows_that row_cmp (λ m. true) g.goals.held.rows s ≡ []
  empty_past past = canon_one exact_rows (rows_that row_cmp (λ m. true) g.goals.held.rows s) []
      (rows_rise exact_rows (hashed row_writes) g.goals.held.rows (λ m. true) s) tt
      (λ r. has_rows exact_rows (hashed row_writes) g.goals.held.rows g.good.held.table (λ m. true) s r
      ∙ tt_some (value_in row_cmp g.goals.held.rows s r) ∙ none_past past r)

  few_rows : (b : Bool) → nat_lt s (length g.goals.held.steps.items) ≡ b
      → length (rows_that row_cmp (λ m. true) g.goals.held.rows s) < 2 ^ 64
  few_rows true within =
      let lt : s < length g.goals.held.steps.items = grind (arith, nat_tests, within) in
      let under = below_has g.goals.held.rows (length g.goals.held.steps.items) s lt in
      let all = g.good.held.counted in let fits = g.good.fits in let small = g.goals.changed.small in
      omega (arith, under, all, fits, small)
  few_rows false past = let none = ap length (empty_past past) in omega (arith, none)

  pub few_goals : length (goals_of g s) < 2 ^ 64
  unfolding goals_of
  few_goals = few_rows (nat_lt s (length g.goals.held.steps.items)) refl

  has_goals : (r : Row) → has row_cmp r (goals_of g s) ≡ is_some (mark_at g s r)
  unfolding goals_of mark_at
  has_goals r = has_rows exact_rows (hashed row_writes) g.goals.held.rows g.good.held.table (λ m. true) s r
      ∙ tt_some (value_in row_cmp g.goals.held.rows s r)

  goals_rise : Rising row_cmp (goals_of g s)
  unfolding goals_of
  goals_rise = rows_rise exact_rows (hashed row_writes) g.goals.held.rows (λ m. true) s

  -- whether a row is seen, by its mark
  abbrev shows : When → Row → Bool
  shows w r = seen_as w (mark_at g s r)

  seen_part : (w : When) → seen g s w ≡ filter (shows w) (goals_of g s)
  seen_part w = canon_one exact_rows (seen g s w) (filter (shows w) (goals_of g s)) (seen_rises g s w)
      (Rising-filter exact_rows (shows w) (goals_of g s) goals_rise)
      (λ r. has_seen g s w r ∙ sym (has-filter exact_rows (shows w) r (goals_of g s) ∙ ap (λ b. shows w r && b) (has_goals r)
      ∙ seen_held w (mark_at g s r)))

  pub few_seen : (w : When) → length (seen g s w) < 2 ^ 64
  few_seen w =
      let same = ap length (seen_part w) in
      let le = filter_len (shows w) (goals_of g s) in
      let few = few_goals in omega (arith, same, le, few)

  fresh_part : fresh (seen g s Before) (seen g s After) ≡ filter (λ r. not (shows Before r)) (filter (shows After) (goals_of g s))
  fresh_part = filter_agree (λ r. not (has row_cmp r (seen g s Before))) (λ r. not (shows Before r)) (λ r. ap not (has_seen g s Before r))
      (seen g s After)
      ∙ ap (filter (λ r. not (shows Before r))) (seen_part After)

  pub few_both : length (seen g s Before) + length (fresh (seen g s Before) (seen g s After)) < 2 ^ 64
  few_both =
      let olds = ap length (seen_part Before) in
      let news = ap length fresh_part in
      let both = filter_both (shows Before) (shows After) (goals_of g s) in
      let few = few_goals in omega (arith, olds, news, both, few)
