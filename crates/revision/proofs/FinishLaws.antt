-- The end of a step: what the application of its notes asks, and that the step is then as its course says.
use Rattle.std.specs.Prelude.{ℕ, zero, suc, ◌≡◌, ◌≢◌, ◌+◌, ◌<◌, ◌≤◌, ◌^◌, ◌==◌, refl, Bool, true, false, not, ◌&&◌, ◌||◌, nat_lt, is_some, if◌then◌else◌, Option, Some, None, List, [], ◌∷◌, ◌++◌, map, length}
use Rattle.std.specs.Ordering.{is_eq, ordering_reverse}
use Rattle.std.specs.Cmp.{tied_itself}
use Rattle.std.proofs.Common.{ap, sym, ◌∙◌, subst, arith, below_more}
use Rattle.std.proofs.lemmas.Bool.Decides.{nat_tests}
use Rattle.ordered_lists.specs.Lists.{Each}
use Rattle.ordered_lists.specs.Canon.{has, Rising, AllAbove, Rising-canon, canon_one}
use Rattle.event_changes.specs.declared.changes.Sign.{Sign}
use Rattle.event_changes.specs.declared.changes.Sign.TheVariants.{Plus, Minus}
use Rattle.event_changes.specs.declared.events.EventChange.{EventChange}
use Rattle.ev_bind.specs.Rows.{row_cmp, exact_rows}
use Rattle.ev_bind.specs.declared.rows.Row.{Row}
use Rattle.rule_ast.specs.PlainPlans.{PlainStep}
use Rattle.step_meaning.specs.StepRows.{step_at}
use Rattle.row_changes.specs.Changes.{fresh, dying, changed, SignedRow, signed_row, deltas, delta_rows, sign_in, change, IsChange, IsHeld}
use Rattle.row_changes.specs.Visits.{tally}
use Rattle.change_meaning.specs.Caps.{PlainCaps}
use Rattle.change_meaning.specs.Keys.{slots_at}
use Rattle.change_meaning.specs.Courses.{Course, changed_at, given, heads_of, AreFew}
use Rattle.change_meaning.proofs.Sums.{has_changed}
use Rattle.step_work.specs.Views.{View, settled}
use Rattle.revision.specs.Works.{Between, Hand, Finishes}

-- ---- there is one list of changed rows

some_signs : (r : Row) (ds : List SignedRow) → has row_cmp r (delta_rows ds) ≡ is_some (sign_in r ds)
some_signs r [] = refl
some_signs r (d ∷ ds) = at (is_eq (row_cmp r d.row)) (some_signs r ds)
  where
    at : (b : Bool) → has row_cmp r (delta_rows ds) ≡ is_some (sign_in r ds)
        → (b || has row_cmp r (delta_rows ds)) ≡ is_some (if b then Some d.sign else sign_in r ds)
    at true i = refl
    at false i = i

-- in order, each changed row has its own sign
own_signs : (ds : List SignedRow) → Rising row_cmp (delta_rows ds) → Each (λ d. sign_in d.row ds ≡ Some d.sign) ds
own_signs [] u = tt
own_signs (d ∷ ds) u = (
  ap (λ o. if is_eq o then Some d.sign else sign_in d.row ds) (tied_itself exact_rows.total d.row),
  behind ds u.0 (own_signs ds u.1),
)
  where
    behind : (es : List SignedRow) → AllAbove row_cmp d.row (delta_rows es) → Each (λ e. sign_in e.row ds ≡ Some e.sign) es
        → Each (λ e. sign_in e.row (d ∷ ds) ≡ Some e.sign) es
    behind [] a h = tt
    behind (e ∷ es) a h = (
      ap (λ o. if is_eq o then Some d.sign else sign_in e.row ds) (exact_rows.total.antisymm e.row d.row ∙ ap ordering_reverse a.0) ∙ h.0,
      behind es a.1 h.1,
    )

above_none : (n : ℕ) → nat_lt 0 n ≡ not (n == 0)
above_none n = grind (arith, nat_tests)

sign_is : (s : Sign) (m n : ℕ) → Some s ≡ change m n → s ≡ (if nat_lt 0 n then Plus else Minus)
sign_is s m n e = at (m == 0) (n == 0) e ∙ ap (λ b. if b then Plus else Minus) (sym (above_none n))
  where
    at : (b d : Bool) → Some s ≡ (if b then (if d then None else Some Plus) else (if d then Some Minus else None))
        → s ≡ (if not d then Plus else Minus)
    at true true e = absurd (cc)
    at true false e = cc
    at false true e = cc
    at false false e = absurd (cc)

is_changed : (m n : ℕ) → is_some (change m n) ≡ ((nat_lt 0 n && not (nat_lt 0 m)) || (nat_lt 0 m && not (nat_lt 0 n)))
is_changed m n =
    at (m == 0) (n == 0)
    ∙ (λ i. (sym (above_none n) i && not (sym (above_none m) i)) || (sym (above_none m) i && not (sym (above_none n) i)))
  where
    none : Option Sign
    none = None

    at : (b d : Bool) → is_some (if b then (if d then none else Some Plus) else (if d then Some Minus else none))
        ≡ ((not d && not (not b)) || (not b && not (not d)))
    at true true = refl
    at true false = refl
    at false true = refl
    at false false = refl

module _ (m n : Row → ℕ) (xs ys : List Row) (ds : List SignedRow) (old : IsHeld xs m) (new : IsHeld ys n) (ch : IsChange m n ds) where
  same_rows : delta_rows ds ≡ changed xs ys
  same_rows =
      canon_one exact_rows (delta_rows ds) (changed xs ys) ch.in_order (Rising-canon exact_rows (fresh xs ys ++ dying xs ys)) (λ r.
      some_signs r ds ∙ ap is_some (ch.each r) ∙ is_changed (m r) (n r)
      ∙ (λ i. (sym (new.has r) i && not (sym (old.has r) i)) || (sym (old.has r) i && not (sym (new.has r) i)))
      ∙ sym (has_changed xs ys r))

  each_sign : (es : List SignedRow) → Each (λ e. sign_in e.row ds ≡ Some e.sign) es → es ≡ map (signed_row ys) (delta_rows es)
  each_sign [] a = refl
  each_sign (e ∷ es) a =
      let s : e.sign ≡ (if has row_cmp e.row ys then Plus else Minus) =
      sign_is e.sign (m e.row) (n e.row) (sym a.0 ∙ ch.each e.row) ∙ ap (λ b. if b then Plus else Minus) (sym (new.has e.row)) in
      λ i. record { sign = s i; row = e.row } ∷ each_sign es a.1 i

  pub one_change : ds ≡ deltas xs ys
  one_change = each_sign ds (own_signs ds ch.in_order) ∙ ap (map (signed_row ys)) same_rows

-- ---- what the application of a step's notes asks

module _ (steps : List PlainStep) (caps : PlainCaps) (es : List EventChange) (c : Course) (v : View) (n : ℕ)
    (b : Between steps caps es c v n) where
  -- the rows of the step under way are those with a count, as they are seen from before and from after
  pub held_before : IsHeld (v.before n) (v.count n)
  held_before = record {
    rises = subst (Rising row_cmp) (sym (b.before n)) (b.course.old_held n).rises;
    has = λ r. ap (has row_cmp r) (b.before n) ∙ (b.course.old_held n).has r ∙ ap (nat_lt 0) (sym (b.counts_ahead n (omega arith) r));
  }

  pub held_after : IsHeld (v.after n) (v.count n)
  held_after =
      let same : v.after n ≡ v.before n = b.after_ahead n (omega arith) ∙ sym (b.before n) in
      subst (λ rows. IsHeld rows (v.count n)) (sym same) held_before

  module _ (s : PlainStep) (at : step_at steps n ≡ Some s) (added taken : Row → ℕ)
      (plus : (r : Row) → added r ≡ tally Plus r (given (caps.cap n) (slots_at steps) s c es))
      (minus : (r : Row) → taken r ≡ tally Minus r (given (caps.cap n) (slots_at steps) s c es)) where
    -- nothing is taken that isn't there
    pub takes_fewer : (r : Row) → taken r ≤ v.count n r + added r
    takes_fewer r =
        let k = b.course.counts n s at r in
        let now = b.counts_ahead n (omega arith) r in omega (arith, k, now, plus r, minus r)

    -- the counts don't pass 128 bits
    pub adds_fit : length es < 2 ^ 64 → length (heads_of s) < 2 ^ 64
        → ((j : ℕ) → j < n → (length (v.before j) + length (fresh (v.before j) (v.after j)) < 2 ^ 64) × (length (v.after j) < 2 ^ 64))
        → (r : Row) → v.count n r < 2 ^ 128 → v.count n r + added r < 2 ^ 128
    adds_fit few heads short r small = by (added r) refl
      where
        are_few : AreFew c n
        are_few j h = let k = short j h in (
          subst (λ rows. length rows + length (fresh rows (c.new j)) < 2 ^ 64) (b.before j)
              (subst (λ rows. length (v.before j) + length (fresh (v.before j) rows) < 2 ^ 64) (b.after_done j h) k.0),
          subst (λ rows. length rows < 2 ^ 64) (b.after_done j h) k.1,
        )

        by : (m : ℕ) → added r ≡ m → v.count n r + added r < 2 ^ 128
        by zero e = omega (arith, e, small)
        by (suc m) e =
            let some : 0 < tally Plus r (given (caps.cap n) (slots_at steps) s c es) = omega (arith, e, plus r) in
            let k = b.course.room n s at few heads are_few r some in
            let now = b.counts_ahead n (omega arith) r in omega (arith, k, now, plus r)

-- ---- the step is finished

module _ (c : Course) (h new : Hand) (s : PlainStep) (b : Between h.steps h.caps h.changes c h.view h.finished)
    (at : step_at h.steps h.finished ≡ Some s) (f : Finishes s h new)
    (noted : (t : Sign) (r : Row) → settled s (h.view.count h.finished) h.at.noted t r
    ≡ tally t r (given (h.caps.cap h.finished) (slots_at h.steps) s c h.changes)) where
  abbrev n : ℕ
  n = h.finished

  here : n ≤ n
  here = omega arith

  new_count : (r : Row) → new.view.count n r ≡ c.new_count n r
  new_count r =
      let k = b.course.counts n s at r in
      let now = b.counts_ahead n here r in
      let done = f.counts r in
      let plus = noted Plus r in
      let minus = noted Minus r in omega (arith, k, now, done, plus, minus)

  new_before : new.view.before n ≡ c.old n
  new_before = let old = b.course.old_held n in
      canon_one exact_rows (new.view.before n) (c.old n) f.before.rises old.rises
      (λ r. f.before.has r ∙ ap (nat_lt 0) (b.counts_ahead n here r) ∙ sym (old.has r))

  new_after : new.view.after n ≡ c.new n
  new_after = let held = b.course.new_held n in
      canon_one exact_rows (new.view.after n) (c.new n) f.after.rises held.rises
      (λ r. f.after.has r ∙ ap (nat_lt 0) (new_count r) ∙ sym (held.has r))

  new_changed : new.view.changed n ≡ changed_at c n
  new_changed =
      one_change (c.old_count n) (c.new_count n) (c.old n) (c.new n) (new.view.changed n) (b.course.old_held n)
      (b.course.new_held n) (record {
        in_order = f.changed.in_order;
        each = λ r. f.changed.each r ∙ (λ i. change (b.counts_ahead n here r i) (new_count r i));
      })

  apart : (j : ℕ) → j < n → j ≢ n
  apart j lt = omega (arith, lt)

  beyond : (j : ℕ) → n + 1 ≤ j → j ≢ n
  beyond j le = omega (arith, le)

  later : (j : ℕ) → n + 1 ≤ j → n ≤ j
  later j le = omega (arith, le)

  each_before : (j : ℕ) → new.view.before j ≡ c.old j
  each_before j = by (j == n) refl
    where
      by : (t : Bool) → (j == n) ≡ t → new.view.before j ≡ c.old j
      by true e = let same : j ≡ n = grind (arith, nat_tests, e) in subst (λ k. new.view.before k ≡ c.old k) (sym same) new_before
      by false e = let other : j ≢ n = grind (arith, nat_tests, e) in f.other_before j other ∙ b.before j

  each_small : (j : ℕ) (r : Row) → new.view.count j r < 2 ^ 128
  each_small j r = by (j == n) refl
    where
      by : (t : Bool) → (j == n) ≡ t → new.view.count j r < 2 ^ 128
      by true e = let same : j ≡ n = grind (arith, nat_tests, e) in subst (λ k. new.view.count k r < 2 ^ 128) (sym same) (f.small r)
      by false e =
          let other : j ≢ n = grind (arith, nat_tests, e) in
          let k = f.other_counts j other r in
          let was = b.small j r in omega (arith, k, was)

  pub between_next : Between h.steps h.caps h.changes c new.view (h.finished + 1)
  between_next = record {
    course = b.course;
    before = each_before;
    after_done = below_more (λ j. new.view.after j ≡ c.new j) n (λ j lt. f.other_after j (apart j lt) ∙ b.after_done j lt) new_after;
    after_ahead = λ j le. f.other_after j (beyond j le) ∙ b.after_ahead j (later j le);
    counts_done = below_more (λ j. (r : Row) → new.view.count j r ≡ c.new_count j r) n
        (λ j lt r. f.other_counts j (apart j lt) r ∙ b.counts_done j lt r) new_count;
    counts_ahead = λ j le r. f.other_counts j (beyond j le) r ∙ b.counts_ahead j (later j le) r;
    changed_done = below_more (λ j. new.view.changed j ≡ changed_at c j) n (λ j lt. f.other_changed j lt ∙ b.changed_done j lt) new_changed;
    small = each_small;
  }
