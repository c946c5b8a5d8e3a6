-- The expiries are found anew: the rows of a store come one after the other, each for the steps that have it.
use Rattle.std.specs.Prelude.{ℕ, zero, suc, ◌≡◌, ◌≢◌, ◌+◌, ◌<◌, ◌≤◌, ◌==◌, refl, Bool, true, false, ◌&&◌, ◌||◌, if◌then◌else◌, Option, Some, None, List, [], ◌∷◌}
use Rattle.std.specs.Cmp.{tied_itself}
use Rattle.std.specs.Option.{is_some}
use Rattle.std.specs.Ordering.{is_eq}
use Rattle.std.proofs.Common.{ap, sym, ◌∙◌, inl, inr, arith, ◌⊎◌}
use Rattle.std.proofs.lemmas.Bool.{cases_lt, true≢false}
use Rattle.std.proofs.lemmas.Bool.Decides.{nat_tests}
use Rattle.std.proofs.lemmas.Option.{none-some}
use Rattle.ev_bind.specs.Rows.{row_cmp, same_rows, exact_rows}
use Rattle.ev_bind.specs.declared.rows.Row.{Row}
use Rattle.row_table.specs.Pairs.{get}
use Rattle.change_meaning.specs.Caps.{PlainCaps}
use Rattle.goal_store.specs.Goals.{mark_at, row_at, unnumbered}
use Rattle.goal_store.specs.declared.kept.GoalStore.{GoalStore}
use Rattle.goal_store.specs.declared.marks.Mark.{Mark}
use Rattle.goal_purge.specs.Expiring.{due, expires_at, has_goal, Follows}
use Rattle.goal_purge.specs.declared.expiries.Expiries.{Expiries}
use Rattle.revision.specs.Following.{due_come, due_steps, is_row, goal_due, due_under, is_below, due_below}

same_row : (r : Row) → is_eq (row_cmp r r) ≡ true
same_row r = ap is_eq (tied_itself exact_rows.total r)

-- ---- the steps of a row

module _ (caps : PlainCaps) (x : Row) (d s : ℕ) (r : Row) where
  -- whether it is the row r, which goes at the bound d
  abbrev here : Bool
  here = is_eq (row_cmp r x) && expires_at (caps.cap s) (caps.reach s) r.span d

  come_is : (step : ℕ) (was : Bool) → due_come caps x step d s r was ≡ ((step == s && here) || was)
  come_is step was = at (step == s) refl
    where
      at : (t : Bool) → (step == s) ≡ t → due_come caps x step d s r was ≡ ((t && here) || was)
      at true e =
          let same : step ≡ s = grind (arith, nat_tests) in
          let own : (s == step) ≡ true = grind (arith, nat_tests) in
          ap (λ b. (b && (is_eq (row_cmp r x) && expires_at (caps.cap step) (caps.reach step) x.span d)) || was) own
          ∙ (λ i. (is_eq (row_cmp r x) && expires_at (caps.cap (same i)) (caps.reach (same i)) x.span d) || was)
          ∙ ap (λ b. b || was) (by (is_eq (row_cmp r x)) refl)
        where
          by : (q : Bool) → is_eq (row_cmp r x) ≡ q → (q && expires_at (caps.cap s) (caps.reach s) x.span d)
              ≡ (q && expires_at (caps.cap s) (caps.reach s) r.span d)
          by true f = ap (λ y. expires_at (caps.cap s) (caps.reach s) y.span d) (sym (same_rows r x f))
          by false f = refl
      at false e =
          let other : (s == step) ≡ false = grind (arith, nat_tests) in
          ap (λ b. (b && (is_eq (row_cmp r x) && expires_at (caps.cap step) (caps.reach step) x.span d)) || was) other

  steps_are : (ms : List (ℕ × Mark)) (was : Bool) → due_steps caps x ms d s r was ≡ ((is_some (get ms s) && here) || was)
  steps_are [] was = refl
  steps_are ((k, v) ∷ ms) was =
      ap (due_steps caps x ms d s r) (come_is k was)
      ∙ steps_are ms ((k == s && here) || was)
      ∙ at (k == s) (get ms s) here
    where
      at : (t : Bool) (o : Option Mark) (q : Bool)
          → ((is_some o && q) || ((t && q) || was)) ≡ ((is_some (if t then Some v else o) && q) || was)
      at true None q = refl
      at true (Some m) true = refl
      at true (Some m) false = refl
      at false o q = refl

-- ---- a row under a number

module _ (caps : PlainCaps) (goals : GoalStore) (n d s : ℕ) (r : Row) (was now : Bool) where
  pub none_under : row_at goals n ≡ None → was ≡ due_under caps goals n d s r was
  none_under e = ap (λ o. (is_row o r && goal_due caps goals d s r) || was) (sym e)

  pub row_under : (x : Row) (ms : List (ℕ × Mark)) → row_at goals n ≡ Some x → ((s : ℕ) → get ms s ≡ mark_at goals s x)
      → now ≡ due_steps caps x ms d s r was → now ≡ due_under caps goals n d s r was
  row_under x ms e marks come =
      come
      ∙ steps_are caps x d s r ms was
      ∙ (λ i. (is_some (marks s i) && (is_eq (row_cmp r x) && expires_at (caps.cap s) (caps.reach s) r.span d)) || was)
      ∙ ap (λ b. b || was) (at (is_eq (row_cmp r x)) (expires_at (caps.cap s) (caps.reach s) r.span d) refl)
      ∙ ap (λ o. (is_row o r && goal_due caps goals d s r) || was) (sym e)
    where
      at : (q t : Bool) → is_eq (row_cmp r x) ≡ q → (has_goal goals s x && (q && t)) ≡ (q && (has_goal goals s r && t))
      at true t f = ap (λ y. has_goal goals s y && t) (sym (same_rows r x f))
      at false t f = none (has_goal goals s x)
        where
          none : (b : Bool) → (b && false) ≡ false
          none true = refl
          none false = refl

-- ---- the numbers one after the other

module _ (caps : PlainCaps) (goals : GoalStore) where
  pub below_next : (n : ℕ) (old new : Expiries) → ((d s : ℕ) (r : Row) → due old d s r ≡ due_below caps goals n d s r)
      → ((d s : ℕ) (r : Row) → due new d s r ≡ due_under caps goals n d s r (due old d s r))
      → (d s : ℕ) (r : Row) → due new d s r ≡ due_below caps goals (n + 1) d s r
  below_next n old new so this d s r =
      let more : suc n ≡ n + 1 = omega arith in
      this d s r
      ∙ ap (due_under caps goals n d s r) (so d s r)
      ∙ at (is_row (row_at goals n) r) (is_below goals n r) (goal_due caps goals d s r)
      ∙ ap (λ k. due_below caps goals k d s r) more
    where
      at : (a b q : Bool) → ((a && q) || (b && q)) ≡ ((a || b) && q)
      at true b true = refl
      at true true false = refl
      at true false false = refl
      at false b q = refl

  -- a row has no number below this one
  no_number : (n : ℕ) (r : Row) → is_below goals n r ≡ false → (m : ℕ) → m < n → row_at goals m ≢ Some r
  no_number zero r e m lt h = omega (arith, lt)
  no_number (suc n) r e m lt h = at (λ f l. no_number n r f m l h) (is_row (row_at goals n) r) refl (cases_lt m n)
    where
      at : (is_below goals n r ≡ false → m < n → ⊥) → (b : Bool) → is_row (row_at goals n) r ≡ b → (m < n) ⊎ (n ≤ m) → ⊥
      at lower true f c = true≢false (sym (ap (λ b. b || is_below goals n r) f) ∙ e)
      at lower false f (inl l) = lower (sym (ap (λ b. b || is_below goals n r) f) ∙ e) l
      at lower false f (inr l) =
          let same : n ≡ m = omega (arith, lt, l) in
          true≢false (sym (same_row r) ∙ sym (ap (λ o. is_row o r) (ap (row_at goals) same ∙ h)) ∙ f)

  -- past the last number each row of a step has come
  pub all_below : (n : ℕ) (e : Expiries) → ((m : ℕ) → n ≤ m → row_at goals m ≡ None)
      → ((d s : ℕ) (r : Row) → due e d s r ≡ due_below caps goals n d s r) → Follows caps (has_goal goals) e
  all_below n e past so d s r = so d s r ∙ at (is_below goals n r) refl
    where
      nowhere : is_below goals n r ≡ false → (m : ℕ) → row_at goals m ≢ Some r
      nowhere f m h = elim (cases_lt m n) [
        | inl l ↦ no_number n r f m l h
        | inr l ↦ none-some r (sym (past m l) ∙ h)
      ]

      at : (b : Bool) → is_below goals n r ≡ b → (b && goal_due caps goals d s r) ≡ goal_due caps goals d s r
      at true f = refl
      at false f =
          ap (λ m. is_some m && expires_at (caps.cap s) (caps.reach s) r.span d) (sym (unnumbered goals s r (nowhere f)))
