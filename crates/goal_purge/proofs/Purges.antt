-- A purge, row by row.
use Rattle.std.specs.Prelude.{ℕ, ◌≡◌, ◌^◌, ◌<◌, ◌≤◌, ◌==◌, ◌&&◌, refl, Bool, true, false, not, if◌then◌else◌, Option, Some, None}
use Rattle.std.specs.Option.{is_some}
use Rattle.std.specs.Ordering.{is_eq}
use Rattle.std.proofs.Common.{ap, sym, ◌∙◌, subst, arith}
use Rattle.std.proofs.lemmas.Bool.{true≢false}
use Rattle.std.proofs.lemmas.Bool.Decides.{nat_tests}
use Rattle.ev_bind.specs.Rows.{row_cmp, same_rows, exact_rows}
use Rattle.ev_bind.specs.declared.rows.Row.{Row}
use Rattle.support_table.specs.Supports.{count_of, Counts}
use Rattle.support_table.specs.declared.kept.Supports.{Supports}
use Rattle.change_meaning.specs.Caps.{PlainCaps, keeps}
use Rattle.goal_store.specs.Goals.{mark_at, AllOld, Marks, Settled}
use Rattle.goal_store.specs.Marks.{settled, was_old}
use Rattle.goal_store.specs.Values.{tied}
use Rattle.goal_store.specs.declared.kept.GoalStore.{GoalStore}
use Rattle.goal_store.specs.declared.marks.Mark.{Mark}
use Rattle.goal_store.specs.declared.marks.Mark.TheVariants.{Old, Fresh, Dying}
use Rattle.goal_purge.specs.Expiring.{due, expires_at, has_goal, without_row, Follows}
use Rattle.goal_purge.specs.Following.{follows_same, follows_without, goes_at, gone_at, kept_at, one_expiry}
use Rattle.goal_purge.specs.Purging.{has_old, NoneDue, Purges}
use Rattle.goal_purge.specs.declared.expiries.Expiries.{Expiries}
use Rattle.goal_purge.proofs.Entries.{last_first}

both : (a b : Bool) → (a && b) ≡ true → (a ≡ true) × (b ≡ true)
both true b e = (refl, e)
both false b e = absurd (true≢false (sym e))

-- ---- marks where all are old

is_settled : (o : Option Mark) → settled o ≡ o → was_old o ≡ is_some o
is_settled None e = refl
is_settled (Some Old) e = refl
is_settled (Some Fresh) e = absurd (true≢false (ap was_old e))
is_settled (Some Dying) e = absurd (true≢false (sym (ap is_some e)))

none_settled : (o : Option Mark) → settled o ≡ o → was_old o ≡ false → o ≡ None
none_settled None e w = refl
none_settled (Some Old) e w = absurd (true≢false w)
none_settled (Some Fresh) e w = absurd (true≢false (ap was_old e))
none_settled (Some Dying) e w = absurd (true≢false (sym (ap is_some e)))

module _ (caps : PlainCaps) (bound : ℕ) (g : GoalStore) (u : Supports) where
  -- ---- one row more

  -- what was said of one row, as the store had a mark o of it in the beginning, and has now o'
  record Stands (k : Bool) (o o' : Option Mark) (n n' : ℕ) : Type 0 where
    pub mark : o' ≡ (if was_old o && not (was_old o') then Some Dying else o)
    pub gone : (was_old o && not (was_old o') && k) ≡ false
    pub count : n' ≡ (if was_old o && not (was_old o') then 0 else n)

  -- a row that was old till now was so in the beginning
  was_before : (o o' : Option Mark) → o' ≡ (if was_old o && not (was_old o') then Some Dying else o) → was_old o' ≡ true → was_old o ≡ true
  was_before None o' e w = sym (ap was_old e) ∙ w
  was_before (Some Old) o' e w = refl
  was_before (Some Fresh) o' e w = sym (ap was_old e) ∙ w
  was_before (Some Dying) o' e w = sym (ap was_old e) ∙ w

  drops : (k : Bool) (o o' : Option Mark) (n n' : ℕ) → was_old o ≡ true → k ≡ false → o' ≡ Some Dying → n' ≡ 0 → Stands k o o' n n'
  drops k o o' n n' w ke e z = record {
    mark = e ∙ sym (λ i. if w i && not (was_old (e i)) then Some Dying else o);
    gone = λ i. w i && not (was_old (e i)) && ke i;
    count = z ∙ sym (λ i. if w i && not (was_old (e i)) then 0 else n);
  }

  -- whether it is this row of this step
  told : (step : ℕ) (row : Row) (s : ℕ) (r : Row) (t q : Bool) → (s == step) ≡ t → is_eq (row_cmp r row) ≡ q → (t && q) ≡ false
      → s ≡ step → r ≡ row → ⊥
  told step row s r t q te qe f se re =
      let a : (s == step) ≡ true = grind (arith, nat_tests) in
      let b : is_eq (row_cmp r row) ≡ true = tied exact_rows r row re in
      true≢false ((λ i. sym a i && sym b i) ∙ (λ i. te i && qe i) ∙ f)

  pub purges_more : bound < 2 ^ 64 → (goals goals' : GoalStore) (supports supports' : Supports) (old new : Expiries)
      (d step : ℕ) (row : Row) (was : Bool)
      → d ≤ bound → due old d step row ≡ true
      → ((c s : ℕ) (r : Row) → due new c s r ≡ (not (c == d && (s == step && is_eq (row_cmp r row))) && due old c s r))
      → was ≡ was_old (mark_at goals step row) → (was ≡ true → Marks goals goals' step row (Some Dying))
      → Counts supports supports' step row 0
      → Purges caps bound g u goals supports old → Purges caps bound g u goals' supports' new
  purges_more small goals goals' supports supports' old new d step row was l is less we dropped counts h = record {
    follows = follows_same caps (without_row step row (has_old goals)) (has_old goals') new had
        (follows_without caps (has_old goals) old new step row h.follows (caps.cap step) (caps.reach step) refl refl
        (λ c s r. less c s r ∙ ap (λ t. not t && due old c s r) (turned c s r)));
    marks = λ s r. (stands s r).mark;
    gone = λ s r. (stands s r).gone;
    counts = λ s r. (stands s r).count;
  }
    where
      held : (has_old goals step row ≡ true) × (goes_at caps d step row ≡ true)
      held = both (has_old goals step row) (goes_at caps d step row) (sym (h.follows d step row) ∙ is)

      marks : Marks goals goals' step row (Some Dying)
      marks = dropped (we ∙ held.0)

      turned : (c s : ℕ) (r : Row) → (c == d && (s == step && is_eq (row_cmp r row)))
          ≡ (s == step && (is_eq (row_cmp r row) && expires_at (caps.cap step) (caps.reach step) row.span c))
      turned c s r =
          last_first (c == d) (s == step) (is_eq (row_cmp r row))
          ∙ ap (λ t. s == step && (is_eq (row_cmp r row) && t)) (sym (one_expiry (caps.cap step) (caps.reach step) row.span d c held.1))

      stands : (s : ℕ) (r : Row) → Stands (keeps caps bound s r) (mark_at g s r) (mark_at goals' s r) (count_of u s r) (count_of supports' s r)
      stands s r = at (s == step) refl (is_eq (row_cmp r row)) refl
        where
          same : ((s ≡ step) → (r ≡ row) → ⊥)
              → Stands (keeps caps bound s r) (mark_at g s r) (mark_at goals' s r) (count_of u s r) (count_of supports' s r)
          same other = subst
              (λ (p : Option Mark × ℕ). Stands (keeps caps bound s r) (mark_at g s r) p.0 (count_of u s r) p.1)
              (λ i. (sym (marks.others s r other) i, sym (counts.others s r other) i))
              (record { mark = h.marks s r; gone = h.gone s r; count = h.counts s r })

          this : Stands (keeps caps bound step row) (mark_at g step row) (mark_at goals' step row) (count_of u step row)
              (count_of supports' step row)
          this = drops (keeps caps bound step row) (mark_at g step row) (mark_at goals' step row) (count_of u step row)
              (count_of supports' step row) (was_before (mark_at g step row) (mark_at goals step row) (h.marks step row) held.0)
              (gone_at bound small (caps.cap step) (caps.reach step) row.span d l held.1) marks.this counts.this

          at : (t : Bool) → (s == step) ≡ t → (q : Bool) → is_eq (row_cmp r row) ≡ q
              → Stands (keeps caps bound s r) (mark_at g s r) (mark_at goals' s r) (count_of u s r) (count_of supports' s r)
          at true te true qe =
              let se : s ≡ step = grind (arith, nat_tests) in
              let re : r ≡ row = same_rows r row qe in
              subst (λ (p : ℕ × Row). Stands (keeps caps bound p.0 p.1) (mark_at g p.0 p.1) (mark_at goals' p.0 p.1) (count_of u p.0 p.1)
              (count_of supports' p.0 p.1)) (λ i. (sym se i, sym re i)) this
          at true te false qe = same (told step row s r true false te qe refl)
          at false te q qe = same (told step row s r false q te qe refl)

      had : (s : ℕ) (r : Row) → has_old goals' s r ≡ without_row step row (has_old goals) s r
      had s r = at (s == step) refl (is_eq (row_cmp r row)) refl
        where
          at : (t : Bool) → (s == step) ≡ t → (q : Bool) → is_eq (row_cmp r row) ≡ q
              → has_old goals' s r ≡ (not (t && q) && has_old goals s r)
          at true te true qe =
              let se : s ≡ step = grind (arith, nat_tests) in
              let re : r ≡ row = same_rows r row qe in
              (λ i. was_old (mark_at goals' (se i) (re i))) ∙ ap was_old marks.this
          at true te false qe = ap was_old (marks.others s r (told step row s r true false te qe refl))
          at false te q qe = ap was_old (marks.others s r (told step row s r false q te qe refl))

  -- ---- after the last row

  module _ (small : bound < 2 ^ 64) (goals goals' : GoalStore) (supports : Supports) (e : Expiries) (none : NoneDue bound e)
      (old : AllOld g) (h : Purges caps bound g u goals supports e) (settles : Settled goals goals') where
    -- a row that still is old is kept
    kept_old : (s : ℕ) (r : Row) → has_old goals s r ≡ true → keeps caps bound s r ≡ true
    kept_old s r w = kept_at bound small (caps.cap s) (caps.reach s) r.span (λ d l. sym (ap (λ t. t && goes_at caps d s r) w)
        ∙ sym (h.follows d s r) ∙ none d s r l)

    -- what of a mark o is left, which now is o'
    record Left (k : Bool) (o o' : Option Mark) : Type 0 where
      pub mark : settled o' ≡ (if k then o else None)
      pub count : (was_old o && not (was_old o')) ≡ (is_some o && not k)
      pub has : is_some (settled o') ≡ was_old o'

    left : (s : ℕ) (r : Row) → Left (keeps caps bound s r) (mark_at g s r) (mark_at goals s r)
    left s r = at (keeps caps bound s r) (mark_at g s r) (mark_at goals s r) (old s r) (h.marks s r) (h.gone s r) (kept_old s r)
      where
        at : (k : Bool) (o o' : Option Mark) → settled o ≡ o → o' ≡ (if was_old o && not (was_old o') then Some Dying else o)
            → (was_old o && not (was_old o') && k) ≡ false → (was_old o' ≡ true → k ≡ true) → Left k o o'
        at k (Some Fresh) o' t m f y = absurd (true≢false (ap was_old t))
        at k (Some Dying) o' t m f y = absurd (true≢false (sym (ap is_some t)))
        at true None o' t m f y = subst (Left true None) (sym m) (record { mark = refl; count = refl; has = refl })
        at false None o' t m f y = subst (Left false None) (sym m) (record { mark = refl; count = refl; has = refl })
        at true (Some Old) (Some Old) t m f y = record { mark = refl; count = refl; has = refl }
        at false (Some Old) (Some Old) t m f y = absurd (true≢false (sym (y refl)))
        at true (Some Old) (Some Dying) t m f y = absurd (true≢false f)
        at false (Some Old) (Some Dying) t m f y = record { mark = refl; count = refl; has = refl }
        at k (Some Old) None t m f y = absurd (true≢false (sym (ap is_some m)))
        at k (Some Old) (Some Fresh) t m f y = absurd (true≢false (ap is_fresh m))
          where
            is_fresh : Option Mark → Bool
            is_fresh None = false
            is_fresh (Some Old) = false
            is_fresh (Some Fresh) = true
            is_fresh (Some Dying) = false

    pub purged_marks : (s : ℕ) (r : Row) → mark_at goals' s r ≡ (if keeps caps bound s r then mark_at g s r else None)
    purged_marks s r = settles s r ∙ (left s r).mark

    pub purged_counts : (s : ℕ) (r : Row)
        → count_of supports s r ≡ (if has_goal g s r && not (keeps caps bound s r) then 0 else count_of u s r)
    purged_counts s r = h.counts s r ∙ ap (λ t. if t then 0 else count_of u s r) (left s r).count

    pub purged_follows : Follows caps (has_goal goals') e
    purged_follows = follows_same caps (has_old goals) (has_goal goals') e
        (λ s r. ap is_some (settles s r) ∙ (left s r).has) h.follows
