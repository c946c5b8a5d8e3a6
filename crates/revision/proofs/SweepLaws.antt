-- A sweep: of the rows that were kept at one bound, those stay that are kept at another.
use Rattle.std.specs.Prelude.{ℕ, zero, suc, ◌≡◌, ◌^◌, ◌<◌, refl, Bool, true, false, not, ◌&&◌, cond, max, nat_lt, if◌then◌else◌, Option, Some, None, List, [], ◌∷◌, ◌+◌, length, map}
use Rattle.std.specs.List.{filter}
use Rattle.std.specs.Option.{is_some, option_map_or}
use Rattle.std.proofs.Common.{ap, sym, ◌∙◌, subst, arith}
use Rattle.std.proofs.lemmas.Bool.{true≢false}
use Rattle.std.proofs.lemmas.Bool.Decides.{nat_tests}
use Rattle.std.proofs.lemmas.List.{length-map}
use Rattle.ordered_lists.specs.Canon.{has, Rising, canon_one, has-filter, Rising-filter}
use Rattle.event_model.specs.declared.events.Event.{Event}
use Rattle.ev_bind.specs.Rows.{row_cmp, row_writes, exact_rows}
use Rattle.ev_bind.specs.declared.rows.Row.{Row}
use Rattle.rule_ast.specs.PlainPlans.{plain_step}
use Rattle.step_meaning.specs.StepRows.{step_rows, times}
use Rattle.change_meaning.specs.Caps.{PlainCaps, caps_in, keeps, kept_rows, supports_at, kept_count}
use Rattle.change_meaning.proofs.RowLaws.{kept_rise, kept_held}
use Rattle.horizon_meaning.specs.NoLoss.{swept_greater}
use Rattle.row_table.specs.Tables.{hashed}
use Rattle.support_table.specs.Supports.{count_of}
use Rattle.support_table.specs.declared.kept.Supports.{Supports}
use Rattle.goal_store.specs.Goals.{mark_at, seen, goals_of, sum_below, number_of, has_seen, seen_rises, AllOld, SamePlan}
use Rattle.goal_store.specs.Marks.{seen_as, settled}
use Rattle.goal_store.specs.Values.{has_rows, rows_rise, value_in}
use Rattle.goal_store.specs.declared.kept.GoalStore.{GoalStore}
use Rattle.goal_store.specs.declared.marks.Mark.{Mark}
use Rattle.goal_store.specs.declared.marks.Mark.TheVariants.{Old, Fresh, Dying}
use Rattle.goal_store.specs.declared.marks.When.{When}
use Rattle.goal_store.specs.declared.marks.When.TheVariants.{Before, After}
use Rattle.goal_purge.specs.Expiring.{expires_at, has_goal, Follows}
use Rattle.goal_purge.specs.declared.expiries.Expiries.{Expiries}
use Rattle.step_work.specs.Ways.{AreWays}
use Rattle.revision.specs.Holding.{Holds, rows_held}
use Rattle.revision.specs.InHand.{steps_in, hand, IsReady, IsDue}
use Rattle.revision.specs.declared.parts.Parts.{Parts}

-- ---- marks

-- what is seen alike from before and from after doesn't change where the marks are settled, and is seen where there is a mark
settled_alike : (m : Option Mark) → seen_as Before m ≡ seen_as After m → settled m ≡ m
settled_alike None e = refl
settled_alike (Some Old) e = refl
settled_alike (Some Fresh) e = absurd (true≢false (sym e))
settled_alike (Some Dying) e = absurd (true≢false e)

some_alike : (m : Option Mark) → seen_as Before m ≡ seen_as After m → is_some m ≡ seen_as Before m
some_alike None e = refl
some_alike (Some Old) e = refl
some_alike (Some Fresh) e = absurd (true≢false (sym e))
some_alike (Some Dying) e = absurd (true≢false e)

seen_cond : (w : When) (b : Bool) (m : Option Mark) → seen_as w (if b then m else None) ≡ (b && seen_as w m)
seen_cond w true m = refl
seen_cond w false m = refl

some_mark : (o : Option Mark) → option_map_or (λ m. true) o false ≡ is_some o
some_mark None = refl
some_mark (Some m) = refl

module _ (g : GoalStore) (s : ℕ) where
  has_goals : (r : Row) → has row_cmp r (goals_of g s) ≡ is_some (mark_at g s r)
  unfolding goals_of mark_at
  has_goals r = has_rows exact_rows (hashed row_writes) g.goals.held.rows g.good.held.table (λ m. true) s r
      ∙ some_mark (value_in row_cmp g.goals.held.rows s r)

  goals_rise : Rising row_cmp (goals_of g s)
  unfolding goals_of
  goals_rise = rows_rise exact_rows (hashed row_writes) g.goals.held.rows (λ m. true) s

-- ---- a store in which the same rows are seen from before and from after

module _ (goals : GoalStore) (rows : ℕ → List Row) (before : (s : ℕ) → seen goals s Before ≡ rows s)
    (after : (s : ℕ) → seen goals s After ≡ rows s) where
  seen_alike : (s : ℕ) (r : Row) → seen_as Before (mark_at goals s r) ≡ seen_as After (mark_at goals s r)
  seen_alike s r =
      sym (has_seen goals s Before r)
      ∙ ap (has row_cmp r) (before s ∙ sym (after s))
      ∙ has_seen goals s After r

  goal_seen : (s : ℕ) (r : Row) → has_goal goals s r ≡ has row_cmp r (rows s)
  goal_seen s r = some_alike (mark_at goals s r) (seen_alike s r) ∙ sym (has_seen goals s Before r) ∙ ap (has row_cmp r) (before s)

  -- expiries that follow its goals follow these rows
  pub rows_due : (caps : PlainCaps) (expiries : Expiries) → Follows caps (has_goal goals) expiries
      → Follows caps (λ s r. has row_cmp r (rows s)) expiries
  rows_due caps expiries f d s r =
      f d s r ∙ ap (λ x. x && expires_at (caps.cap s) (caps.reach s) r.span d) (goal_seen s r)

-- ---- what parts that hold events have

module _ (p : Parts) (b : ℕ) (E : List Event) (h : Holds (hand p) b E) where
  -- the kept rows of a step
  abbrev rows : ℕ → List Row
  rows s = kept_rows (steps_in p) (caps_in p.caps) b E s

  seen_is : (s : ℕ) (w : When) → seen p.goals s w ≡ rows s
  seen_is s Before = h.rows.before s
  seen_is s After = h.rows.after s

  -- every goal is old
  pub all_old : AllOld p.goals
  all_old s r = settled_alike (mark_at p.goals s r) (seen_alike p.goals rows h.rows.before h.rows.after s r)

  held_is : (s : ℕ) (r : Row) → has_goal p.goals s r ≡ has row_cmp r (rows s)
  held_is s r = goal_seen p.goals rows h.rows.before h.rows.after s r

  pub due_goals : IsDue p b E → Follows (caps_in p.caps) (has_goal p.goals) p.expiries
  due_goals f d s r =
      f d s r ∙ ap (λ x. x && expires_at ((caps_in p.caps).cap s) ((caps_in p.caps).reach s) r.span d) (sym (held_is s r))

  pub goals_due : Follows (caps_in p.caps) (has_goal p.goals) p.expiries → IsDue p b E
  goals_due f = rows_due p.goals rows h.rows.before h.rows.after (caps_in p.caps) p.expiries f

  goals_are : (s : ℕ) → goals_of p.goals s ≡ rows s
  goals_are s =
      canon_one exact_rows (goals_of p.goals s) (rows s) (goals_rise p.goals s)
      (kept_rise (steps_in p) h.workable.lower E (caps_in p.caps) b s) (λ r. has_goals p.goals s r ∙ held_is s r)

  sum_same : (n : ℕ) → sum_below (λ s. length (goals_of p.goals s)) n ≡ sum_below (λ s. length (rows s)) n
  sum_same zero = refl
  sum_same (suc n) = λ i. sum_same n i + length (goals_are n i)

  -- as many goals as all steps have kept rows
  pub number_held : IsReady p → number_of p.goals ≡ rows_held (steps_in p) (caps_in p.caps) b E
  number_held ready =
      ap (sum_below (λ s. length (goals_of p.goals s))) (ready.stored ∙ sym (length-map p.plan.steps.items plain_step))
      ∙ sum_same (length (steps_in p))

-- ---- two bounds

module _ (caps : PlainCaps) (b c s : ℕ) where
  abbrev some_row : List Row → Bool
  some_row [] = false
  some_row (x ∷ xs) = true

  single : (p : Row → Bool) (r : Row) (x : Bool) → some_row (filter p (cond x (r ∷ []) [])) ≡ (x && p r)
  single p r true = at (p r)
    where
      at : (y : Bool) → some_row (cond y (r ∷ []) []) ≡ y
      at true = refl
      at false = refl
  single p r false = refl

  -- a row is kept at both of two bounds where it is at the greater one
  keeps_both : (r : Row) → (keeps caps b s r && keeps caps c s r) ≡ keeps caps (max b c) s r
  keeps_both r =
      sym (single (keeps caps c s) r (keeps caps b s r))
      ∙ ap some_row (swept_greater (caps.cap s) (caps.reach s) (r ∷ []) b c)
      ∙ at (keeps caps (max b c) s r)
    where
      at : (y : Bool) → some_row (cond y (r ∷ []) []) ≡ y
      at true = refl
      at false = refl

  -- a row that isn't kept at the second bound loses its supports, where it had any
  count_swept : (here there : Bool) (n : ℕ)
      → (if nat_lt 0 (if here then n else 0) && not there then 0 else (if here then n else 0)) ≡ (if here && there then n else 0)
  count_swept true true n = at (nat_lt 0 n)
    where
      at : (y : Bool) → (if y && false then 0 else n) ≡ n
      at true = refl
      at false = refl
  count_swept true false n = at (nat_lt 0 n) refl
    where
      at : (y : Bool) → nat_lt 0 n ≡ y → (if y && true then 0 else n) ≡ 0
      at true e = refl
      at false e = grind (arith, nat_tests)
  count_swept false true n = refl
  count_swept false false n = refl

-- ---- the sweep

module _ (p : Parts) (b bound : ℕ) (E : List Event) (h : Holds (hand p) b E) (goals : GoalStore) (supports : Supports)
    (marks : (s : ℕ) (r : Row) → mark_at goals s r ≡ (if keeps (caps_in p.caps) bound s r then mark_at p.goals s r else None))
    (counts : (s : ℕ) (r : Row) → count_of supports s r
    ≡ (if has_goal p.goals s r && not (keeps (caps_in p.caps) bound s r) then 0 else count_of p.supports s r)) where
  seen_swept : (s : ℕ) (w : When) → seen goals s w ≡ kept_rows (steps_in p) (caps_in p.caps) (max b bound) E s
  seen_swept s w =
      let keep = keeps (caps_in p.caps) bound s in
      canon_one exact_rows (seen goals s w) (filter keep (seen p.goals s w)) (seen_rises goals s w)
      (Rising-filter exact_rows keep (seen p.goals s w) (seen_rises p.goals s w))
      (λ r. has_seen goals s w r ∙ ap (seen_as w) (marks s r) ∙ seen_cond w (keep r) (mark_at p.goals s r)
      ∙ ap (λ x. keep r && x) (sym (has_seen p.goals s w r)) ∙ sym (has-filter exact_rows keep r (seen p.goals s w)))
      ∙ ap (filter keep) (seen_is p b E h s w)
      ∙ swept_greater ((caps_in p.caps).cap s) ((caps_in p.caps).reach s) (step_rows (steps_in p) s E) b bound

  counts_swept : (s : ℕ) (r : Row) → count_of supports s r ≡ kept_count (steps_in p) (caps_in p.caps) (max b bound) E s r
  counts_swept s r =
      let n = times r (supports_at (steps_in p) E s) in
      let there = keeps (caps_in p.caps) bound s r in
      let had : has_goal p.goals s r ≡ nat_lt 0 (kept_count (steps_in p) (caps_in p.caps) b E s r) =
      held_is p b E h s r ∙ (kept_held (steps_in p) h.workable.lower E (caps_in p.caps) b s).has r in
      counts s r
      ∙ (λ i. if had i && not there then 0 else h.rows.counts s r i)
      ∙ count_swept (caps_in p.caps) b bound s (keeps (caps_in p.caps) b s r) there n
      ∙ ap (λ x. if x then n else 0) (keeps_both (caps_in p.caps) b bound s r)

  counts_small : (s : ℕ) (r : Row) → count_of supports s r < 2 ^ 128
  counts_small s r =
      subst (λ n. n < 2 ^ 128) (sym (counts s r)) (at (has_goal p.goals s r && not (keeps (caps_in p.caps) bound s r)))
    where
      at : (x : Bool) → (if x then 0 else count_of p.supports s r) < 2 ^ 128
      at true = omega arith
      at false = h.rows.small s r

  pub swept_holds : (expiries : Expiries)
      → Holds (hand (record p { goals = goals; supports = supports; expiries = expiries })) (max b bound) E
  swept_holds expiries = record {
    workable = h.workable;
    rows = record {
      before = λ s. seen_swept s Before;
      after = λ s. seen_swept s After;
      counts = counts_swept;
      small = counts_small;
    };
  }

  pub swept_due : (expiries : Expiries) → Follows (caps_in p.caps) (has_goal goals) expiries
      → IsDue (record p { goals = goals; supports = supports; expiries = expiries }) (max b bound) E
  swept_due expiries f =
      let new : Parts = record p { goals = goals; supports = supports; expiries = expiries } in
      goals_due new (max b bound) E (swept_holds expiries) f

pub swept_ready : (p : Parts) (goals : GoalStore) (supports : Supports) (expiries : Expiries) → SamePlan p.goals goals → IsReady p
    → IsReady (record p { goals = goals; supports = supports; expiries = expiries })
swept_ready p goals supports expiries plan ready = record {
  ways = subst (λ ixs. AreWays ixs (caps_in p.caps) (steps_in p) p.ways.items) (sym plan.1) ready.ways;
  planned = ready.planned;
  indexed = plan.1 ∙ ready.indexed;
  stored = plan.0 ∙ ready.stored;
  listed = ready.listed;
  few = ready.few;
  none = ready.none;
}
