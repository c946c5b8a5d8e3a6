-- What is kept suffices: after a change of events that end at a bound or later, the kept rows and their counts are made of those before
-- it. And the change of a step that gives out what it has is the change of its kept rows.
use Rattle.std.specs.Prelude.{ℕ, ◌≡◌, ◌-◌, ◌<◌, nat_le, refl, Bool, true, false, cond, not, ◌&&◌, ◌||◌, Option, Some, None, List, ◌++◌}
use Rattle.std.specs.List.{filter}
use Rattle.std.proofs.Common.{ap, sym, ◌∙◌, arith, subst}
use Rattle.std.proofs.lemmas.Bool.{true≢false, and_parts}
use Rattle.std.proofs.lemmas.Bool.Decides.{nat_tests}
use Rattle.ordered_lists.specs.Lists.{filter-filter}
use Rattle.ordered_lists.specs.Canon.{has, Rising, canon_one, Rising-canon, Rising-filter, has-filter, has-append, has-canon}
use Rattle.ordered_lists.specs.Members.{Each_has}
use Rattle.event_model.specs.declared.events.Event.{Event}
use Rattle.event_model.specs.Spans.{PlainSpan}
use Rattle.ev_bind.specs.Rows.{row_cmp, exact_rows}
use Rattle.ev_bind.specs.declared.rows.Row.{Row}
use Rattle.rule_ast.specs.PlainPlans.{PlainStep, PlainPlan}
use Rattle.pattern_meaning.specs.PatternRows.{rows_of}
use Rattle.row_changes.specs.declared.caps.Reach.{Reach}
use Rattle.row_changes.specs.Kept.{under, within, kept}
use Rattle.row_changes.specs.Changes.{fresh}
use Rattle.step_meaning.specs.StepRows.{step_at, supports, step_rows, times, count}
use Rattle.step_meaning.specs.Operands.{AreLower, rows_of_supports}
use Rattle.step_meaning.specs.Cuts.{ends_before, ending_is_cut, cut, cut_events, step_rows_cut}
use Rattle.step_meaning.specs.PastRows.{IsSameBelow, past_count, past_presence}
use Rattle.horizon_meaning.specs.Lengths.{Length}
use Rattle.horizon_meaning.specs.Caps.{is_among, below, cap_of, reach_of, keeps, kept_rows}
use Rattle.horizon_meaning.specs.Fits.{AreSpans, on_spans, Fits, step_rows_fit, no_rows}
use Rattle.horizon_meaning.specs.Holds.{shown_cap}
use Rattle.horizon_meaning.specs.Loss.{recent, live, filter_under}
use Rattle.horizon_meaning.specs.NoLoss.{counts_at, live_rows, live_count}

pub step_rows_rise : (steps : List PlainStep) → AreLower steps → (events : List Event) (k : ℕ) → Rising row_cmp (step_rows steps k events)
step_rows_rise steps low events k = at (step_at steps k) refl
  where
    at : (o : Option PlainStep) → step_at steps k ≡ o → Rising row_cmp (step_rows steps k events)
    at (Some s) e =
        subst (Rising row_cmp) (sym (rows_of_supports events steps low k s e))
        (Rising-canon exact_rows (supports events (λ j. step_rows steps j events) s))
    at None e = subst (Rising row_cmp) (sym (no_rows steps events k e)) tt

pub ends_sooner : (b : ℕ) (s : PlainSpan) → nat_le b s.end ≡ false → ends_before b s ≡ true
ends_sooner b s p = grind (arith, nat_tests)

-- a kept row ends at the bound or later, or before it
kept_parts : (cap : Length) (reach : Reach) (b : ℕ) (s : PlainSpan)
    → kept cap reach b s ≡ (live cap b s || (ends_before b s && kept cap reach b s))
kept_parts cap reach b s = at (under cap (s.end - s.start)) (nat_le b s.end) refl (within reach (b - s.start))
  where
    none : (t : Bool) → false ≡ (t && false)
    none true = refl
    none false = refl

    at : (u r : Bool) → nat_le b s.end ≡ r → (w : Bool)
        → (u && (r || w)) ≡ ((u && r) || (ends_before b s && (u && (r || w))))
    at true true p w = refl
    at true false p w = sym (ap (λ t. t && w) (ends_sooner b s p))
    at false r p w = none (ends_before b s)

shuffle : (k l o h : Bool) → k ≡ (l || (o && k)) → (k && h) ≡ ((l && h) || (o && (k && h)))
shuffle true true o h e = at h
  where
    none : (t : Bool) → false ≡ (t && false)
    none true = refl
    none false = refl

    at : (h : Bool) → h ≡ (h || (o && h))
    at true = refl
    at false = none o
shuffle true false true h e = refl
shuffle true false false h e = absurd (true≢false e)
shuffle false true o h e = absurd (true≢false (sym e))
shuffle false false true h e = refl
shuffle false false false h e = refl

-- the kept rows of a step after a change: the old ones as they were, and those that kept rows of its operands and recent events give
abbrev pub renewed : PlainPlan → ℕ → ℕ → PlainStep → (recents : List Event) (at : ℕ → List Row) (old : List Row) → List Row
renewed plan b k s recents at old = rows_of (cut (counts_at plan b k) (supports recents at s) ++ cut (ends_before b) old)

module _ (plan : PlainPlan) (low : AreLower plan.steps) (b : ℕ) where
  module _ (E F : List Event) (E_spans : AreSpans E) (F_spans : AreSpans F) (same : IsSameBelow b E F) where
    -- rows that end before the bound stay
    pub old_rows_stay : (i : ℕ) → cut (ends_before b) (step_rows plan.steps i E) ≡ cut (ends_before b) (step_rows plan.steps i F)
    old_rows_stay i =
        step_rows_cut (ends_before b) (ending_is_cut b) E (on_spans E E_spans) plan.steps i
        ∙ ap (step_rows plan.steps i) same
        ∙ sym (step_rows_cut (ends_before b) (ending_is_cut b) F (on_spans F F_spans) plan.steps i)

    -- and so do the kept ones among them
    pub old_kept : (k : ℕ) → cut (ends_before b) (kept_rows plan b E k) ≡ cut (ends_before b) (kept_rows plan b F k)
    old_kept k =
        filter-filter (λ r. ends_before b r.span) (keeps plan b k) (step_rows plan.steps k E)
        ∙ ap (filter (keeps plan b k)) (old_rows_stay k)
        ∙ filter-filter (keeps plan b k) (λ r. ends_before b r.span) (step_rows plan.steps k F)

    pub old_count : (k : ℕ) (s : PlainStep) (r : Row) → ends_before b r.span ≡ true → count plan.steps s r E ≡ count plan.steps s r F
    old_count k s r h =
        let ended : r.span.end < b = grind (arith, nat_tests) in
        past_count b E F (on_spans E E_spans) (on_spans F F_spans) same r ended plan.steps s

    pub kept_renewed : (k : ℕ) (s : PlainStep) → step_at plan.steps k ≡ Some s
        → kept_rows plan b F k ≡ renewed plan b k s (cut_events (recent b) F) (kept_rows plan b F) (kept_rows plan b E k)
    kept_renewed k s e =
        let R = step_rows plan.steps k F in
        let p = λ (r : Row). counts_at plan b k r.span in
        let o = λ (r : Row). ends_before b r.span in
        let S = filter p (supports (cut_events (recent b) F) (kept_rows plan b F) s) in
        let old = filter o (kept_rows plan b E k) in
        canon_one exact_rows (kept_rows plan b F k) (rows_of (S ++ old))
        (Rising-filter exact_rows (keeps plan b k) R (step_rows_rise plan.steps low F k)) (Rising-canon exact_rows (S ++ old))
        (λ q. has-filter exact_rows (keeps plan b k) q R
        ∙ shuffle (keeps plan b k q) (p q) (o q) (has row_cmp q R) (kept_parts (cap_of plan k) (reach_of plan k) b q.span)
        ∙ (λ i. sym (sym (has-canon exact_rows q S) ∙ ap (has row_cmp q) (sym (live_rows plan low b k s e F F_spans))
        ∙ has-filter exact_rows p q R) i
        || sym (ap (has row_cmp q) (old_kept k) ∙ has-filter exact_rows o q (kept_rows plan b F k)
        ∙ ap (λ t. o q && t) (has-filter exact_rows (keeps plan b k) q R)) i)
        ∙ sym (has-append exact_rows q S old)
        ∙ sym (has-canon exact_rows q (S ++ old)))

    -- the count of a kept row: over the kept rows, or as it was
    pub count_renewed : (k : ℕ) (s : PlainStep) → step_at plan.steps k ≡ Some s → (r : Row) → keeps plan b k r ≡ true
        → count plan.steps s r F
        ≡ cond (recent b r.span) (times r (supports (cut_events (recent b) F) (kept_rows plan b F) s)) (count plan.steps s r E)
    count_renewed k s e r h = at (recent b r.span) refl
      where
        in_it : under (cap_of plan k) (r.span.end - r.span.start) ≡ true
        in_it = (and_parts (under (cap_of plan k) (r.span.end - r.span.start)) _ h).0

        at : (t : Bool) → recent b r.span ≡ t → count plan.steps s r F
            ≡ cond t (times r (supports (cut_events (recent b) F) (kept_rows plan b F) s)) (count plan.steps s r E)
        at true e' = live_count plan low b k s e F F_spans r ((λ i. in_it i && recent b r.span) ∙ e')
        at false e' = sym (old_count k s r (ends_sooner b r.span e'))

    -- a change of what a step gives out is a change of its kept rows
    pub changes_shown : (k : ℕ) (s : PlainStep) → step_at plan.steps k ≡ Some s → is_among k plan.shown ≡ true
        → fresh (kept_rows plan b E k) (kept_rows plan b F k) ≡ fresh (step_rows plan.steps k E) (step_rows plan.steps k F)
    changes_shown k s e g =
        let all = λ (G : List Event). step_rows plan.steps k G in
        canon_one exact_rows _ _
        (Rising-filter exact_rows _ (kept_rows plan b F k)
        (Rising-filter exact_rows (keeps plan b k) (all F) (step_rows_rise plan.steps low F k)))
        (Rising-filter exact_rows _ (all F) (step_rows_rise plan.steps low F k))
        (λ q. has-filter exact_rows _ q (kept_rows plan b F k)
        ∙ (λ i. not (has-filter exact_rows (keeps plan b k) q (all E) i) && has-filter exact_rows (keeps plan b k) q (all F) i)
        ∙ at q (keeps plan b k q) refl (has row_cmp q (all E)) refl (has row_cmp q (all F)) refl
        ∙ sym (has-filter exact_rows _ q (all F)))
      where
        -- a row that isn't kept has ended before the bound
        is_old : (q : Row) → keeps plan b k q ≡ false → has row_cmp q (step_rows plan.steps k F) ≡ true → ends_before b q.span ≡ true
        is_old q n h = late_or (nat_le b q.span.end) refl
          where
            in_it : under (cap_of plan k) (q.span.end - q.span.start) ≡ true
            in_it =
                shown_cap plan low k s e g (q.span.end - q.span.start)
                (Each_has exact_rows (Fits (below plan.steps k)) q (step_rows plan.steps k F)
                (step_rows_fit plan.steps low F F_spans k) h).1

            late_or : (t : Bool) → nat_le b q.span.end ≡ t → ends_before b q.span ≡ true
            late_or true p = absurd (true≢false (sym (λ i. in_it i && (p i || within (reach_of plan k) (b - q.span.start))) ∙ n))
            late_or false p = ends_sooner b q.span p

        stays : (q : Row) → ends_before b q.span ≡ true
            → has row_cmp q (step_rows plan.steps k E) ≡ has row_cmp q (step_rows plan.steps k F)
        stays q h =
            let ended : q.span.end < b = grind (arith, nat_tests) in
            past_presence b E F (on_spans E E_spans) (on_spans F F_spans) same q ended plan.steps k

        at : (q : Row) (t : Bool) → keeps plan b k q ≡ t → (x : Bool) → has row_cmp q (step_rows plan.steps k E) ≡ x → (y : Bool)
            → has row_cmp q (step_rows plan.steps k F) ≡ y → (not (t && x) && (t && y)) ≡ (not x && y)
        at q true e x f y g = refl
        at q false e true f y g = refl
        at q false e false f true g = absurd (true≢false (sym g ∙ sym (stays q (is_old q e g)) ∙ f))
        at q false e false f false g = refl

  -- the rows of a step that gives out what it has are all kept, if they end at the bound or later
  pub shown_recent : (events : List Event) → AreSpans events → (k : ℕ) (s : PlainStep) → step_at plan.steps k ≡ Some s
      → is_among k plan.shown ≡ true → cut (recent b) (kept_rows plan b events k) ≡ cut (recent b) (step_rows plan.steps k events)
  shown_recent events spans k s e g =
      filter_under (Fits (below plan.steps k)) (λ r. recent b r.span) (keeps plan b k)
      (λ r f h. (λ i. shown_cap plan low k s e g (r.span.end - r.span.start) f.1 i
      && (h i || within (reach_of plan k) (b - r.span.start)))) (step_rows plan.steps k events)
      (step_rows_fit plan.steps low events spans k)
