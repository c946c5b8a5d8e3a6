-- The kept rows with their counts suffice alone: two sets of events with the same kept rows and counts, changed alike, have the same
-- kept rows and counts again. So nothing else of the past has a part in what follows.
use Rattle.std.specs.Prelude.{ℕ, ◌≡◌, ◌+◌, ◌-◌, ◌<◌, nat_le, refl, Bool, true, false, cond, ◌&&◌, ◌||◌, Option, Some, None, List, ◌++◌}
use Rattle.std.specs.List.{filter, flat_map}
use Rattle.std.proofs.Common.{ap, sym, ◌∙◌, arith}
use Rattle.std.proofs.lemmas.Bool.{and_parts}
use Rattle.std.proofs.lemmas.List.Elements.{filter-append}
use Rattle.ordered_lists.specs.Lists.{Each, total-append}
use Rattle.ordered_lists.specs.Canon.{has, canon_one, Rising-canon, Rising-filter, has-filter, filter-canon}
use Rattle.event_model.specs.declared.atoms.NameArity.{NameArity}
use Rattle.event_model.specs.declared.events.Event.{Event}
use Rattle.ev_bind.specs.Rows.{row_cmp, exact_rows}
use Rattle.ev_bind.specs.declared.rows.Row.{Row}
use Rattle.rule_ast.specs.PlainPlans.{PlainStep, Named, Leaf, Join, Either, Where, Exact, Within, Minus, Head, PlainPlan}
use Rattle.pattern_meaning.specs.PatternRows.{rows_of, events_of}
use Rattle.row_changes.specs.Kept.{under, within}
use Rattle.step_meaning.specs.StepRows.{step_at, supports, times, count}
use Rattle.step_meaning.specs.Counting.{times_has, times-filter}
use Rattle.step_meaning.specs.Operands.{AreLower}
use Rattle.step_meaning.specs.Cuts.{ends_before, cut, cut_events}
use Rattle.step_meaning.specs.PastRows.{IsSameBelow}
use Rattle.horizon_meaning.specs.Caps.{operands, cap_of, reach_of, keeps, kept_rows}
use Rattle.horizon_meaning.specs.Users.{each_lower, each_among, supports_of_operands, by_lower}
use Rattle.horizon_meaning.specs.Fits.{AreSpans, no_rows}
use Rattle.horizon_meaning.specs.Loss.{recent, events_loss}
use Rattle.horizon_meaning.specs.NoLoss.{counts_at, live_count}
use Rattle.horizon_meaning.specs.Renewed.{kept_renewed, count_renewed}

-- only the step of a name looks at events
supports_events : (t : Row → Bool) (F H : List Event) (at : ℕ → List Row) (s : PlainStep)
    → ((n : NameArity) (heads : List ℕ) → s ≡ Named n heads
    → filter t (rows_of (events_of F n)) ≡ filter t (rows_of (events_of H n)))
    → filter t (supports F at s) ≡ filter t (supports H at s)
supports_events t F H at (Named n heads) h =
    filter-append t (rows_of (events_of F n)) (flat_map at heads)
    ∙ ap (λ l. l ++ filter t (flat_map at heads)) (h n heads refl)
    ∙ sym (filter-append t (rows_of (events_of H n)) (flat_map at heads))
supports_events t F H at (Leaf of p) h = refl
supports_events t F H at (Join op l r) h = refl
supports_events t F H at (Either l r) h = refl
supports_events t F H at (Where of c) h = refl
supports_events t F H at (Exact of q) h = refl
supports_events t F H at (Within of q) h = refl
supports_events t F H at (Minus j b i a) h = refl
supports_events t F H at (Head of head) h = refl

-- a change of the rows of events: whether a row is one of a name's events afterwards, from whether it was one before
abbrev pub RowChange : Type 0
RowChange = NameArity → Row → Bool → Bool

-- the events of each name are changed so
abbrev pub AreRowsChanged : RowChange → List Event → List Event → Type 0
AreRowsChanged ch before after =
    (n : NameArity) (q : Row) → has row_cmp q (rows_of (events_of after n)) ≡ ch n q (has row_cmp q (rows_of (events_of before n)))

-- two sets of events have the same kept rows, with the same counts
pub record IsAlike (plan : PlainPlan) (b : ℕ) (E G : List Event) : Type 0 where
  pub rows : (k : ℕ) → kept_rows plan b E k ≡ kept_rows plan b G k
  pub counts : (k : ℕ) (s : PlainStep) → step_at plan.steps k ≡ Some s → (r : Row) → keeps plan b k r ≡ true
      → count plan.steps s r E ≡ count plan.steps s r G

module _ (plan : PlainPlan) (low : AreLower plan.steps) (b : ℕ) where
  late_events : (E : List Event) (k : ℕ) (n : NameArity) → filter (λ r. counts_at plan b k r.span) (rows_of (events_of E n))
      ≡ filter (λ r. counts_at plan b k r.span) (rows_of (events_of (cut_events (recent b) E) n))
  late_events E k n =
      let p = λ (r : Row). counts_at plan b k r.span in
      filter-canon exact_rows p (events_of E n)
      ∙ ap rows_of (events_loss (cap_of plan k) b E n)
      ∙ sym (filter-canon exact_rows p (events_of (cut_events (recent b) E) n))

  -- the count of a row of a name that counts: whether its event is there, and the heads that have it
  named_count : (E : List Event) → AreSpans E → (k : ℕ) (n : NameArity) (heads : List ℕ) (s : PlainStep)
      → step_at plan.steps k ≡ Some s → s ≡ Named n heads → (r : Row) → counts_at plan b k r.span ≡ true
      → times r (rows_of (events_of E n)) + times r (flat_map (kept_rows plan b E) heads) ≡ count plan.steps s r E
  named_count E w k n heads s e is r h =
      let p = λ (r : Row). counts_at plan b k r.span in
      let F = cut_events (recent b) E in
      let held = kept_rows plan b E in
      let a : times r (rows_of (events_of E n)) ≡ times r (rows_of (events_of F n)) =
      times-filter p r h (rows_of (events_of E n)) ∙ ap (times r) (late_events E k n)
      ∙ sym (times-filter p r h (rows_of (events_of F n))) in
      let c : count plan.steps s r E ≡ times r (rows_of (events_of F n) ++ flat_map held heads) =
      live_count plan low b k s e E w r h ∙ ap (λ x. times r (supports F held x)) is in
      let d : times r (rows_of (events_of F n) ++ flat_map held heads) ≡ times r (rows_of (events_of F n)) + times r (flat_map held heads) =
      total-append _ (rows_of (events_of F n)) (flat_map held heads) in
      omega (arith, a, c, d)

  module _ (E F G H : List Event) (E_spans : AreSpans E) (F_spans : AreSpans F) (G_spans : AreSpans G) (H_spans : AreSpans H)
      (E_past : IsSameBelow b E F) (G_past : IsSameBelow b G H) (ch : RowChange)
      (first : AreRowsChanged ch E F) (second : AreRowsChanged ch G H) (alike : IsAlike plan b E G) where
    alive_kept : (k : ℕ) (r : Row) → counts_at plan b k r.span ≡ true → keeps plan b k r ≡ true
    alive_kept k r h =
        let p = and_parts (under (cap_of plan k) (r.span.end - r.span.start)) (nat_le b r.span.end) h in
        λ i. p.0 i && (p.1 i || within (reach_of plan k) (b - r.span.start))

    -- the kept rows with their counts say which of the later events are present
    events_known : (k : ℕ) (n : NameArity) (heads : List ℕ) (s : PlainStep) → step_at plan.steps k ≡ Some s → s ≡ Named n heads
        → (r : Row) → counts_at plan b k r.span ≡ true
        → has row_cmp r (rows_of (events_of E n)) ≡ has row_cmp r (rows_of (events_of G n))
    events_known k n heads s e is r h =
        let x : times r (flat_map (kept_rows plan b E) heads) ≡ times r (flat_map (kept_rows plan b G) heads) =
        λ i. times r (flat_map (λ j. alike.rows j i) heads) in
        let y : times r (rows_of (events_of E n)) ≡ times r (rows_of (events_of G n)) =
        omega (
          arith,
          x,
          named_count E E_spans k n heads s e is r h,
          named_count G G_spans k n heads s e is r h,
          alike.counts k s e r (alive_kept k r h),
        ) in
        times_has r (rows_of (events_of E n)) ∙ ap (nat_le 1) y ∙ sym (times_has r (rows_of (events_of G n)))

    later_events : (k : ℕ) (n : NameArity) (heads : List ℕ) (s : PlainStep) → step_at plan.steps k ≡ Some s → s ≡ Named n heads
        → filter (λ r. counts_at plan b k r.span) (rows_of (events_of (cut_events (recent b) F) n))
        ≡ filter (λ r. counts_at plan b k r.span) (rows_of (events_of (cut_events (recent b) H) n))
    later_events k n heads s e is =
        let p = λ (r : Row). counts_at plan b k r.span in
        sym (late_events F k n)
        ∙ canon_one exact_rows _ _
        (Rising-filter exact_rows p _ (Rising-canon exact_rows (events_of F n)))
        (Rising-filter exact_rows p _ (Rising-canon exact_rows (events_of H n)))
        (λ q. has-filter exact_rows p q (rows_of (events_of F n))
        ∙ at q (counts_at plan b k q.span) refl
        ∙ sym (has-filter exact_rows p q (rows_of (events_of H n))))
        ∙ late_events H k n
      where
        at : (q : Row) (t : Bool) → counts_at plan b k q.span ≡ t
            → (t && has row_cmp q (rows_of (events_of F n))) ≡ (t && has row_cmp q (rows_of (events_of H n)))
        at q true h = first n q ∙ ap (ch n q) (events_known k n heads s e is q h) ∙ sym (second n q)
        at q false h = refl

    made_alike : (k : ℕ) (s : PlainStep) → step_at plan.steps k ≡ Some s
        → Each (λ i. kept_rows plan b F i ≡ kept_rows plan b H i) (operands s)
        → cut (counts_at plan b k) (supports (cut_events (recent b) F) (kept_rows plan b F) s)
        ≡ cut (counts_at plan b k) (supports (cut_events (recent b) H) (kept_rows plan b H) s)
    made_alike k s e h =
        let p = λ (r : Row). counts_at plan b k r.span in
        supports_events p (cut_events (recent b) F) (cut_events (recent b) H) (kept_rows plan b F) s
        (λ n heads is. later_events k n heads s e is)
        ∙ ap (filter p) (supports_of_operands (cut_events (recent b) H) (kept_rows plan b F) (kept_rows plan b H) s h)

    rows_at : (k : ℕ) → ((i : ℕ) → i < k → kept_rows plan b F i ≡ kept_rows plan b H i) → (o : Option PlainStep)
        → step_at plan.steps k ≡ o → kept_rows plan b F k ≡ kept_rows plan b H k
    rows_at k lower (Some s) e =
        let made = made_alike k s e (each_lower (λ i. kept_rows plan b F i ≡ kept_rows plan b H i) k s (low k s e) lower) in
        kept_renewed plan low b E F E_spans F_spans E_past k s e
        ∙ (λ i. rows_of (made i ++ cut (ends_before b) (alike.rows k i)))
        ∙ sym (kept_renewed plan low b G H G_spans H_spans G_past k s e)
    rows_at k lower None e = ap (filter (keeps plan b k)) (no_rows plan.steps F k e ∙ sym (no_rows plan.steps H k e))

    -- after the change the same rows are kept ..
    pub rows_alone : (k : ℕ) → kept_rows plan b F k ≡ kept_rows plan b H k
    rows_alone =
        by_lower (λ k. kept_rows plan b F k ≡ kept_rows plan b H k) (λ k lower. rows_at k lower (step_at plan.steps k) refl)

    -- .. with the same counts
    pub counts_alone : (k : ℕ) (s : PlainStep) → step_at plan.steps k ≡ Some s → (r : Row) → keeps plan b k r ≡ true
        → count plan.steps s r F ≡ count plan.steps s r H
    counts_alone k s e r h =
        count_renewed plan low b E F E_spans F_spans E_past k s e r h
        ∙ at (recent b r.span) refl
        ∙ sym (count_renewed plan low b G H G_spans H_spans G_past k s e r h)
      where
        at : (t : Bool) → recent b r.span ≡ t
            → cond t (times r (supports (cut_events (recent b) F) (kept_rows plan b F) s)) (count plan.steps s r E)
            ≡ cond t (times r (supports (cut_events (recent b) H) (kept_rows plan b H) s)) (count plan.steps s r G)
        at true d =
            let lives : counts_at plan b k r.span ≡ true =
            λ i. (and_parts (under (cap_of plan k) (r.span.end - r.span.start)) _ h).0 i && d i in
            times-filter (λ r. counts_at plan b k r.span) r lives (supports (cut_events (recent b) F) (kept_rows plan b F) s)
            ∙ ap (times r) (made_alike k s e (each_among (λ i. kept_rows plan b F i ≡ kept_rows plan b H i) (operands s)
            (λ i _. rows_alone i)))
            ∙ sym (times-filter (λ r. counts_at plan b k r.span) r lives (supports (cut_events (recent b) H) (kept_rows plan b H) s))
        at false d = alike.counts k s e r h

    pub alike_again : IsAlike plan b F H
    alike_again = record { rows = rows_alone; counts = counts_alone }
