-- Kept rows are made of kept rows: what a plan forgets at a bound has no part in a row that may still come, go or be counted.
use Rattle.std.specs.Prelude.{ℕ, ◌≡◌, ◌-◌, ◌≤◌, max, nat_le, refl, Bool, true, false, cond, ◌&&◌, ◌||◌, Some, List}
use Rattle.std.specs.List.{filter}
use Rattle.std.proofs.Common.{ap, sym, ◌∙◌, arith}
use Rattle.std.proofs.lemmas.Bool.{true≢false, and_parts}
use Rattle.std.proofs.lemmas.Bool.Decides.{nat_tests}
use Rattle.ordered_lists.specs.Lists.{Each, Each-filter, filter-filter}
use Rattle.ordered_lists.specs.Canon.{has, filter-canon}
use Rattle.event_model.specs.declared.events.Event.{Event}
use Rattle.event_model.specs.Events.{span_of}
use Rattle.event_model.specs.Spans.{PlainSpan}
use Rattle.ev_bind.specs.Rows.{row_cmp, exact_rows}
use Rattle.ev_bind.specs.declared.rows.Row.{Row}
use Rattle.rule_ast.specs.PlainPlans.{PlainStep, Minus, PlainPlan}
use Rattle.pattern_meaning.specs.PatternRows.{rows_of}
use Rattle.row_changes.specs.declared.caps.Reach.{Reach}
use Rattle.row_changes.specs.Kept.{under, within, kept}
use Rattle.step_meaning.specs.StepRows.{step_at, supports, step_rows, times, count}
use Rattle.step_meaning.specs.Counting.{times-filter}
use Rattle.step_meaning.specs.Operands.{AreLower, rows_of_supports}
use Rattle.step_meaning.specs.Cuts.{RowGoes, goes-step_rows, cut, cut_events}
use Rattle.horizon_meaning.specs.Lengths.{Length, within_less}
use Rattle.horizon_meaning.specs.Caps.{operands, uses, seeks, below, cap_of, keeps, kept_rows}
use Rattle.horizon_meaning.specs.Users.{or_left, or_right, each_among, supports_of_operands}
use Rattle.horizon_meaning.specs.Fits.{AreSpans, on_spans, Fits, step_rows_fit}
use Rattle.horizon_meaning.specs.Holds.{user_cap, user_reach}
use Rattle.horizon_meaning.specs.Loss.{recent, live, near, needs, filter_under, filter_itself, Any, anything, chain_rows, chain_near, has_near, live_is_near, no_loss}

both : (a b : Bool) → a ≡ true → b ≡ true → (a && b) ≡ true
both a b e f = (λ i. e i && b) ∙ f

-- ---- a later bound keeps less

kept_sooner : (cap : Length) (reach : Reach) (b c : ℕ) (s : PlainSpan) → b ≤ c → kept cap reach c s ≡ true → kept cap reach b s ≡ true
kept_sooner cap reach b c s l k = at (under cap (s.end - s.start)) k
  where
    less : b - s.start ≤ c - s.start
    less = omega (arith, l)

    ends : (x : Bool) → within reach (b - s.start) ≡ x → (within reach (c - s.start) ≡ true → x ≡ true)
        → (nat_le c s.end || within reach (c - s.start)) ≡ true → (nat_le b s.end || x) ≡ true
    ends true w f g = or_right (nat_le b s.end) true refl
    ends false w f g = early (nat_le c s.end) refl (within reach (c - s.start)) f g
      where
        early : (y : Bool) → nat_le c s.end ≡ y → (z : Bool) → (z ≡ true → false ≡ true) → (y || z) ≡ true
            → (nat_le b s.end || false) ≡ true
        early true p z q g = grind (arith, nat_tests)
        early false p z q g = absurd (true≢false (sym (q g)))

    at : (t : Bool) → (t && (nat_le c s.end || within reach (c - s.start))) ≡ true
        → (t && (nat_le b s.end || within reach (b - s.start))) ≡ true
    at true g = ends (within reach (b - s.start)) refl (within_less reach (c - s.start) (b - s.start) less) g
    at false g = g

-- the rows that a cap and a reach keep at a bound
abbrev pub kept_of : Length → Reach → ℕ → List Row → List Row
kept_of cap reach b rows = filter (λ r. kept cap reach b r.span) rows

module _ (cap : Length) (reach : Reach) (rows : List Row) where
  -- of what is kept at a bound, what a later bound keeps
  pub swept : (b c : ℕ) → b ≤ c → kept_of cap reach c (kept_of cap reach b rows) ≡ kept_of cap reach c rows
  swept b c l =
      filter_under Any (λ r. kept cap reach c r.span) (λ r. kept cap reach b r.span)
      (λ r _ h. kept_sooner cap reach b c r.span l h) rows (anything rows)

  -- what any bound keeps: the greater of the two decides
  pub swept_greater : (b c : ℕ) → kept_of cap reach c (kept_of cap reach b rows) ≡ kept_of cap reach (max b c) rows
  swept_greater b c = at (nat_le b c) refl
    where
      at : (t : Bool) → nat_le b c ≡ t → kept_of cap reach c (kept_of cap reach b rows) ≡ kept_of cap reach (max b c) rows
      at true e =
          let l : b ≤ c = grind (arith, nat_tests) in
          let m : c ≡ max b c = omega (arith, l) in
          swept b c l ∙ ap (λ d. kept_of cap reach d rows) m
      at false e =
          let l : c ≤ b = grind (arith, nat_tests) in
          let m : b ≡ max b c = omega (arith, l) in
          filter-filter (λ r. kept cap reach c r.span) (λ r. kept cap reach b r.span) rows
          ∙ swept c b l
          ∙ ap (λ d. kept_of cap reach d rows) m

-- ---- kept rows are made of kept rows

-- a row is no longer than the cap of its step
abbrev pub in_cap : PlainPlan → ℕ → PlainSpan → Bool
in_cap plan k s = under (cap_of plan k) (s.end - s.start)

-- a row of step k is no longer than its cap, and ends at the bound or later
abbrev pub counts_at : PlainPlan → ℕ → ℕ → PlainSpan → Bool
counts_at plan b k = live (cap_of plan k) b

module _ (plan : PlainPlan) (low : AreLower plan.steps) (b : ℕ) where
  module _ (k : ℕ) (s : PlainStep) (e : step_at plan.steps k ≡ Some s) where
    -- what a step needs of an operand is kept
    pub needs_kept : (i : ℕ) → uses i s ≡ true → (r : Row) → Fits (below plan.steps i) r
        → needs s (cap_of plan k) b r.span ≡ true → keeps plan b i r ≡ true
    needs_kept i u r f h = at (seeks s) refl h
      where
        capped : under (cap_of plan k) (r.span.end - r.span.start) ≡ true → under (cap_of plan i) (r.span.end - r.span.start) ≡ true
        capped h = user_cap plan low k s e i u (r.span.end - r.span.start) h f.1

        at : (c : Bool) → seeks s ≡ c → cond c (near (cap_of plan k) b r.span) (live (cap_of plan k) b r.span) ≡ true
            → keeps plan b i r ≡ true
        at true c h =
            let p = and_parts (under (cap_of plan k) (r.span.end - r.span.start)) (under (cap_of plan k) (b - r.span.start)) h in
            both _ _ (capped p.0)
            (or_right (nat_le b r.span.end) _ (user_reach plan low k s e i u c (b - r.span.start) p.1))
        at false c h =
            let p = and_parts (under (cap_of plan k) (r.span.end - r.span.start)) (nat_le b r.span.end) h in
            both _ _ (capped p.0) (or_left (nat_le b r.span.end) _ p.1)

    module _ (events : List Event) (spans : AreSpans events) where
      all_rows : ℕ → List Row
      all_rows i = step_rows plan.steps i events

      rows_go : (i : ℕ) → Each RowGoes (step_rows plan.steps i events)
      rows_go = goes-step_rows events (on_spans events spans) plan.steps

      kept_go : (i : ℕ) → Each RowGoes (kept_rows plan b events i)
      kept_go i = Each-filter RowGoes (keeps plan b i) (step_rows plan.steps i events) (rows_go i)

      -- what a step needs of all rows of an operand, it finds among the kept rows
      pub needed_part : (i : ℕ) → uses i s ≡ true → cut (needs s (cap_of plan k) b) (kept_rows plan b events i)
          ≡ cut (needs s (cap_of plan k) b) (step_rows plan.steps i events)
      needed_part i u =
          filter_under (Fits (below plan.steps i)) (λ r. needs s (cap_of plan k) b r.span) (keeps plan b i)
          (λ r f h. needs_kept i u r f h) (step_rows plan.steps i events) (step_rows_fit plan.steps low events spans i)

      -- The supports of a step that count are made of kept rows, and of the events that end at the bound or later.
      pub kept_no_loss : cut (counts_at plan b k) (supports events (λ i. step_rows plan.steps i events) s)
          ≡ cut (counts_at plan b k) (supports (cut_events (recent b) events) (kept_rows plan b events) s)
      kept_no_loss =
          let c = cap_of plan k in
          let F = cut_events (recent b) events in
          let part = λ (rows : ℕ → List Row) (i : ℕ). cut (needs s c b) (rows i) in
          let all = λ (i : ℕ). step_rows plan.steps i events in
          no_loss c b events all rows_go s
          ∙ ap (cut (live c b)) (supports_of_operands F (part all) (part (kept_rows plan b events)) s
          (each_among (λ i. part all i ≡ part (kept_rows plan b events) i) (operands s) (λ i u. sym (needed_part i u))))
          ∙ ap (λ G. cut (live c b) (supports G (part (kept_rows plan b events)) s))
          (sym (filter_itself (λ (v : Event). recent b (span_of v)) events))
          ∙ sym (no_loss c b F (kept_rows plan b events) kept_go s)

      -- over the kept rows it is the same whether older events are there or not
      pub kept_supports : cut (counts_at plan b k) (supports events (kept_rows plan b events) s)
          ≡ cut (counts_at plan b k) (supports (cut_events (recent b) events) (kept_rows plan b events) s)
      kept_supports =
          let c = cap_of plan k in
          let F = cut_events (recent b) events in
          no_loss c b events (kept_rows plan b events) kept_go s
          ∙ ap (λ G. cut (live c b) (supports G (λ i. cut (needs s c b) (kept_rows plan b events i)) s))
          (sym (filter_itself (λ (v : Event). recent b (span_of v)) events))
          ∙ sym (no_loss c b F (kept_rows plan b events) kept_go s)

      -- the rows of a step that count
      pub live_rows : cut (counts_at plan b k) (step_rows plan.steps k events)
          ≡ rows_of (cut (counts_at plan b k) (supports (cut_events (recent b) events) (kept_rows plan b events) s))
      live_rows =
          let p = λ (r : Row). counts_at plan b k r.span in
          ap (filter p) (rows_of_supports events plan.steps low k s e)
          ∙ filter-canon exact_rows p (supports events (λ i. step_rows plan.steps i events) s)
          ∙ ap rows_of kept_no_loss

      -- and how many supports they have
      pub live_count : (r : Row) → counts_at plan b k r.span ≡ true
          → count plan.steps s r events ≡ times r (supports (cut_events (recent b) events) (kept_rows plan b events) s)
      live_count r h =
          let p = λ (r : Row). counts_at plan b k r.span in
          times-filter p r h (supports events (λ i. step_rows plan.steps i events) s)
          ∙ ap (times r) kept_no_loss
          ∙ sym (times-filter p r h (supports (cut_events (recent b) events) (kept_rows plan b events) s))

  -- A chain that takes away a row that counts is made of kept rows.
  pub chain_kept : (k j f i l : ℕ) → step_at plan.steps k ≡ Some (Minus j f i l) → (events : List Event) → AreSpans events
      → (r : Row) → RowGoes r → counts_at plan b k r.span ≡ true
      → has row_cmp r (chain_rows (step_rows plan.steps f events) (step_rows plan.steps i events) (step_rows plan.steps l events))
      ≡ has row_cmp r (chain_rows (kept_rows plan b events f) (kept_rows plan b events i) (kept_rows plan b events l))
  chain_kept k j f i l e events spans r g h =
      let s = Minus j f i l in
      let c = cap_of plan k in
      let all = λ (x : ℕ). step_rows plan.steps x events in
      let held = kept_rows plan b events in
      let go = rows_go k s e events spans in
      let keep_go = kept_go k s e events spans in
      let same = each_among (λ x. cut (near c b) (held x) ≡ cut (near c b) (all x)) (operands s)
      (λ x u. needed_part k s e events spans x u) in
      has_near c b (chain_rows (all f) (all i) (all l)) (chain_rows (held f) (held i) (held l))
      (chain_near c b (all f) (all i) (all l) (go f) (go i) (go l)
      ∙ (λ m. cut (near c b) (chain_rows (sym same.1.0 m) (sym same.1.1.0 m) (sym same.1.1.1.0 m)))
      ∙ sym (chain_near c b (held f) (held i) (held l) (keep_go f) (keep_go i) (keep_go l)))
      r (live_is_near c b r.span g h)
