-- A row keeps its presence and its count where the events that pass a cut stay, if its span passes: so a row that ends below a bound
-- keeps them where only events at or after the bound change.
use Rattle.std.specs.Prelude.{ℕ, ◌≡◌, ◌<◌, Bool, true, ◌&&◌, List}
use Rattle.std.proofs.Common.{ap, sym, ◌∙◌}
use Rattle.std.proofs.lemmas.Bool.{lt-ltb}
use Rattle.ordered_lists.specs.Canon.{has, has-filter}
use Rattle.event_model.specs.Spans.{PlainSpan}
use Rattle.event_model.specs.declared.events.Event.{Event}
use Rattle.ev_bind.specs.Rows.{row_cmp, exact_rows}
use Rattle.ev_bind.specs.declared.rows.Row.{Row}
use Rattle.rule_ast.specs.PlainPlans.{PlainStep}
use Rattle.step_meaning.specs.StepRows.{step_rows, step_supports, times, count}
use Rattle.step_meaning.specs.Counting.{times-filter}
use Rattle.step_meaning.specs.Cuts.{AreOnSpans, IsCut, ends_before, ending_is_cut, cut, cut_events, step_rows_cut, step_supports_cut}

module _ (t : PlainSpan → Bool) (is_cut : IsCut t) (E F : List Event) (E_on_spans : AreOnSpans E) (F_on_spans : AreOnSpans F)
    (same : cut_events t E ≡ cut_events t F) (r : Row) (passes : t r.span ≡ true) where
  has_cut : (rows : List Row) → has row_cmp r rows ≡ has row_cmp r (cut t rows)
  has_cut rows = sym (has-filter exact_rows (λ r. t r.span) r rows ∙ ap (λ b. b && has row_cmp r rows) passes)

  pub presence_stays : (steps : List PlainStep) (i : ℕ) → has row_cmp r (step_rows steps i E) ≡ has row_cmp r (step_rows steps i F)
  presence_stays steps i =
      has_cut (step_rows steps i E)
      ∙ ap (has row_cmp r) (step_rows_cut t is_cut E E_on_spans steps i ∙ ap (step_rows steps i) same
      ∙ sym (step_rows_cut t is_cut F F_on_spans steps i))
      ∙ sym (has_cut (step_rows steps i F))

  pub count_stays : (steps : List PlainStep) (s : PlainStep) → count steps s r E ≡ count steps s r F
  count_stays steps s =
      times-filter (λ r. t r.span) r passes (step_supports steps s E)
      ∙ ap (times r) (step_supports_cut t is_cut E E_on_spans steps s ∙ ap (step_supports steps s) same
      ∙ sym (step_supports_cut t is_cut F F_on_spans steps s))
      ∙ sym (times-filter (λ r. t r.span) r passes (step_supports steps s F))

-- ---- below a bound

-- the events below the bound are the same
abbrev pub IsSameBelow : ℕ → List Event → List Event → Type 0
IsSameBelow b E F = cut_events (ends_before b) E ≡ cut_events (ends_before b) F

module _ (b : ℕ) (E F : List Event) (E_on_spans : AreOnSpans E) (F_on_spans : AreOnSpans F) (same : IsSameBelow b E F)
    (r : Row) (ended : r.span.end < b) where
  -- a row that ends before it is there as before
  pub past_presence : (steps : List PlainStep) (i : ℕ) → has row_cmp r (step_rows steps i E) ≡ has row_cmp r (step_rows steps i F)
  past_presence = presence_stays (ends_before b) (ending_is_cut b) E F E_on_spans F_on_spans same r (lt-ltb r.span.end b ended)

  -- and has as many supports
  pub past_count : (steps : List PlainStep) (s : PlainStep) → count steps s r E ≡ count steps s r F
  past_count = count_stays (ends_before b) (ending_is_cut b) E F E_on_spans F_on_spans same r (lt-ltb r.span.end b ended)
