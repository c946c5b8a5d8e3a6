-- The rows of steps over events on spans are on spans, and partners lie in the ranges of their operator.
use Rattle.std.specs.Prelude.{ℕ, ◌≡◌, ◌<◌, refl, true, cond, List, [], ◌∷◌}
use Rattle.std.specs.List.{filter}
use Rattle.std.proofs.Common.{ap, ◌∙◌, arith, subst}
use Rattle.std.proofs.lemmas.Bool.Decides.{nat_tests}
use Rattle.ordered_lists.specs.Lists.{Each, Each-filter_passes}
use Rattle.event_model.specs.Events.{span_of}
use Rattle.event_model.specs.Spans.{PlainSpan}
use Rattle.event_model.specs.declared.events.Event.{Event}
use Rattle.event_model.specs.declared.events.TheConstants.{TIME_LIMIT}
use Rattle.event_model.specs.declared.operators.Op.{Op}
use Rattle.event_model.specs.declared.operators.Op.TheVariants.{Seq, And, Par, Equals, Meets, During, Starts, Finishes}
use Rattle.interval_ops.specs.Operators.{IsSpan, pairs, partner_range, in_range}
use Rattle.interval_ops.specs.declared.ranges.Side.TheVariants.{Left, Right}
use Rattle.ev_bind.specs.declared.rows.Row.{Row}
use Rattle.rule_ast.specs.PlainPlans.{PlainStep}
use Rattle.pattern_meaning.proofs.Eachs.{Each-more}
use Rattle.step_meaning.specs.Cuts.{Goes, RowGoes, AreOnSpans, ends_before, ending_is_cut, cut_events, goes-step_rows, step_rows_cut}
use Rattle.step_meaning.specs.StepRows.{step_rows}
use Rattle.change_meaning.specs.Moved.{AreSpans}

-- the row is on a span
abbrev pub OnSpan : Row → Type 0
OnSpan r = IsSpan r.span

pub goes : (E : List Event) → AreSpans E → AreOnSpans E
goes E a = Each-more (λ e. IsSpan (span_of e)) (λ e. Goes (span_of e)) (λ e h. h.0) E a

all_early : (E : List Event) → AreSpans E → cut_events (ends_before TIME_LIMIT) E ≡ E
all_early [] a = refl
all_early (e ∷ E) a =
    let early : ends_before TIME_LIMIT (span_of e) ≡ true = grind (arith, nat_tests, a.0.1) in
    ap (λ b. cond b (e ∷ cut_events (ends_before TIME_LIMIT) E) (cut_events (ends_before TIME_LIMIT) E)) early
    ∙ ap (λ l. e ∷ l) (all_early E a.1)

module _ (E : List Event) (a : AreSpans E) (steps : List PlainStep) (i : ℕ) where
  all_pass : filter (λ r. ends_before TIME_LIMIT r.span) (step_rows steps i E) ≡ step_rows steps i E
  all_pass =
      step_rows_cut (ends_before TIME_LIMIT) (ending_is_cut TIME_LIMIT) E (goes E a) steps i ∙ ap (step_rows steps i) (all_early E a)

  -- each row of a step is on a span
  pub rows_on_spans : Each OnSpan (step_rows steps i E)
  rows_on_spans =
      Each-more (λ r. RowGoes r × (ends_before TIME_LIMIT r.span ≡ true)) OnSpan
      (λ r h. (h.0, let lt : r.span.end < TIME_LIMIT = grind (arith, nat_tests, h.1) in lt)) (step_rows steps i E)
      (subst (λ l. Each (λ r. RowGoes r × (ends_before TIME_LIMIT r.span ≡ true)) l) all_pass
      (Each-filter_passes RowGoes (λ r. ends_before TIME_LIMIT r.span) (step_rows steps i E) (goes-step_rows E (goes E a) steps i)))

-- ---- ranges

pub in_left_range : (op : Op) (x y : PlainSpan) → IsSpan x → IsSpan y → pairs op x y ≡ true → in_range (partner_range op Left x) y ≡ true
in_left_range Seq x y a b h = grind (arith, nat_tests)
in_left_range And x y a b h = grind (arith, nat_tests)
in_left_range Par x y a b h = grind (arith, nat_tests)
in_left_range Equals x y a b h = grind (arith, nat_tests)
in_left_range Meets x y a b h = grind (arith, nat_tests)
in_left_range During x y a b h = grind (arith, nat_tests)
in_left_range Starts x y a b h = grind (arith, nat_tests)
in_left_range Finishes x y a b h = grind (arith, nat_tests)

pub in_right_range : (op : Op) (x y : PlainSpan) → IsSpan x → IsSpan y → pairs op x y ≡ true → in_range (partner_range op Right y) x ≡ true
in_right_range Seq x y a b h = grind (arith, nat_tests)
in_right_range And x y a b h = grind (arith, nat_tests)
in_right_range Par x y a b h = grind (arith, nat_tests)
in_right_range Equals x y a b h = grind (arith, nat_tests)
in_right_range Meets x y a b h = grind (arith, nat_tests)
in_right_range During x y a b h = grind (arith, nat_tests)
in_right_range Starts x y a b h = grind (arith, nat_tests)
in_right_range Finishes x y a b h = grind (arith, nat_tests)
