-- Caps are sound: rows within the cap of a step are made of rows within the caps of its operands, and what a step gives out is within
-- its cap.
use Rattle.std.specs.Prelude.{ℕ, ◌≡◌, ◌-◌, refl, Bool, true, false, cond, ◌&&◌, ◌||◌, nat_le, Some, List, [], ◌∷◌}
use Rattle.std.specs.List.{filter}
use Rattle.std.proofs.Common.{ap, sym, ◌∙◌, arith}
use Rattle.std.proofs.lemmas.Bool.Decides.{nat_tests}
use Rattle.ordered_lists.specs.Lists.{Each}
use Rattle.ordered_lists.specs.Members.{filter_agree}
use Rattle.event_model.specs.declared.events.Event.{Event}
use Rattle.event_model.specs.Events.{span_of}
use Rattle.ev_bind.specs.declared.rows.Row.{Row}
use Rattle.rule_ast.specs.PlainPlans.{PlainStep, PlainPlan}
use Rattle.row_changes.specs.Kept.{within}
use Rattle.step_meaning.specs.StepRows.{step_at, supports, step_rows}
use Rattle.step_meaning.specs.Operands.{AreLower}
use Rattle.step_meaning.specs.Cuts.{cut}
use Rattle.horizon_meaning.specs.Caps.{operands, is_among, below, cap_of, reach_of, kept_rows}
use Rattle.horizon_meaning.specs.Users.{each_among, supports_of_operands}
use Rattle.horizon_meaning.specs.Fits.{AreSpans, Fits, step_rows_fit}
use Rattle.horizon_meaning.specs.Holds.{shown_cap}
use Rattle.horizon_meaning.specs.Loss.{recent, live}
use Rattle.horizon_meaning.specs.NoLoss.{in_cap, kept_no_loss}

-- at the bound 0 everything is recent
at_zero : (n : ℕ) → nat_le 0 n ≡ true
at_zero n = grind (arith, nat_tests)

and_true : (a b : Bool) → b ≡ true → (a && b) ≡ a
and_true true b e = e
and_true false b e = refl

either : (a b c : Bool) → b ≡ true → (a && (b || c)) ≡ a
either a b c e = and_true a (b || c) (ap (λ x. x || c) e)

all_pass : {A : Type 0} (p : A → Bool) → ((x : A) → p x ≡ true) → (xs : List A) → filter p xs ≡ xs
all_pass p h [] = refl
all_pass p h (x ∷ xs) = λ i. cond (h x i) (x ∷ all_pass p h xs i) (all_pass p h xs i)

module _ (plan : PlainPlan) (low : AreLower plan.steps) (events : List Event) (spans : AreSpans events) (k : ℕ) (s : PlainStep)
    (e : step_at plan.steps k ≡ Some s) where
  pub caps_sound : cut (in_cap plan k) (supports events (λ i. step_rows plan.steps i events) s)
      ≡ cut (in_cap plan k) (supports events (λ i. cut (in_cap plan i) (step_rows plan.steps i events)) s)
  caps_sound =
      let c = cap_of plan k in
      let all = λ (i : ℕ). step_rows plan.steps i events in
      let short = λ (i : ℕ). cut (in_cap plan i) (all i) in
      let lives : (xs : List Row) → cut (in_cap plan k) xs ≡ cut (live c 0) xs =
      filter_agree (λ r. in_cap plan k r.span) (λ r. live c 0 r.span)
      (λ r. sym (and_true (in_cap plan k r.span) (nat_le 0 r.span.end) (at_zero r.span.end))) in
      let held : (i : ℕ) → kept_rows plan 0 events i ≡ short i =
      λ i. filter_agree _ (λ r. in_cap plan i r.span)
      (λ r. either (in_cap plan i r.span) (nat_le 0 r.span.end) (within (reach_of plan i) (0 - r.span.start)) (at_zero r.span.end))
      (all i) in
      lives (supports events all s)
      ∙ kept_no_loss plan low 0 k s e events spans
      ∙ ap (λ F. cut (live c 0) (supports F (kept_rows plan 0 events) s))
      (all_pass (λ (v : Event). recent 0 (span_of v)) (λ v. at_zero (span_of v).end) events)
      ∙ ap (cut (live c 0)) (supports_of_operands events (kept_rows plan 0 events) short s
      (each_among (λ i. kept_rows plan 0 events i ≡ short i) (operands s) (λ i _. held i)))
      ∙ sym (lives (supports events short s))

  each_in_cap : (xs : List Row) → is_among k plan.shown ≡ true → Each (Fits (below plan.steps k)) xs
      → Each (λ r. in_cap plan k r.span ≡ true) xs
  each_in_cap [] g a = tt
  each_in_cap (r ∷ xs) g a = (shown_cap plan low k s e g (r.span.end - r.span.start) a.0.1, each_in_cap xs g a.1)

  -- a step that gives out what it has has no row beyond its cap
  pub shown_in_cap : is_among k plan.shown ≡ true → Each (λ r. in_cap plan k r.span ≡ true) (step_rows plan.steps k events)
  shown_in_cap g = each_in_cap (step_rows plan.steps k events) g (step_rows_fit plan.steps low events spans k)
