-- Caps and reaches as lists in the order of the steps: they keep the same rows, and nothing that counts is lost by them.
use Rattle.std.specs.Prelude.{ℕ, zero, suc, ◌≡◌, ◌+◌, ◌<◌, refl, true, ◌&&◌, nat_le, Option, Some, None, List, [], ◌∷◌, length, get_or}
use Rattle.std.specs.List.{filter}
use Rattle.std.proofs.Common.{ap, sym, ◌∙◌, arith}
use Rattle.std.proofs.lemmas.List.{get_or-map}
use Rattle.std.proofs.lemmas.Option.{none-some}
use Rattle.event_model.specs.declared.events.Event.{Event}
use Rattle.ev_bind.specs.declared.rows.Row.{Row}
use Rattle.rule_ast.specs.PlainPlans.{PlainStep, PlainPlan}
use Rattle.pattern_meaning.specs.RuleRows.{ticks}
use Rattle.row_changes.specs.declared.caps.CapList.{CapList}
use Rattle.row_changes.specs.declared.caps.Reach.{Reach}
use Rattle.row_changes.specs.declared.caps.Reach.TheVariants.{Free}
use Rattle.row_changes.specs.Changes.{fresh, dying}
use Rattle.row_changes.specs.Kept.{under, kept}
use Rattle.step_meaning.specs.StepRows.{step_at, supports, step_rows, step_supports, times}
use Rattle.step_meaning.specs.Counting.{times-filter}
use Rattle.step_meaning.specs.Operands.{AreLower}
use Rattle.horizon_meaning.specs.Lengths.{Length}
use Rattle.horizon_meaning.specs.Caps.{Hold, AreCaps, below, is_among, holds, holds_from, no_hold, operands, cap_of, reach_of, kept_rows}
use Rattle.horizon_meaning.specs.Users.{each_among, supports_of_operands}
use Rattle.horizon_meaning.specs.Fits.{AreSpans, no_rows}
use Rattle.horizon_meaning.specs.Renewed.{changes_shown}
use Rattle.horizon_meaning.specs.Histories.{IsLateChange}
use Rattle.horizon_meaning.specs.NoLoss.{counts_at, kept_no_loss, kept_supports}

-- the cap of a step in a list, where None is no limit; there is none past its end
abbrev pub cap_in : CapList → ℕ → Length
cap_in caps i = get_or caps.cap.items i None

-- the reach of a step in a list; there is no limit past its end
abbrev pub reach_in : CapList → ℕ → Reach
reach_in caps i = get_or caps.reach.items i Free

-- the rows of step i that these caps and reaches keep at a bound
abbrev pub kept_by : CapList → List PlainStep → ℕ → List Event → ℕ → List Row
kept_by caps steps b events i = filter (λ r. kept (cap_in caps i) (reach_in caps i) b r.span) (step_rows steps i events)

-- ---- the lists of a plan

length-holds_from : (shown : List ℕ) (longest : ℕ → Length) (n : ℕ) (ss : List PlainStep)
    → length (holds_from shown longest n ss) ≡ length ss
length-holds_from shown longest n [] = refl
length-holds_from shown longest n (s ∷ ss) = let more = length-holds_from shown longest (n + 1) ss in omega (arith, more)

in_plan : (ss : List PlainStep) (i : ℕ) (s : PlainStep) → step_at ss i ≡ Some s → i < length ss
in_plan [] i s e = absurd (none-some s e)
in_plan (x ∷ ss) zero s e = omega arith
in_plan (x ∷ ss) (suc i) s e = let lt : i < length ss = in_plan ss i s e in omega (arith, lt)

module _ (plan : PlainPlan) (caps : CapList) (are : AreCaps plan caps) where
  in_holds : (i : ℕ) (s : PlainStep) → step_at plan.steps i ≡ Some s → i < length (holds plan)
  in_holds i s e =
      let lt = in_plan plan.steps i s e in
      omega (arith, lt, length-holds_from plan.shown (below plan.steps) 0 plan.steps)

  pub cap_is : (i : ℕ) (s : PlainStep) → step_at plan.steps i ≡ Some s → cap_in caps i ≡ cap_of plan i
  cap_is i s e =
      ap (λ xs. get_or xs i None) are.cap ∙ get_or-map (λ (h : Hold). h.cap) (holds plan) i no_hold None (in_holds i s e)

  pub reach_is : (i : ℕ) (s : PlainStep) → step_at plan.steps i ≡ Some s → reach_in caps i ≡ reach_of plan i
  reach_is i s e =
      ap (λ xs. get_or xs i Free) are.reach ∙ get_or-map (λ (h : Hold). h.reach) (holds plan) i no_hold Free (in_holds i s e)

  -- they keep the same rows
  pub kept_by_are : (b : ℕ) (events : List Event) (i : ℕ) → kept_by caps plan.steps b events i ≡ kept_rows plan b events i
  kept_by_are b events i = at (step_at plan.steps i) refl
    where
      at : (o : Option PlainStep) → step_at plan.steps i ≡ o → kept_by caps plan.steps b events i ≡ kept_rows plan b events i
      at (Some s) e =
          λ j. filter (λ r. kept (cap_is i s e j) (reach_is i s e j) b r.span) (step_rows plan.steps i events)
      at None e =
          let none = no_rows plan.steps events i e in
          ap (filter (λ r. kept (cap_in caps i) (reach_in caps i) b r.span)) none
          ∙ sym (ap (filter (λ r. kept (cap_of plan i) (reach_of plan i) b r.span)) none)

  module _ (low : AreLower plan.steps) (b : ℕ) (events : List Event) (spans : AreSpans events) where
    -- no support is lost of a row that counts: it has as many over the kept rows
    pub no_support_lost : (i : ℕ) (s : PlainStep) → step_at plan.steps i ≡ Some s → (r : Row)
        → under (cap_in caps i) (ticks r) ≡ true → nat_le b r.span.end ≡ true
        → times r (step_supports plan.steps s events) ≡ times r (supports events (kept_by caps plan.steps b events) s)
    no_support_lost i s e r short late =
        let p = λ (q : Row). counts_at plan b i q.span in
        let lives : counts_at plan b i r.span ≡ true =
        λ j. (ap (λ c. under c (ticks r)) (sym (cap_is i s e)) ∙ short) j && late j in
        times-filter p r lives (step_supports plan.steps s events)
        ∙ ap (times r) (kept_no_loss plan low b i s e events spans ∙ sym (kept_supports plan low b i s e events spans))
        ∙ sym (times-filter p r lives (supports events (kept_rows plan b events) s))
        ∙ ap (times r) (supports_of_operands events (kept_rows plan b events) (kept_by caps plan.steps b events) s
        (each_among (λ k. kept_rows plan b events k ≡ kept_by caps plan.steps b events k) (operands s)
        (λ k _. sym (kept_by_are b events k))))

  -- the rows that come to a step that gives out what it has come to its kept rows
  pub shown_come : AreLower plan.steps → (b : ℕ) (before after : List Event) → IsLateChange b before after → (k : ℕ) (s : PlainStep)
      → step_at plan.steps k ≡ Some s → is_among k plan.shown ≡ true
      → fresh (kept_by caps plan.steps b before k) (kept_by caps plan.steps b after k)
      ≡ fresh (step_rows plan.steps k before) (step_rows plan.steps k after)
  shown_come low b before after change k s e g =
      (λ j. fresh (kept_by_are b before k j) (kept_by_are b after k j))
      ∙ changes_shown plan low b before after change.spans change.spans_after change.past k s e g

  -- and those that go from it go from them
  pub shown_go : AreLower plan.steps → (b : ℕ) (before after : List Event) → IsLateChange b before after → (k : ℕ) (s : PlainStep)
      → step_at plan.steps k ≡ Some s → is_among k plan.shown ≡ true
      → dying (kept_by caps plan.steps b before k) (kept_by caps plan.steps b after k)
      ≡ dying (step_rows plan.steps k before) (step_rows plan.steps k after)
  shown_go low b before after change k s e g =
      (λ j. dying (kept_by_are b before k j) (kept_by_are b after k j))
      ∙ changes_shown plan low b after before change.spans_after change.spans (sym change.past) k s e g
