-- What a work holds and what it works from, said of events: its beginning, its turns, and its end.
use Rattle.std.specs.Prelude.{ℕ, zero, suc, ◌≡◌, ◌+◌, ◌-◌, ◌<◌, ◌≤◌, refl, Bool, true, false, if◌then◌else◌, Option, Some, None, List, [], ◌∷◌, ◌++◌, length}
use Rattle.std.specs.List.{filter, flat_map}
use Rattle.std.proofs.Common.{ap, sym, ◌∙◌, subst, arith}
use Rattle.ordered_lists.specs.Canon.{canon}
use Rattle.event_model.specs.EventOrder.{detection_cmp}
use Rattle.event_model.specs.declared.events.Event.{Event}
use Rattle.event_changes.specs.declared.changes.Sign.{Sign}
use Rattle.event_changes.specs.declared.changes.Sign.TheVariants as sign
use Rattle.event_changes.specs.declared.events.EventChange.{EventChange}
use Rattle.ev_bind.specs.declared.rows.Row.{Row}
use Rattle.rule_ast.specs.PlainPlans.{PlainStep, PlainIndex, Named, Leaf, Join, Either, Where, Exact, Within, Minus, Head}
use Rattle.pattern_meaning.specs.PatternRows.{rows_of}
use Rattle.step_meaning.specs.Operands.{AreLower, rows_of_supports, supports_same}
use Rattle.step_meaning.specs.StepRows.{step_at, supports, step_rows, times, detections_of}
use Rattle.change_meaning.specs.Caps.{PlainCaps, keeps, kept_rows, supports_or_none, supports_at, kept_count}
use Rattle.change_meaning.specs.Courses.{course_of, changed_at, IsCourse}
use Rattle.change_meaning.specs.Keys.{IsWorkable, slots_at}
use Rattle.change_meaning.specs.Shown.{signed_rows, shown_rows, shown_change}
use Rattle.change_meaning.proofs.CourseLaws.{course_is}
use Rattle.change_meaning.proofs.RowLaws.{rows_past}
use Rattle.row_changes.specs.Visits.{At}
use Rattle.step_work.specs.Views.{View, seen_visits}
use Rattle.revision.specs.Works.{HasRows, Hand, OnCourse}
use Rattle.revision.specs.Holding.{Holds, CanBegin, visits_to, WorksTo, told, told_change}
use Rattle.revision.proofs.Stretches.{within_plan}
use Rattle.revision.proofs.TurnLaws.{on_course, begins, all_after, all_counts}

-- ---- the beginning

module _ (h : Hand) (b : ℕ) (E F : List Event) (es : List EventChange) (can : CanBegin h b E F es) where
  pub course_on : IsCourse h.steps h.caps es (course_of h.steps h.caps b E F)
  course_on = course_is h.steps can.holds.workable h.caps b E F es can.moved can.old_whole can.new_whole

  -- with the changes in hand, no step finished, and nothing of the first made
  pub begun : (v : View) (p : At) → HasRows v (kept_rows h.steps h.caps b E) (kept_count h.steps h.caps b E)
      → ((s : PlainStep) → step_at h.steps 0 ≡ Some s → p.left ≡ seen_visits (h.caps.cap 0) (slots_at h.steps) s v)
      → (step_at h.steps 0 ≡ None → p.left ≡ []) → ((s : Sign) (r : Row) → p.noted s r ≡ 0)
      → WorksTo (record { steps = h.steps; caps = h.caps; changes = es; view = v; finished = 0; at = p }) b E F
      (visits_to h.steps h.caps b E F)
  begun v p rows left over noted =
      let new : Hand = record { steps = h.steps; caps = h.caps; changes = es; view = v; finished = 0; at = p } in
      let c = course_of h.steps h.caps b E F in
      record {
        workable = can.holds.workable;
        course = on_course new c (begins new es c course_on rows) left over noted;
        within = omega arith;
      }

-- ---- a turn

-- a turn leaves work
pub works_on : (h new : Hand) (b : ℕ) (E F : List Event) (left now : ℕ) → new.steps ≡ h.steps → new.caps ≡ h.caps
    → WorksTo h b E F left → OnCourse new (course_of h.steps h.caps b E F) now → now ≤ left → WorksTo new b E F now
works_on h new b E F left now steps caps w on less = record {
  workable = subst IsWorkable (sym steps) w.workable;
  course = subst (λ c. OnCourse new c now) (λ i. course_of (sym steps i) (sym caps i) b E F) on;
  within =
      let all : visits_to new.steps new.caps b E F ≡ visits_to h.steps h.caps b E F = (λ i. visits_to (steps i) (caps i) b E F) in
      let was = w.within in omega (arith, all, was, less);
}

-- so many visits more were made
pub counted_on : (all left units now : ℕ) → left ≤ all → now + units ≡ left → all - now ≡ (all - left) + units
counted_on all left units now within e = omega (arith, within, e)

-- ---- the end

module _ (h : Hand) (b : ℕ) (E F : List Event) (w : OnCourse h (course_of h.steps h.caps b E F) 0) (le : length h.steps ≤ h.finished) where
  -- once the changes are over, it holds the events after
  pub ended : (new : Hand) → new.steps ≡ h.steps → new.caps ≡ h.caps → IsWorkable h.steps
      → ((j : ℕ) → new.view.before j ≡ h.view.after j) → ((j : ℕ) → new.view.after j ≡ h.view.after j)
      → ((j : ℕ) (r : Row) → new.view.count j r ≡ h.view.count j r) → Holds new b F
  ended new steps caps ok before after counts = record {
    workable = subst IsWorkable (sym steps) ok;
    rows = record {
      before = λ j. before j ∙ all_after h (course_of h.steps h.caps b E F) 0 w le j ∙ (λ i. kept_rows (sym steps i) (sym caps i) b F j);
      after = λ j. after j ∙ all_after h (course_of h.steps h.caps b E F) 0 w le j ∙ (λ i. kept_rows (sym steps i) (sym caps i) b F j);
      counts = λ j r. counts j r ∙ all_counts h (course_of h.steps h.caps b E F) 0 w le j r
          ∙ (λ i. kept_count (sym steps i) (sym caps i) b F j r);
      small = λ j r. (let same = counts j r in let k = w.between.small j r in omega (arith, same, k));
    };
  }

  -- what it tells is the change of the shown steps
  told_is : (s : Sign) (indexes : List PlainIndex) (shown : List ℕ) → told s h.steps shown h.view
      ≡ shown_rows s (record { steps = h.steps; indexes = indexes; shown = shown }) (course_of h.steps h.caps b E F)
  told_is s indexes [] = refl
  told_is s indexes (i ∷ shown) = (λ k. at (step_at h.steps i) refl k ++ told_is s indexes shown k)
    where
      at : (o : Option PlainStep) → step_at h.steps i ≡ o
          → detections_of (step_at h.steps i) (signed_rows s (h.view.changed i))
          ≡ detections_of (step_at h.steps i) (signed_rows s (changed_at (course_of h.steps h.caps b E F) i))
      at None e = (λ k. detections_of (e k) (signed_rows s (h.view.changed i)))
          ∙ (λ k. detections_of (sym e k) (signed_rows s (changed_at (course_of h.steps h.caps b E F) i)))
      at (Some t) e =
          let lt : i < h.finished = (let k = within_plan h.steps i t e in omega (arith, k, le)) in
          ap (λ ds. detections_of (step_at h.steps i) (signed_rows s ds)) (w.between.changed_done i lt)

  pub told_shown : (indexes : List PlainIndex) (shown : List ℕ) → told_change h.steps shown h.view
      ≡ shown_change (record { steps = h.steps; indexes = indexes; shown = shown }) (course_of h.steps h.caps b E F)
  told_shown indexes shown = λ i. record {
    gone = canon detection_cmp (told_is sign.Minus indexes shown i);
    come = canon detection_cmp (told_is sign.Plus indexes shown i);
  }

-- ---- no events

abbrev no_row : ℕ → List Row
no_row i = []

none_of_heads : (hs : List ℕ) → flat_map no_row hs ≡ []
none_of_heads [] = refl
none_of_heads (h ∷ hs) = none_of_heads hs

module _ (steps : List PlainStep) (lower : AreLower steps) where
  -- over no events no step has a support
  none_without : (s : PlainStep) → supports [] no_row s ≡ []
  none_without (Named n heads) = none_of_heads heads
  none_without (Leaf of p) = refl
  none_without (Join op l r) = refl
  none_without (Either l r) = refl
  none_without (Where of t) = refl
  none_without (Exact of q) = refl
  none_without (Within of q) = refl
  none_without (Minus j f i l) = refl
  none_without (Head of head) = refl

  rows_below : (n i : ℕ) → i < n → step_rows steps i [] ≡ []
  rows_below zero i lt = absurd (omega (arith, lt))
  rows_below (suc n) i lt = at (λ j k. rows_below n j k) (step_at steps i) refl
    where
      at : ((j : ℕ) → j < n → step_rows steps j [] ≡ []) → (o : Option PlainStep) → step_at steps i ≡ o → step_rows steps i [] ≡ []
      at below None e = rows_past steps [] i e
      at below (Some s) e =
          rows_of_supports [] steps lower i s e
          ∙ ap rows_of (supports_same [] (λ j. step_rows steps j []) no_row i
          (λ j k. (let further : j < n = omega (arith, k, lt) in below j further)) s (lower i s e) ∙ none_without s)

  pub no_rows : (i : ℕ) → step_rows steps i [] ≡ []
  no_rows i = rows_below (i + 1) i (omega arith)

  pub no_kept_rows : (caps : PlainCaps) (b i : ℕ) → kept_rows steps caps b [] i ≡ []
  no_kept_rows caps b i = ap (filter (keeps caps b i)) (no_rows i)

  pub no_counts : (caps : PlainCaps) (b i : ℕ) (r : Row) → kept_count steps caps b [] i r ≡ 0
  no_counts caps b i r = by (keeps caps b i r) (step_at steps i) refl
    where
      none : (o : Option PlainStep) → step_at steps i ≡ o → times r (supports_or_none steps [] o) ≡ 0
      none None e = refl
      none (Some s) e =
          ap (times r) (supports_same [] (λ j. step_rows steps j []) no_row i (λ j k. no_rows j) s (lower i s e) ∙ none_without s)

      by : (k : Bool) (o : Option PlainStep) → step_at steps i ≡ o → (if k then times r (supports_at steps [] i) else 0) ≡ 0
      by true o e = ap (λ o. times r (supports_or_none steps [] o)) e ∙ none o e
      by false o e = refl
