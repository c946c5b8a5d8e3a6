-- Without caps everything is kept, and nothing is lost.
use Rattle.std.specs.Prelude.{ℕ, ◌≡◌, refl, Bool, true, false, cond, ◌&&◌, ◌||◌, nat_le, List, [], ◌∷◌}
use Rattle.std.specs.List.{filter}
use Rattle.std.proofs.Common.{ap, sym, ◌∙◌, arith}
use Rattle.std.proofs.lemmas.Bool.Decides.{nat_tests}
use Rattle.event_model.specs.Events.{span_of}
use Rattle.event_model.specs.declared.events.Event.{Event}
use Rattle.event_changes.specs.declared.events.EventChange.{EventChange}
use Rattle.ev_bind.specs.declared.rows.Row.{Row}
use Rattle.rule_ast.specs.PlainPlans.{PlainStep}
use Rattle.step_meaning.specs.Cuts.{ends_before, cut_events}
use Rattle.step_meaning.specs.StepRows.{supports, step_rows, times}
use Rattle.change_meaning.specs.Caps.{no_caps, keeps, kept_rows, NoLossOver}
use Rattle.change_meaning.specs.Courses.{course_of, IsCourse}
use Rattle.change_meaning.specs.Keys.{IsWorkable}
use Rattle.change_meaning.specs.Moved.{came_of, went_of, EventsMove, AreSpans, AreLate, IsMoved}
use Rattle.change_meaning.proofs.CourseLaws.{course_is}

module _ (steps : List PlainStep) (b : ℕ) (E : List Event) where
  all_pass : (i : ℕ) (rows : List Row) → filter (keeps no_caps b i) rows ≡ rows
  all_pass i [] = refl
  all_pass i (r ∷ rows) =
      ap (λ t. cond t (r ∷ filter (keeps no_caps b i) rows) (filter (keeps no_caps b i) rows)) (yes (nat_le b r.span.end))
      ∙ ap (λ l. r ∷ l) (all_pass i rows)
    where
      yes : (t : Bool) → (true && (t || true)) ≡ true
      yes true = refl
      yes false = refl

  -- without caps all rows are kept
  pub all_kept : (i : ℕ) → kept_rows steps no_caps b E i ≡ step_rows steps i E
  all_kept i = all_pass i (step_rows steps i E)

  -- and no support is lost
  pub free : NoLossOver steps no_caps b E
  free i s e r f l = sym (λ k. times r (supports E (λ j. all_kept j k) s))

-- nothing ends before time 0
none_before : (E : List Event) → cut_events (ends_before 0) E ≡ []
none_before [] = refl
none_before (e ∷ E) =
    let no : ends_before 0 (span_of e) ≡ false = grind (arith, nat_tests) in
    ap (λ t. cond t (e ∷ cut_events (ends_before 0) E) (cut_events (ends_before 0) E)) no ∙ none_before E

all_late : (es : List EventChange) → AreLate 0 es
all_late [] = tt
all_late (e ∷ es) = (omega arith, all_late es)

-- every change of events on spans is one at the bound 0
pub moved_at_zero : (E F : List Event) (es : List EventChange) → AreSpans E → AreSpans F → EventsMove E F (came_of es) (went_of es)
    → IsMoved 0 E F es
moved_at_zero E F es se sf mv = record {
  before_spans = se;
  after_spans = sf;
  moves = mv;
  late = all_late es;
  same_below = none_before E ∙ sym (none_before F);
}

-- so without caps the course is one to stand on
pub free_course : (steps : List PlainStep) → IsWorkable steps → (b : ℕ) (E F : List Event) (es : List EventChange) → IsMoved b E F es
    → IsCourse steps no_caps es (course_of steps no_caps b E F)
free_course steps ok b E F es mv = course_is steps ok no_caps b E F es mv (free steps b E) (free steps b F)
