-- Work in turns: its beginning, one step, one step after the other, and its end.
use Rattle.std.specs.Prelude.{ℕ, ◌≡◌, ◌+◌, ◌<◌, ◌≤◌, refl, Option, Some, None, List, [], ◌++◌, length}
use Rattle.std.proofs.Common.{ap, sym, ◌∙◌, subst, arith, inl, inr, ◌⊎◌, length-append}
use Rattle.std.proofs.lemmas.Bool.{cases_lt}
use Rattle.std.proofs.lemmas.Option.{none-some, same_Some}
use Rattle.event_changes.specs.declared.changes.Sign.{Sign}
use Rattle.event_changes.specs.declared.events.EventChange.{EventChange}
use Rattle.ev_bind.specs.declared.rows.Row.{Row}
use Rattle.rule_ast.specs.PlainPlans.{PlainStep}
use Rattle.step_meaning.specs.StepRows.{step_at}
use Rattle.row_changes.specs.Visits.{tally, At}
use Rattle.change_meaning.specs.Caps.{PlainCaps}
use Rattle.change_meaning.specs.Keys.{slots_at}
use Rattle.change_meaning.specs.Courses.{Course, visits, given, IsCourse}
use Rattle.change_meaning.proofs.RowLaws.{none_at}
use Rattle.change_meaning.specs.Turns.{visits_from}
use Rattle.step_work.specs.Views.{seen_visits, seen_gives, settled}
use Rattle.step_work.specs.Stepping.{StepWork}
use Rattle.revision.specs.Works.{Between, visits_behind, UnderWay, Hand, with_at, step_of, cap_of, Finishes, OnCourse, StepTurned, HasRows}
use Rattle.revision.proofs.Stretches.{drop_at, drop_none, drop_past}
use Rattle.revision.proofs.ViewLaws.{visits_seen, settled_gives}
use Rattle.revision.proofs.StepLaws.{Ended, step_stops, step_ends}
use Rattle.revision.proofs.FinishLaws.{between_next}

-- ---- the visits of the steps from one on

module _ (steps : List PlainStep) (caps : PlainCaps) (c : Course) (n : ℕ) where
  pub from_step : (s : PlainStep) → step_at steps n ≡ Some s
      → visits_behind steps caps c n ≡ visits (caps.cap n) (slots_at steps) s c ++ visits_behind steps caps c (n + 1)
  from_step s e = ap (visits_from caps (slots_at steps) c n) (drop_at steps n s e)

  pub from_end : step_at steps n ≡ None → visits_behind steps caps c n ≡ []
  from_end e = ap (visits_from caps (slots_at steps) c n) (drop_none steps n e)

  pub from_past : step_at steps n ≡ None → visits_behind steps caps c (n + 1) ≡ []
  from_past e = ap (visits_from caps (slots_at steps) c (n + 1)) (drop_past steps n e)

-- ---- a step of which nothing is made

module _ (h : Hand) (c : Course) (b : Between h.steps h.caps h.changes c h.view h.finished)
    (left : (s : PlainStep) → step_of h ≡ Some s → h.at.left ≡ seen_visits (cap_of h) (slots_at h.steps) s h.view)
    (none_left : step_of h ≡ None → h.at.left ≡ [])
    (noted : (s : Sign) (r : Row) → h.at.noted s r ≡ 0) where
  left_is : (s : PlainStep) → step_of h ≡ Some s → h.at.left ≡ visits (cap_of h) (slots_at h.steps) s c
  left_is s e =
      left s e ∙ visits_seen h.steps h.caps h.changes c h.view h.finished b (cap_of h) (slots_at h.steps) s (b.course.lower h.finished s e)

  pub on_course : OnCourse h c (length (visits_behind h.steps h.caps c h.finished))
  on_course = record {
    between = b;
    under = λ s e. (0, record { made = []; left = sym (left_is s e); number = refl; noted = noted });
    over = none_left;
    number = at (step_of h) refl;
  }
    where
      at : (o : Option PlainStep) → step_of h ≡ o
          → length h.at.left + length (visits_behind h.steps h.caps c (h.finished + 1)) ≡ length (visits_behind h.steps h.caps c h.finished)
      at None e =
          let here = ap length (none_left e) in
          let now = ap length (from_end h.steps h.caps c h.finished e) in
          let next = ap length (from_past h.steps h.caps c h.finished e) in omega (arith, here, now, next)
      at (Some s) e =
          let here = ap length (left_is s e) in
          let now = ap length (from_step h.steps h.caps c h.finished s e) in
          let both = length-append (visits (cap_of h) (slots_at h.steps) s c) (visits_behind h.steps h.caps c (h.finished + 1)) in
          omega (arith, here, now, both)

-- ---- one step

module _ (h : Hand) (c : Course) (left units : ℕ) (s : PlainStep) (at : step_of h ≡ Some s) (p : At)
    (on : OnCourse h c left) where
  pub seen_under : UnderWay (seen_visits (cap_of h) (slots_at h.steps) s h.view) h.at
  seen_under =
      subst (λ all. UnderWay all h.at)
      (sym (visits_seen h.steps h.caps h.changes c h.view h.finished on.between (cap_of h) (slots_at h.steps) s
      (on.between.course.lower h.finished s at)))
      (on.under s at)

  -- visits are left
  pub step_stopped : StepWork (cap_of h) (slots_at h.steps) s h.view h.changes h.at p units None
      → StepTurned (with_at h p) c left units None
  step_stopped w =
      let t = step_stops h.at p units (cap_of h) (slots_at h.steps) h.view h.changes s seen_under w in (
        length p.left + length (visits_behind h.steps h.caps c (h.finished + 1)),
        record {
          between = on.between;
          under = λ s' e. subst (λ x. UnderWay (visits (cap_of h) (slots_at h.steps) x c) p) (same_Some s s' (sym at ∙ e))
              (subst (λ all. UnderWay all p)
              (visits_seen h.steps h.caps h.changes c h.view h.finished on.between (cap_of h) (slots_at h.steps) s
              (on.between.course.lower h.finished s at)) t.under);
          over = λ e. absurd (none-some s (sym e ∙ at));
          number = refl;
        },
        (let n = on.number in let f = t.fewer in omega (arith, n, f)),
        (let m = t.more in omega (arith, m)),
      )

  module _ (rest : ℕ) (w : StepWork (cap_of h) (slots_at h.steps) s h.view h.changes h.at p units (Some rest)) where
    ended : Ended (seen_gives (cap_of h) (slots_at h.steps) s h.view h.changes) h.at p units rest
    ended = step_ends h.at p units (cap_of h) (slots_at h.steps) h.view h.changes s rest seen_under w

    -- what is applied at its end is what it gives
    pub step_noted : (t : Sign) (r : Row) → settled s (h.view.count h.finished) p.noted t r
        ≡ tally t r (given (cap_of h) (slots_at h.steps) s c h.changes)
    step_noted = settled_gives h.steps h.caps h.changes c h.view h.finished on.between p.noted s at ended.noted

    -- it is finished
    pub step_turned : (new : Hand) → Finishes s (with_at h p) new → StepTurned new c left units (Some rest)
    step_turned new f =
        let next = between_next c (with_at h p) new s on.between at f step_noted in
        let b : Between new.steps new.caps new.changes c new.view new.finished =
        subst (λ k. Between new.steps new.caps new.changes c new.view k) (sym f.finished)
        (subst (λ es. Between new.steps new.caps es c new.view (h.finished + 1)) (sym f.changes)
        (subst (λ caps. Between new.steps caps h.changes c new.view (h.finished + 1)) (sym f.caps)
        (subst (λ steps. Between steps h.caps h.changes c new.view (h.finished + 1)) (sym f.steps) next))) in
        let place : step_of new ≡ step_at h.steps (h.finished + 1) = (λ i. step_at (f.steps i) (f.finished i)) in
        let all : visits_behind new.steps new.caps c new.finished ≡ visits_behind h.steps h.caps c (h.finished + 1) =
        (λ i. visits_behind (f.steps i) (f.caps i) c (f.finished i)) in (
          length (visits_behind new.steps new.caps c new.finished),
          on_course new c b
              (λ s' e. f.left s' (sym place ∙ e)
              ∙ (λ i. seen_visits ((sym f.caps i).cap (sym f.finished i)) (slots_at (sym f.steps i)) s' new.view))
              (λ e. f.none_left (sym place ∙ e)) f.noted,
          (let l = ap length all in let n = on.number in let e = ended.spent in omega (arith, l, n, e)),
        )

-- ---- one step after the other

-- units that are left over from finished steps
pub turned_on : (now units left before used : ℕ) → now + before ≡ left + units → used + units ≡ now → used + before ≡ left
turned_on now units left before used a b = omega (arith, a, b)

-- the units of more steps add up
pub turned_more : (now units left before then rest : ℕ) → now + before ≡ left + units → then + units ≡ now + rest
    → then + before ≡ left + rest
turned_more now units left before then rest a b = omega (arith, a, b)

-- past the last step no visit is left
pub none_more : (h : Hand) (c : Course) (left : ℕ) → OnCourse h c left → length h.steps ≤ h.finished → left ≡ 0
none_more h c left on le =
    let e = none_at h.steps h.finished le in
    let here = ap length (on.over e) in
    let past = ap length (from_past h.steps h.caps c h.finished e) in
    let n = on.number in omega (arith, here, past, n)

-- ---- the beginning and the end

module _ (h : Hand) (es : List EventChange) (c : Course) (course : IsCourse h.steps h.caps es c)
    (holds : HasRows h.view c.old c.old_count) where
  pub begins : Between h.steps h.caps es c h.view 0
  begins = record {
    course = course;
    before = holds.before;
    after_done = λ j lt. absurd (omega (arith, lt));
    after_ahead = λ j le. holds.after j;
    counts_done = λ j lt r. absurd (omega (arith, lt));
    counts_ahead = λ j le r. holds.counts j r;
    changed_done = λ j lt. absurd (omega (arith, lt));
    small = holds.small;
  }

module _ (h : Hand) (c : Course) (left : ℕ) (on : OnCourse h c left) (le : length h.steps ≤ h.finished) where
  -- every step is as after the changes
  pub all_after : (j : ℕ) → h.view.after j ≡ c.new j
  all_after j = at (cases_lt j h.finished)
    where
      at : (j < h.finished) ⊎ (h.finished ≤ j) → h.view.after j ≡ c.new j
      at (inl lt) = on.between.after_done j lt
      at (inr past) = let past_all : length h.steps ≤ j = omega (arith, past, le) in
          on.between.after_ahead j past ∙ sym (on.between.course.beyond j past_all).0

  pub all_counts : (j : ℕ) (r : Row) → h.view.count j r ≡ c.new_count j r
  all_counts j r = at (cases_lt j h.finished)
    where
      at : (j < h.finished) ⊎ (h.finished ≤ j) → h.view.count j r ≡ c.new_count j r
      at (inl lt) = on.between.counts_done j lt r
      at (inr past) = let past_all : length h.steps ≤ j = omega (arith, past, le) in
          on.between.counts_ahead j past r ∙ sym ((on.between.course.beyond j past_all).1 r)
