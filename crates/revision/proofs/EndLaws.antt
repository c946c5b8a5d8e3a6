-- One step of the parts of a work after the other, and the end of all.
use Rattle.std.specs.Prelude.{ℕ, ◌≡◌, ◌+◌, ◌-◌, ◌<◌, ◌≤◌, refl, ◌&&◌, ◌⊎◌, Option, Some, None, List, [], length, map, slice_get}
use Rattle.std.specs.declared.alloc.Global.{Global}
use Rattle.std.specs.declared.vec.Vec.{Vec}
use Rattle.std.proofs.Common.{ap, sym, ◌∙◌, subst, inl, inr, arith}
use Rattle.std.proofs.lemmas.Bool.{cases_lt}
use Rattle.std.proofs.lemmas.List.{length-map}
use Rattle.ordered_lists.specs.Canon.{canon, has}
use Rattle.event_model.specs.EventOrder.{detection_cmp}
use Rattle.event_model.specs.declared.events.Detection.{Detection}
use Rattle.event_model.specs.declared.events.Event.{Event}
use Rattle.event_changes.specs.declared.changes.Sign.TheVariants.{Plus, Minus}
use Rattle.ev_bind.specs.Rows.{row_cmp}
use Rattle.ev_bind.specs.declared.rows.Row.{Row}
use Rattle.rule_ast.specs.PlainPlans.{PlainStep, plain_step}
use Rattle.step_meaning.specs.PlanOf.{plan_indexes}
use Rattle.step_meaning.specs.StepRows.{step_at}
use Rattle.change_meaning.specs.Caps.{caps_in, kept_rows}
use Rattle.change_meaning.specs.Courses.{Course, course_of}
use Rattle.change_meaning.specs.Keys.{IsWorkable}
use Rattle.change_meaning.specs.Shown.{shown_change}
use Rattle.goal_store.specs.Few.{few_seen}
use Rattle.goal_store.specs.Goals.{seen_settled, Settled, SamePlan}
use Rattle.goal_store.specs.declared.kept.GoalStore.{GoalStore}
use Rattle.goal_store.specs.declared.marks.When.TheVariants.{Before, After}
use Rattle.goal_purge.specs.Expiring.{due, expires_at}
use Rattle.goal_purge.specs.declared.expiries.Expiries.{Expiries}
use Rattle.step_work.specs.Few.{left_few}
use Rattle.step_work.specs.Ways.{AreWays}
use Rattle.step_work.specs.declared.ways.StepWay.{StepWay}
use Rattle.revision.specs.Works.{OnCourse, MOST_LEFT, hand_left, IsFurther}
use Rattle.revision.specs.Holding.{WorksTo, counted}
use Rattle.revision.specs.InHand.{left_at, steps_in, hand, IsDue, Goes, Stays, AllGo}
use Rattle.revision.specs.Following.{due_step}
use Rattle.revision.specs.Lists.{rows_at, told_by}
use Rattle.revision.specs.PartsTurned.{GoesOn, Ends}
use Rattle.revision.specs.declared.parts.Parts.{Parts}
use Rattle.revision.proofs.BoundLaws.{left_falls, left_falls_far}
use Rattle.revision.proofs.FollowLaws.{rows_past, Changes, followed}
use Rattle.revision.proofs.HoldLaws.{works_on, ended, told_shown}
use Rattle.revision.proofs.TurnLaws.{none_more}

-- ---- how much is left

pub parts_few : (p : Parts) → length (hand p).at.left < MOST_LEFT
parts_few p = at (step_at (steps_in p) p.finished) (slice_get p.ways.items p.finished)
  where
    at : (o : Option PlainStep) (w : Option StepWay) → length (left_at p.goals p.changed.items o w p.spot) < MOST_LEFT
    at None w = omega arith
    at (Some s) None = omega arith
    at (Some s) (Some w) = left_few p.goals p.changed.items p.spot (few_seen p.goals) s w

steps_number : (p : Parts) → length (steps_in p) ≡ length p.plan.steps.items
steps_number p = length-map p.plan.steps.items plain_step

same_steps : (old new : Parts) → Stays old new → steps_in new ≡ steps_in old
same_steps old new s = λ i. map plain_step (s.plan i).steps.items

same_caps : (old new : Parts) → Stays old new → caps_in new.caps ≡ caps_in old.caps
same_caps old new s = λ i. caps_in (s.caps i)

-- where the first of these parts are the last, or steps were finished between them
pub falls : (start now new : Parts) (units all : ℕ)
    → (((now ≡ start) × (units ≡ all)) ⊎ (start.finished < now.finished)) → Stays start now
    → IsFurther (hand now) (hand new) units None → now.finished < length now.plan.steps.items → 0 < all
    → hand_left (hand new) < hand_left (hand start)
falls start now new units all (inl e) stays f lt some =
    let more : 0 < units = (let k = e.1 in omega (arith, k, some)) in
    subst (λ p. hand_left (hand new) < hand_left (hand p)) e.0 (left_falls (hand now) (hand new) units f more)
falls start now new units all (inr l) stays f lt some =
    let same = f.0 ∙ ap length (same_steps start now stays) in
    let at = f.1 in
    let number = steps_number now in
    let fewer = f.0 in
    left_falls_far (hand start) (hand new) same (omega (arith, l, at)) (omega (arith, at, lt, number, fewer)) (parts_few new)

pub further_on : (start now new : Parts) (units all : ℕ)
    → (((now ≡ start) × (units ≡ all)) ⊎ (start.finished < now.finished)) → new.finished ≡ now.finished + 1
    → start.finished < new.finished
further_on start now new units all (inl e) next = let k = ap (λ p. p.finished) e.0 in omega (arith, k, next)
further_on start now new units all (inr l) next = omega (arith, l, next)

pub stays_on : (a b c : Parts) → Stays a b → Stays b c → Stays a c
stays_on a b c m n = record {
  plan = n.plan ∙ m.plan;
  caps = n.caps ∙ m.caps;
  expiries = n.expiries ∙ m.expiries;
  gone = n.gone ∙ m.gone;
  come = n.come ∙ m.come;
  made = n.made ∙ m.made;
}

-- past the last step all are finished
pub all_done : (p : Parts) (c : Course) (now left before units : ℕ) → Goes p c now → now + before ≡ left + units
    → length p.plan.steps.items ≤ p.finished → AllGo p c left before (Some units)
all_done p c now left before units g spent le =
    let n = steps_number p in
    let past : length (steps_in p) ≤ p.finished = omega (arith, n, le) in
    let z = none_more (hand p) c now g.on past in (
      subst (λ k. Goes p c k) z g,
      le,
      omega (arith, z, spent),
    )

-- the expiries of parts whose plan, caps and expiries stay
pub stays_due : (old new : Parts) (b : ℕ) (E : List Event) → Stays old new → IsDue old b E → IsDue new b E
stays_due old new b E s f d k r =
    (λ i. due (s.expiries i) d k r)
    ∙ f d k r
    ∙ (λ i. let caps = caps_in (sym s.caps i) in
    has row_cmp r (kept_rows (map plain_step (sym s.plan i).steps.items) caps b E k) && expires_at (caps.cap k) (caps.reach k) r.span d)

-- the number of visits that were made is no part of a course
pub still_goes : (p : Parts) (made : ℕ) (c : Course) (left : ℕ) → Goes p c left → Goes (record p { made = made }) c left
still_goes p made c left g = record {
  on = g.on;
  ready = record {
    ways = g.ready.ways;
    planned = g.ready.planned;
    indexed = g.ready.indexed;
    stored = g.ready.stored;
    listed = g.ready.listed;
    few = g.ready.few;
    none = g.ready.none;
  };
}

-- ---- a turn, said of events

-- visits are left
pub goes_on : (old new : Parts) (b : ℕ) (E F : List Event) (left units : ℕ) → WorksTo (hand old) b E F left → Stays old new
    → (now : ℕ) → Goes new (course_of (steps_in old) (caps_in old.caps) b E F) now → now + units ≡ left → 0 < now
    → (made : ℕ) → made ≡ counted (old.made + units)
    → GoesOn old (record new { made = made }) b E F left units
goes_on old new b E F left units w stays now g spent more made e = record {
  now = now;
  works = works_on (hand old) (hand new) b E F left now (same_steps old new stays) (same_caps old new stays) w g.on (omega (arith, spent));
  ready = record {
    ways = g.ready.ways;
    planned = g.ready.planned;
    indexed = g.ready.indexed;
    stored = g.ready.stored;
    listed = g.ready.listed;
    few = g.ready.few;
    none = g.ready.none;
  };
  spent = spent;
  more = more;
  made = e;
}

-- all are made
module _ (old m : Parts) (stays : Stays old m) (b : ℕ) (E F : List Event) (left units rest : ℕ) (w : WorksTo (hand old) b E F left)
    (g : AllGo m (course_of (steps_in old) (caps_in old.caps) b E F) left units (Some rest)) where
  course_here : OnCourse (hand m) (course_of (steps_in m) (caps_in m.caps) b E F) 0
  course_here =
      subst (λ caps. OnCourse (hand m) (course_of (steps_in m) caps b E F) 0) (sym (same_caps old m stays))
      (subst (λ steps. OnCourse (hand m) (course_of steps (caps_in old.caps) b E F) 0) (sym (same_steps old m stays)) g.0.on)

  past : length (steps_in m) ≤ m.finished
  past = let n = steps_number m in let le = g.1 in omega (arith, n, le)

  -- the kept rows of the steps over these events
  abbrev kept : List Event → ℕ → List Row
  kept G = kept_rows (steps_in m) (caps_in m.caps) b G

  -- the list of each step has the rows that came and went
  all_changed : (s : ℕ) → Changes (rows_at m.changed.items s) (kept E s) (kept F s)
  all_changed s = at (cases_lt s m.finished)
    where
      at : (s < m.finished) ⊎ (m.finished ≤ s) → Changes (rows_at m.changed.items s) (kept E s) (kept F s)
      at (inl lt) = inl (course_here.between.changed_done s lt)
      at (inr le) =
          let all = g.1 in
          let listed = g.0.ready.listed in
          let number = steps_number m in
          let beyond : length (steps_in m) ≤ s = omega (arith, all, le, number) in
          let none : length m.changed.items ≤ s = omega (arith, all, le, listed) in
          inr (rows_past m.changed.items s none, (course_here.between.course.beyond s beyond).0)

  -- so the expiries that follow the lists are those of the rows after
  pub all_due : IsDue old b E → (expiries : Expiries)
      → ((d s : ℕ) (r : Row) → due expiries d s r ≡ due_step (caps_in m.caps) m.changed.items d s r (due m.expiries d s r))
      → IsDue (record m { expiries = expiries }) b F
  all_due was expiries is =
      followed (caps_in m.caps) m.changed.items (kept E) (kept F) m.expiries expiries all_changed (stays_due old m b E stays was) is

  pub all_over : (goals : GoalStore) (expiries : Expiries) (gone come : Vec Detection Global) (made : ℕ)
      → Settled m.goals goals → SamePlan m.goals goals
      → gone.items ≡ canon detection_cmp (told_by Minus (steps_in m) m.plan.shown.items m.changed.items)
      → come.items ≡ canon detection_cmp (told_by Plus (steps_in m) m.plan.shown.items m.changed.items)
      → made ≡ counted (old.made + (units - rest))
      → Ends old (record m { goals = goals; expiries = expiries; gone = gone; come = come; made = made }) b E F left units
  all_over goals expiries gone come made settles plan has_gone has_come e =
      let new : Parts = record m { goals = goals; expiries = expiries; gone = gone; come = come; made = made } in
      record {
        holds = ended (hand m) b E F course_here past (hand new) refl refl (subst IsWorkable (sym (same_steps old m stays)) w.workable)
            (λ j. seen_settled m.goals goals settles j Before) (λ j. seen_settled m.goals goals settles j After) (λ j r. refl);
        ready = record {
          ways = subst (λ ixs. AreWays ixs (caps_in m.caps) (steps_in m) m.ways.items) (sym plan.1) g.0.ready.ways;
          planned = g.0.ready.planned;
          indexed = plan.1 ∙ g.0.ready.indexed;
          stored = plan.0 ∙ g.0.ready.stored;
          listed = g.0.ready.listed;
          few = g.0.ready.few;
          none = g.0.ready.none;
        };
        within = (let k = g.2 in omega (arith, k));
        made = e ∙ (let k = g.2 in let same : units - rest ≡ left = omega (arith, k) in ap (λ n. counted (old.made + n)) same);
        told = (λ i. record { gone = has_gone i; come = has_come i })
            ∙ told_shown (hand m) b E F course_here past (plan_indexes (steps_in m)) m.plan.shown.items
            ∙ (λ i. shown_change
            (record {
              steps = map plain_step (stays.plan i).steps.items;
              indexes = plan_indexes (map plain_step (stays.plan i).steps.items);
              shown = (stays.plan i).shown.items;
            })
            (course_of (map plain_step (stays.plan i).steps.items) (caps_in (stays.caps i)) b E F));
      }
