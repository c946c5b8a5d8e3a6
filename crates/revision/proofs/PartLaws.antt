-- The parts of a work: a step of their plan, the end of a step, and how far they have come.
use Rattle.std.specs.Prelude.{ℕ, zero, suc, ◌≡◌, ◌≢◌, ◌+◌, ◌<◌, ◌≤◌, ◌^◌, refl, Option, Some, None, List, [], ◌∷◌, length, map, slice_get, get_or, Result, IfOk}
use Rattle.std.specs.Option.{option_map}
use Rattle.std.specs.declared.alloc.AllocError.{AllocError}
use Rattle.std.specs.declared.alloc.Global.{Global}
use Rattle.std.specs.declared.vec.Vec.{Vec}
use Rattle.std.proofs.Common.{ap, sym, ◌∙◌, subst, arith}
use Rattle.std.proofs.lemmas.Option.{none-some, same_Some, slice_get-map, slice_get_read}
use Rattle.event_changes.specs.declared.changes.Sign.{Sign}
use Rattle.event_changes.specs.declared.changes.Sign.TheVariants as sign
use Rattle.event_changes.specs.declared.events.EventChange.{EventChange}
use Rattle.ev_bind.specs.declared.rows.Row.{Row}
use Rattle.rule_ast.specs.PlainPlans.{PlainIndex, PlainStep, plain_step}
use Rattle.rule_ast.specs.declared.plans.Step.{Step}
use Rattle.rule_ast.specs.declared.plans.Step.TheVariants as made
use Rattle.step_meaning.specs.StepRows.{step_at}
use Rattle.row_changes.specs.Changes.{IsChange, change}
use Rattle.row_changes.specs.Visits.{tally}
use Rattle.change_meaning.specs.Caps.{caps_in}
use Rattle.change_meaning.specs.Courses.{Course, given, heads_of}
use Rattle.change_meaning.specs.Keys.{slots_at}
use Rattle.support_table.specs.Supports.{count_of}
use Rattle.support_table.specs.declared.kept.Supports.{Supports}
use Rattle.goal_store.specs.Few.{few_seen, few_both}
use Rattle.goal_store.specs.Goals.{steps_of, indexes_of, mark_at, seen_same, SamePlan}
use Rattle.goal_store.specs.Marks.{seen_as}
use Rattle.goal_store.specs.declared.kept.GoalStore.{GoalStore}
use Rattle.goal_store.specs.declared.marks.When.TheVariants.{Before, After}
use Rattle.step_changes.specs.Marked.{mark_of, shown, held_seen}
use Rattle.step_changes.specs.Notes.{noted}
use Rattle.step_changes.specs.Tasks.{at_left}
use Rattle.step_changes.specs.declared.deltas.Delta.{Delta}
use Rattle.step_changes.specs.declared.pending.Pending.{Pending}
use Rattle.step_work.specs.Views.{settled, seen_visits}
use Rattle.step_work.specs.Stepping.{StepWork}
use Rattle.step_work.specs.Seen.{view_in, left_of}
use Rattle.step_work.specs.Ways.{IsWayOf, AreWays}
use Rattle.step_work.specs.declared.spots.Spot.{Spot}
use Rattle.step_work.specs.declared.ways.StepWay.{StepWay}
use Rattle.revision.specs.Works.{Between, with_at, step_of, cap_of, Finishes, OnCourse}
use Rattle.revision.specs.Lists.{rows_at}
use Rattle.revision.specs.InHand.{left_at, steps_in, hand, IsReady, Goes, IsOver, Stays, StepGoes}
use Rattle.revision.specs.declared.parts.Parts.{Parts}
use Rattle.revision.proofs.FinishLaws.{takes_fewer, adds_fit, held_before, held_after}
use Rattle.revision.proofs.MarkLaws.{mark_is}
use Rattle.revision.proofs.StepLaws.{step_stops}
use Rattle.revision.proofs.Stretches.{within_plan}
use Rattle.revision.proofs.TurnLaws.{seen_under, step_stopped, step_noted, step_turned}

-- ---- the steps of a plan

step_slice : (ss : List PlainStep) (i : ℕ) → step_at ss i ≡ slice_get ss i
step_slice [] i = refl
step_slice (s ∷ ss) zero = refl
step_slice (s ∷ ss) (suc i) = step_slice ss i

pub sliced : (ss : List PlainStep) (i : ℕ) (s : PlainStep) → step_at ss i ≡ Some s → slice_get ss i ≡ Some s
sliced ss i s e = sym (step_slice ss i) ∙ e

-- an item that is read is there
pub read_at : {A : Type 0} (xs : List A) (n : ℕ) (x : A) → n < length xs → x ≡ get_or xs n x → slice_get xs n ≡ Some x
read_at xs n x lt e = slice_get_read xs (length xs) n x refl lt e

pub step_there : (steps : List Step) (n : ℕ) (s : Step) → slice_get steps n ≡ Some s
    → step_at (map plain_step steps) n ≡ Some (plain_step s)
step_there steps n s e =
    step_slice (map plain_step steps) n ∙ slice_get-map plain_step steps n ∙ ap (option_map plain_step) e

pub none_there : (steps : List Step) (n : ℕ) → slice_get steps n ≡ None → step_at (map plain_step steps) n ≡ None
none_there steps n e =
    step_slice (map plain_step steps) n ∙ slice_get-map plain_step steps n ∙ ap (option_map plain_step) e

pub some_step : (ss : List PlainStep) (n : ℕ) → n < length ss → (s : PlainStep) × (step_at ss n ≡ Some s)
some_step [] n h = absurd (omega (arith, h))
some_step (s ∷ ss) zero h = (s, refl)
some_step (s ∷ ss) (suc n) h = some_step ss n (omega (arith, h))

heads_few : (s : Step) → length (heads_of (plain_step s)) < 2 ^ 64
heads_few (made.Named name heads) = omega (arith, heads.ok.0, heads.ok.1, heads.small)
heads_few (made.Leaf of pat) = omega arith
heads_few (made.Join op left right) = omega arith
heads_few (made.Either left right) = omega arith
heads_few (made.Where of c) = omega arith
heads_few (made.Exact of q) = omega arith
heads_few (made.Within of q) = omega arith
heads_few (made.Minus joined before inner after) = omega arith
heads_few (made.Head of head) = omega arith

-- ---- what is left of the step under way

-- the work on a step, in the words of the parts
pub work_at : (goals : GoalStore) (changed : List (Vec Delta Global)) (count : ℕ → Row → ℕ) (es : List EventChange)
    (steps : List PlainStep) (ways : List StepWay) (n : ℕ) (k cap : Option ℕ) (slots : ℕ → List ℕ) (t s : PlainStep) (w : StepWay)
    (old new : Spot) (p q : Sign → Row → ℕ) (units : ℕ) (r : Result (Option ℕ) AllocError)
    → step_at steps n ≡ Some t → slice_get ways n ≡ Some w → step_at steps n ≡ Some s → k ≡ cap
    → IfOk r (λ o. StepWork k slots t (view_in goals count changed) es
    (at_left (left_of goals changed t w old) p) (at_left (left_of goals changed t w new) q) units o)
    → IfOk r (λ o. StepWork cap slots s (view_in goals count changed) es
    (at_left (left_at goals changed (step_at steps n) (slice_get ways n) old) p)
    (at_left (left_at goals changed (step_at steps n) (slice_get ways n) new) q) units o)
work_at goals changed count es steps ways n k cap slots t s w old new p q units r here way there same h =
    let works : Option PlainStep → Option StepWay → PlainStep → Option ℕ → Type 0 =
    λ a b x y. IfOk r (λ o. StepWork y slots x (view_in goals count changed) es
    (at_left (left_at goals changed a b old) p) (at_left (left_at goals changed a b new) q) units o) in
    subst (λ a. works a (slice_get ways n) s cap) (sym here)
    (subst (λ b. works (Some t) b s cap) (sym way)
    (subst (λ x. works (Some t) (Some w) x cap) (same_Some t s (sym here ∙ there))
    (subst (λ y. works (Some t) (Some w) t y) same h)))

-- ---- parts with the step under way at another point

module _ (p m : Parts) (e : m ≡ record p { spot = m.spot; pending = m.pending }) where
  pub hand_on : hand m ≡ with_at (hand p) (hand m).at
  hand_on = subst (λ q. hand q ≡ with_at (hand p) (hand q).at) (sym e) refl

  pub ready_on : IsReady p → IsReady m
  ready_on r = subst IsReady (sym e) (record {
    ways = r.ways;
    planned = r.planned;
    indexed = r.indexed;
    stored = r.stored;
    listed = r.listed;
    few = r.few;
    none = r.none;
  })

  pub there_on : (s : PlainStep) → step_at (steps_in p) p.finished ≡ Some s → step_at (steps_in m) m.finished ≡ Some s
  there_on s h = subst (λ h. step_of h ≡ Some s) (sym hand_on) h

  pub stays_mid : (new : Parts) → Stays m new → Stays p new
  stays_mid new s = record {
    plan = s.plan ∙ ap (λ q. q.plan) e;
    caps = s.caps ∙ ap (λ q. q.caps) e;
    expiries = s.expiries ∙ ap (λ q. q.expiries) e;
    gone = s.gone ∙ ap (λ q. q.gone) e;
    come = s.come ∙ ap (λ q. q.come) e;
    made = s.made ∙ ap (λ q. q.made) e;
  }

  pub stays_at : Stays p m
  stays_at = record {
    plan = ap (λ q. q.plan) e;
    caps = ap (λ q. q.caps) e;
    expiries = ap (λ q. q.expiries) e;
    gone = ap (λ q. q.gone) e;
    come = ap (λ q. q.come) e;
    made = ap (λ q. q.made) e;
  }

  module _ (c : Course) (left units : ℕ) (g : Goes p c left) (s : PlainStep) (here : step_at (steps_in p) p.finished ≡ Some s) where
    pub goes_on : StepWork (cap_of (hand p)) (slots_at (steps_in p)) s (hand p).view p.events.items (hand p).at (hand m).at units None
        → StepGoes m c left units None
    goes_on w =
        let t = step_stopped (hand p) c left units s here (hand m).at g.on w in
        (t.0, record { on = subst (λ h. OnCourse h c t.0) (sym hand_on) t.1; ready = ready_on g.ready }, t.2, t.3)

    pub fewer_on : StepWork (cap_of (hand p)) (slots_at (steps_in p)) s (hand p).view p.events.items (hand p).at (hand m).at units None
        → length (hand m).at.left + units ≡ length (hand p).at.left
    fewer_on w =
        (step_stops (hand p).at (hand m).at units (cap_of (hand p)) (slots_at (steps_in p)) (hand p).view p.events.items s
        (seen_under (hand p) c left units s here (hand m).at g.on) w).fewer

    pub over_on : (rest : ℕ)
        → StepWork (cap_of (hand p)) (slots_at (steps_in p)) s (hand p).view p.events.items (hand p).at (hand m).at units (Some rest)
        → IsOver m
    over_on rest w = record {
      course = c;
      ready = ready_on g.ready;
      between = subst (λ h. Between h.steps h.caps h.changes c h.view h.finished) (sym hand_on) g.on.between;
      step = s;
      here = subst (λ h. step_of h ≡ Some s) (sym hand_on) here;
      all = subst (λ h. (t : Sign) (r : Row) → settled s (h.view.count h.finished) (hand m).at.noted t r
          ≡ tally t r (given (h.caps.cap h.finished) (slots_at h.steps) s c h.changes)) (sym hand_on)
          (step_noted (hand p) c left units s here (hand m).at g.on rest w);
    }

    pub ends_on : (rest : ℕ) (new : Parts)
        → StepWork (cap_of (hand p)) (slots_at (steps_in p)) s (hand p).view p.events.items (hand p).at (hand m).at units (Some rest)
        → Finishes s (hand m) (hand new) → IsReady new → StepGoes new c left units (Some rest)
    ends_on rest new w f ready =
        let t = step_turned (hand p) c left units s here (hand m).at g.on rest w (hand new)
        (subst (λ h. Finishes s h (hand new)) hand_on f) in
        (t.0, record { on = t.1; ready = ready }, t.2)

-- ---- the end of a step

module _ (p : Parts) (o : IsOver p) (s : Step) (there : slice_get p.plan.steps.items p.finished ≡ Some s) (mid : Sign → Row → ℕ)
    (settles : (t : Sign) (r : Row) → mid t r ≡ settled (plain_step s) (count_of p.supports p.finished) (noted p.pending) t r) where
  same_step : o.step ≡ plain_step s
  same_step = same_Some o.step (plain_step s) (sym o.here ∙ step_there p.plan.steps.items p.finished s there)

  gives : (t : Sign) (r : Row) → mid t r
      ≡ tally t r (given ((hand p).caps.cap p.finished) (slots_at (steps_in p)) o.step o.course p.events.items)
  gives t r = settles t r ∙ (λ i. settled (sym same_step i) (count_of p.supports p.finished) (noted p.pending) t r) ∙ o.all t r

  pub over_fewer : (r : Row) → mid sign.Minus r ≤ count_of p.supports p.finished r + mid sign.Plus r
  over_fewer =
      takes_fewer (steps_in p) (caps_in p.caps) p.events.items o.course (hand p).view p.finished o.between o.step o.here
      (mid sign.Plus) (mid sign.Minus) (gives sign.Plus) (gives sign.Minus)

  pub over_room : (r : Row) → count_of p.supports p.finished r + mid sign.Plus r < 2 ^ 128
  over_room r =
      adds_fit (steps_in p) (caps_in p.caps) p.events.items o.course (hand p).view p.finished o.between o.step o.here
      (mid sign.Plus) (mid sign.Minus) (gives sign.Plus) (gives sign.Minus)
      (omega (arith, p.events.ok.0, p.events.ok.1, p.events.small))
      (subst (λ t. length (heads_of t) < 2 ^ 64) (sym same_step) (heads_few s))
      (λ j lt. (few_both p.goals j, few_seen p.goals j After)) r (o.between.small p.finished r)

pub over_marks : (p : Parts) → IsOver p → (r : Row) → mark_at p.goals p.finished r ≡ mark_of (count_of p.supports p.finished r)
over_marks p o r =
    mark_is p.goals p.finished (count_of p.supports p.finished)
    (held_before (steps_in p) (caps_in p.caps) p.events.items o.course (hand p).view p.finished o.between)
    (held_after (steps_in p) (caps_in p.caps) p.events.items o.course (hand p).view p.finished o.between) r

pub step_stored : (p : Parts) → IsOver p → p.finished < length p.plan.steps.items → p.finished < steps_of p.goals
step_stored p o lt = let k = o.ready.stored in omega (arith, k, lt)

pub step_listed : (p : Parts) → IsOver p → p.finished < length p.plan.steps.items → p.finished < length p.changed.items
step_listed p o lt = let k = o.ready.listed in omega (arith, k, lt)

none_past : (ws : List StepWay) (i : ℕ) → slice_get ws i ≡ None → length ws ≤ i
none_past [] i f = omega arith
none_past (w ∷ ws) zero f = absurd (none-some w (sym f))
none_past (w ∷ ws) (suc i) f = let k = none_past ws i f in omega (arith, k)

-- a spot before all visits
abbrev pub Starts : Spot → Type 0
Starts spot = (goals : GoalStore) (changed : List (Vec Delta Global)) (count : ℕ → Row → ℕ) (indexes : List PlainIndex) (cap : Option ℕ)
    (slots : ℕ → List ℕ) (s : PlainStep) (way : StepWay) → indexes_of goals ≡ indexes → IsWayOf indexes cap slots s way
    → left_of goals changed s way spot ≡ seen_visits cap slots s (view_in goals count changed)

-- before all visits of a step, all that it has to make are left
module _ (p : Parts) (ready : IsReady p) (goals : GoalStore) (plan : indexes_of goals ≡ indexes_of p.goals)
    (changed : List (Vec Delta Global)) (count : ℕ → Row → ℕ) (spot : Spot) (starts : Starts spot) (n : ℕ) where
  pub fresh_left : (s : PlainStep) → step_at (steps_in p) n ≡ Some s
      → left_at goals changed (step_at (steps_in p) n) (slice_get p.ways.items n) spot
      ≡ seen_visits ((caps_in p.caps).cap n) (slots_at (steps_in p)) s (view_in goals count changed)
  fresh_left s e = (λ i. left_at goals changed (e i) (slice_get p.ways.items n) spot) ∙ at (slice_get p.ways.items n) refl
    where
      at : (o : Option StepWay) → slice_get p.ways.items n ≡ o → left_at goals changed (Some s) o spot
          ≡ seen_visits ((caps_in p.caps).cap n) (slots_at (steps_in p)) s (view_in goals count changed)
      at None f =
          let k = ready.ways.number in
          let h = none_past p.ways.items n f in
          let lt = within_plan (steps_in p) n s e in absurd (omega (arith, k, h, lt))
      at (Some w) f =
          starts goals changed count (indexes_of p.goals) ((caps_in p.caps).cap n) (slots_at (steps_in p)) s w plan
          (ready.ways.each n s w (sliced (steps_in p) n s e) f)

  pub none_left : step_at (steps_in p) n ≡ None → left_at goals changed (step_at (steps_in p) n) (slice_get p.ways.items n) spot ≡ []
  none_left e = λ i. left_at goals changed (e i) (slice_get p.ways.items n) spot

module _ (p : Parts) (s : PlainStep) (here : step_at (steps_in p) p.finished ≡ Some s) (ready : IsReady p)
    (goals : GoalStore) (supports : Supports) (pending spare : Pending) (changed : Vec (Vec Delta Global) Global) (spot : Spot)
    (starts : Starts spot) (mid : Sign → Row → ℕ)
    (settles : (t : Sign) (r : Row) → mid t r ≡ settled s (count_of p.supports p.finished) (noted p.pending) t r)
    (plan : SamePlan p.goals goals) where
  -- the parts once the step under way is finished
  abbrev then : Parts
  then = record p {
    goals = goals;
    supports = supports;
    pending = pending;
    spare = spare;
    changed = changed;
    finished = p.finished + 1;
    spot = spot;
  }

  pub finished_then : ((r : Row) → count_of supports p.finished r + mid sign.Minus r ≡ count_of p.supports p.finished r + mid sign.Plus r)
      → ((j : ℕ) (r : Row) → j ≢ p.finished → count_of supports j r ≡ count_of p.supports j r)
      → ((r : Row) → count_of p.supports p.finished r + mid sign.Plus r < 2 ^ 128)
      → IsChange (count_of p.supports p.finished) (count_of supports p.finished) (rows_at changed.items p.finished)
      → ((j : ℕ) → j ≢ p.finished → rows_at changed.items j ≡ rows_at p.changed.items j)
      → ((r : Row) → mark_at goals p.finished r
      ≡ shown (change (count_of p.supports p.finished r) (count_of supports p.finished r)) (mark_of (count_of p.supports p.finished r)))
      → ((j : ℕ) (r : Row) → j ≢ p.finished → mark_at goals j r ≡ mark_at p.goals j r)
      → ((t : Sign) (r : Row) → noted pending t r ≡ 0)
      → Finishes s (hand p) (hand then)
  finished_then counts other_counts room is_change other_changed marks other_marks empty = record {
    steps = refl;
    caps = refl;
    changes = refl;
    finished = refl;
    counts = λ r.
        ap (λ k. count_of supports p.finished r + k) (sym (settles sign.Minus r)) ∙ counts r
        ∙ ap (λ k. count_of p.supports p.finished r + k) (settles sign.Plus r);
    other_counts = λ j d r. other_counts j r d;
    small = λ r. (let k = counts r in let h = room r in omega (arith, k, h));
    changed = is_change;
    other_changed = λ j lt. other_changed j (omega (arith, lt));
    before = held_seen goals p.finished (count_of p.supports p.finished) (count_of supports p.finished) marks Before;
    after = held_seen goals p.finished (count_of p.supports p.finished) (count_of supports p.finished) marks After;
    other_before = λ j d. seen_same goals p.goals j j Before Before (λ r. ap (seen_as Before) (other_marks j r d));
    other_after = λ j d. seen_same goals p.goals j j After After (λ r. ap (seen_as After) (other_marks j r d));
    left = fresh_left p ready goals plan.1 changed.items (count_of supports) spot starts (p.finished + 1);
    none_left = none_left p ready goals plan.1 changed.items (count_of supports) spot starts (p.finished + 1);
    noted = empty;
  }

  pub ready_then : length changed.items ≡ length p.changed.items → ((t : Sign) (r : Row) → noted spare t r ≡ 0) → IsReady then
  ready_then lists none = record {
    ways = subst (λ ixs. AreWays ixs (caps_in p.caps) (steps_in p) p.ways.items) (sym plan.1) ready.ways;
    planned = ready.planned;
    indexed = plan.1 ∙ ready.indexed;
    stored = plan.0 ∙ ready.stored;
    listed = lists ∙ ready.listed;
    few = ready.few;
    none = none;
  }
