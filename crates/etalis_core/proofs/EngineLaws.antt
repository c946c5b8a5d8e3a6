-- What an engine stands for and works from, from input to input.
use Rattle.std.proofs.Common.{◌≡◌, ◌&&◌, ◌++◌, ◌∷◌, [], ℕ, Option, Some, None, List, Bool, true, false, not, refl, sym, ap, ◌∙◌, subst, inl, inr, arith}
use Rattle.std.specs.Prelude.{◌⊎◌, max, nat_lt, get_or, if◌then◌else◌}
use Rattle.std.specs.List.{flat_map}
use Rattle.std.proofs.lemmas.Bool.{true≢false}
use Rattle.ordered_lists.specs.Canon.{has}
use Rattle.ordered_lists.specs.Lists.{Each, Each-append}
use Rattle.ordered_lists.specs.Members.{Each_has}
use Rattle.event_model.specs.Events.{span_of, time_of}
use Rattle.event_model.specs.declared.events.Event.{Event}
use Rattle.event_model.specs.Presence.{History, added, settled, all_inputs, batch_inputs, in_batch, extended, settles, copies, present, bound, judge, IsAccepted, OneMore}
use Rattle.event_model.specs.declared.inputs.Input.{Input}
use Rattle.event_model.specs.declared.inputs.Input.TheVariants.{Add, Take, Advance, Nothing, Begin, Commit}
use Rattle.event_model.specs.declared.inputs.Judgement.TheVariants.{Fine}
use Rattle.event_changes.specs.Events.{event_changes}
use Rattle.event_changes.specs.declared.events.EventChange.{EventChange}
use Rattle.interval_ops.specs.Operators.{IsSpan}
use Rattle.ev_bind.specs.Rows.{row_cmp, exact_rows}
use Rattle.ev_bind.specs.declared.rows.Row.{Row}
use Rattle.rule_ast.specs.PlainPlans.{PlainStep}
use Rattle.rule_ast.specs.Trees.{PlainStatement}
use Rattle.pattern_meaning.specs.Replies.{Change, change_between, change_by}
use Rattle.pattern_meaning.specs.RuleRows.{ticks}
use Rattle.pattern_meaning.specs.Standing.{standing}
use Rattle.step_meaning.specs.NamedSteps.{plan_lower}
use Rattle.step_meaning.specs.Operands.{AreLower}
use Rattle.step_meaning.specs.PlanOf.{plan_of, plan_steps, plan_indexes}
use Rattle.step_meaning.specs.PastRows.{IsSameBelow}
use Rattle.step_meaning.specs.StepRows.{step_at, step_rows}
use Rattle.row_changes.specs.Kept.{under}
use Rattle.row_changes.specs.declared.caps.Reach.TheVariants.{Free}
use Rattle.change_meaning.specs.Caps.{caps_in, fits, NoLossOver}
use Rattle.change_meaning.specs.Courses.{course_of}
use Rattle.change_meaning.specs.Moved.{AreSpans, IsMoved}
use Rattle.change_meaning.specs.Shown.{shown_change, AreShownWhole}
use Rattle.change_meaning.proofs.EventLaws.{changes_follow, present_rises}
use Rattle.change_meaning.proofs.ShownLaws.{change_is_shown}
use Rattle.horizon_meaning.specs.Caps.{is_among}
use Rattle.horizon_meaning.specs.Fits.{no_rows}
use Rattle.horizon_meaning.specs.Histories.{present_spans}
use Rattle.horizon_meaning.specs.Listed.{cap_is, no_support_lost}
use Rattle.horizon_meaning.specs.NoLoss.{in_cap}
use Rattle.horizon_meaning.specs.Sound.{shown_in_cap}
use Rattle.horizon_meaning.specs.Users.{each_among}
use Rattle.support_table.specs.Copies.{copies_of}
use Rattle.support_table.specs.declared.copies.Copies.{Copies}
use Rattle.revision.specs.Holding.{visits_to, rows_held}
use Rattle.revision.specs.Working.{steps_of, caps_of, shown_of, plan_of_work, change_of, can_work, SamePlanOf, WorkHolds, CanWork, WorkGoes}
use Rattle.revision.specs.Working as work
use Rattle.revision.specs.Apart.{plan_apart, PartsHold}
use Rattle.revision.specs.declared.apart.WorkParts.{WorkParts}
use Rattle.revision.specs.declared.work.Work.{Work}
use Rattle.etalis_core.specs.declared.engine.Engine.{Engine}
use Rattle.etalis_core.specs.declared.ledger.Ledger.{Ledger}
use Rattle.etalis_core.specs.Apart.{ArePartsOf, PartsStandFor}
use Rattle.etalis_core.specs.Kept.{number_of, HasRoom, IsLedgerOf}
use Rattle.etalis_core.specs.StandsFor.{rules_of, late_of, is_working, is_spent, caps_for, horizon, visits_by, IsWorkOf, HaveSpans, StandsFor, WorksFrom, CanBegin}
use Rattle.etalis_core.proofs.HistoryLaws.{own, fine_parts, all_inputs_next, same_below_next, judged_alike, settled_all, settled_same}
use Rattle.etalis_core.proofs.LedgerLaws.{room_kept}

-- ---- spans

each_front : (P : Event → Type 0) (xs ys : List Event) → Each P (xs ++ ys) → Each P xs × Each P ys
each_front P [] ys a = (tt, a)
each_front P (x ∷ xs) ys a = let rest = each_front P xs ys a.1 in ((a.0, rest.0), rest.1)

spans_both : (xs ys : List Input) → HaveSpans xs → HaveSpans ys → HaveSpans (xs ++ ys)
spans_both [] ys a b = b
spans_both (x ∷ xs) ys a b =
    let p = each_front (λ e. IsSpan (span_of e)) (added x) (flat_map added xs) a in
    Each-append (λ e. IsSpan (span_of e)) (added x) (flat_map added (xs ++ ys)) p.0 (spans_both xs ys p.1 b)

spans_first : (xs ys : List Input) → HaveSpans (xs ++ ys) → HaveSpans xs
spans_first [] ys a = tt
spans_first (x ∷ xs) ys a =
    let p = each_front (λ e. IsSpan (span_of e)) (added x) (flat_map added (xs ++ ys)) a in
    Each-append (λ e. IsSpan (span_of e)) (added x) (flat_map added xs) p.0 (spans_first xs ys p.1)

spans_own : (input : Input) → AreSpans (added input) → HaveSpans (own input)
spans_own (Add e) a = a
spans_own (Take e) a = tt
spans_own (Advance t) a = tt
spans_own Nothing a = tt
spans_own Begin a = tt
spans_own Commit a = tt

-- of a history and one input more that is fine
pub spans_next : (late : Option ℕ) (h : History) (input : Input) → judge late h input ≡ Fine → HaveSpans (all_inputs h) → AreSpans (added input)
    → HaveSpans (all_inputs (extended h input))
spans_next late h input fine a b =
    subst HaveSpans (sym (all_inputs_next h input (fine_parts late h input fine).placed))
    (spans_both (all_inputs h) (own input) a (spans_own input b))

-- of the groups of a history
pub spans_settled : (h : History) → HaveSpans (all_inputs h) → HaveSpans (settled h)
spans_settled h a = spans_first (settled h) (batch_inputs h.batch) a

-- ---- what the caps of a plan keep

module _ (w : Work) (rules : List PlainStatement) (is : IsWorkOf w rules) where
  pub same_steps : steps_of w ≡ plan_steps rules
  same_steps = ap (λ p. p.steps) is.plan

  lower : AreLower (plan_steps rules)
  lower = plan_lower rules [] is.ranking

  pub same_caps : caps_of w ≡ caps_for rules
  same_caps = is.caps.1 ∙ (λ i. record { cap = λ k. get_or (is.caps.2.cap i) k None; reach = λ k. get_or (is.caps.2.reach i) k Free })

  -- the visits are those of the rules
  pub same_visits : (b : ℕ) (E F : List Event) → visits_to (steps_of w) (caps_of w) b E F ≡ visits_to (plan_steps rules) (caps_for rules) b E F
  same_visits b E F i = visits_to (same_steps i) (same_caps i) b E F

  -- and so are the rows that are kept
  pub same_rows : (b : ℕ) (E : List Event) → rows_held (steps_of w) (caps_of w) b E ≡ rows_held (plan_steps rules) (caps_for rules) b E
  same_rows b E i = rows_held (same_steps i) (same_caps i) b E

  module _ (b : ℕ) (events : List Event) (spans : AreSpans events) where
    -- no support is lost
    no_loss : NoLossOver (steps_of w) (caps_of w) b events
    no_loss =
        subst (λ s. NoLossOver s (caps_of w) b events) (sym same_steps)
        (subst (λ c. NoLossOver (plan_steps rules) c b events) (sym is.caps.1)
        (λ i s e r short late. no_support_lost (plan_of rules) is.caps.0 is.caps.2 lower b events spans i s e r short late))

    whole_at : (k : ℕ) → is_among k (plan_of rules).shown ≡ true → (o : Option PlainStep) → step_at (plan_steps rules) k ≡ o
        → (r : Row) → has row_cmp r (step_rows (plan_steps rules) k events) ≡ true → fits ((caps_in is.caps.0).cap k) r ≡ true
    whole_at k g None e r h = absurd (true≢false (sym h ∙ ap (has row_cmp r) (no_rows (plan_steps rules) events k e)))
    whole_at k g (Some s) e r h =
        ap (λ c. under c (ticks r)) (cap_is (plan_of rules) is.caps.0 is.caps.2 k s e)
        ∙ Each_has exact_rows (λ q. in_cap (plan_of rules) k q.span ≡ true) r (step_rows (plan_steps rules) k events)
        (shown_in_cap (plan_of rules) lower events spans k s e g) h

    -- no row that is given out is cut off
    whole : AreShownWhole (plan_of rules) (caps_of w) events
    whole =
        subst (λ c. AreShownWhole (plan_of rules) c events) (sym is.caps.1)
        (each_among (λ i. (r : Row) → has row_cmp r (step_rows (plan_steps rules) i events) ≡ true → fits ((caps_in is.caps.0).cap i) r ≡ true)
        (plan_of rules).shown (λ k g. whole_at k g (step_at (plan_steps rules) k) refl))

  -- the plan of a work stays
  pub plan_stays : (new : Work) → SamePlanOf w new → IsWorkOf new rules
  plan_stays new same = record {
    ranking = is.ranking;
    plan = (λ i. record { steps = same.steps i; indexes = plan_indexes (same.steps i); shown = same.shown i }) ∙ is.plan;
    caps = (is.caps.0, same.caps ∙ is.caps.1, is.caps.2);
  }

-- ---- one change of events

module _ (w : Work) (rules : List PlainStatement) (is : IsWorkOf w rules) (b : ℕ) (before after : List Input) (sb : HaveSpans before) (sa : HaveSpans after)
    (same : IsSameBelow b (present before) (present after)) where
  abbrev E : List Event
  E = present before

  abbrev F : List Event
  F = present after

  moved : IsMoved b E F (event_changes E F)
  moved = changes_follow b E F (present_rises before) (present_rises after) same (present_spans before sb) (present_spans after sa)

  -- a work that holds the events of some inputs can begin the changes to those of others
  pub may_begin : WorkHolds w b E → CanWork w b E F (event_changes E F)
  may_begin holds = can_work w b E F (event_changes E F) holds moved (no_loss w rules is b E (present_spans before sb)) (no_loss w rules is b F (present_spans after sa))

  -- what changes of the shown rows is what changes of what stands
  pub tells_change : shown_change (plan_of_work w) (course_of (steps_of w) (caps_of w) b E F) ≡ change_between (standing rules E) (standing rules F)
  tells_change =
      (λ i. shown_change (is.plan i) (course_of (same_steps w rules is i) (caps_of w) b E F))
      ∙ sym (change_is_shown rules is.ranking E F (caps_of w) b (event_changes E F) moved (whole w rules is b E (present_spans before sb)) (whole w rules is b F (present_spans after sa)))

-- ---- from input to input

-- an engine that isn't spent works where its work does
works_so : (engine : Engine) (b : Bool) → is_spent engine ≡ false → work.is_working engine.work ≡ b → is_working engine ≡ b
works_so engine b unspent is = λ i. not (unspent i) && is i

-- two histories of one ledger have the same copies from the bound on
same_copies : (ledger : Ledger) (late : Option ℕ) (h other : History) → IsLedgerOf ledger late (settled h) h → IsLedgerOf ledger late (settled other) other
    → (e : Event) → nat_lt (time_of e) (bound late (settled h)) ≡ false → copies (all_inputs h) e ≡ copies (all_inputs other) e
same_copies ledger late h other l m e here =
    let there : nat_lt (time_of e) (bound late (settled other)) ≡ false = ap (nat_lt (time_of e)) (sym m.told_bound ∙ l.told_bound) ∙ here in
    sym (l.numbers e ∙ ap (λ c. if c then 0 else copies (all_inputs h) e) here) ∙ m.numbers e ∙ ap (λ c. if c then 0 else copies (all_inputs other) e) there

-- an input that may begin is fine after each history that the engine stands for
pub fine_for_all : (engine : Engine) (h : History) (input : Input) → (is_spent engine ≡ true) ⊎ ((other : History) × CanBegin engine other input) → StandsFor engine h
    → judge (late_of engine) h input ≡ Fine
fine_for_all engine h input (inl spent) s = absurd (true≢false (sym spent ∙ s.not_spent))
fine_for_all engine h input (inr (other, can)) s =
    judged_alike (late_of engine) h other input (sym s.ledger.batch ∙ can.stands.ledger.batch) (sym s.ledger.told_bound ∙ can.stands.ledger.told_bound)
    (same_copies engine.ledger (late_of engine) h other s.ledger can.stands.ledger) ∙ can.fine

-- there is room for it in the ledger
pub has_room : (engine : Engine) (input : Input) → (is_spent engine ≡ true) ⊎ ((h : History) × CanBegin engine h input) → is_spent engine ≡ false
    → HasRoom (number_of engine.ledger.present) input
has_room engine input (inl spent) fresh = absurd (true≢false (sym spent ∙ fresh))
has_room engine input (inr (h, can)) fresh =
    room_kept engine.ledger.present (horizon (late_of engine) h) (all_inputs h) input can.stands.ledger.numbers can.room

-- the work that an input begins
pub starts : (old : Engine) (ledger : Ledger) (h : History) (input : Input) (es : List EventChange) → StandsFor old h
    → judge (late_of old) h input ≡ Fine → AreSpans (added input) → IsLedgerOf ledger (late_of old) (settled h) (extended h input)
    → ((late : Option ℕ) (told : List Input) (h : History) → IsLedgerOf ledger late told h → es ≡ event_changes (present told) (present (all_inputs h)))
    → CanWork old.work (horizon (late_of old) h) (present (settled h)) (present (all_inputs (extended h input))) es
starts old ledger h input es s fine spans is net =
    subst (CanWork old.work (horizon (late_of old) h) (present (settled h)) (present (all_inputs (extended h input))))
    (sym (net (late_of old) (settled h) (extended h input) is))
    (may_begin old.work (rules_of old) s.plan (horizon (late_of old) h) (settled h) (all_inputs (extended h input)) (spans_settled h s.spans)
    (spans_next (late_of old) h input fine s.spans spans) (same_below_next (late_of old) h input s.accepted fine) s.holds)

-- what the ledger says of it can be begun
pub may_start : (old : Engine) (ledger : Ledger) (input : Input) (es : List EventChange)
    → (is_spent old ≡ true) ⊎ ((h : History) × CanBegin old h input) → is_spent old ≡ false → AreSpans (added input)
    → ((h : History) → StandsFor old h → judge (late_of old) h input ≡ Fine → IsLedgerOf ledger (late_of old) (settled h) (extended h input))
    → ((late : Option ℕ) (told : List Input) (h : History) → IsLedgerOf ledger late told h → es ≡ event_changes (present told) (present (all_inputs h)))
    → (b : ℕ) × (E : List Event) × (F : List Event) × CanWork old.work b E F es
may_start old ledger input es (inl spent) fresh spans followed net = absurd (true≢false (sym spent ∙ fresh))
may_start old ledger input es (inr (h, can)) fresh spans followed net = (
  horizon (late_of old) h,
  present (settled h),
  present (all_inputs (extended h input)),
  starts old ledger h input es can.stands can.fine spans (followed h can.stands can.fine) net,
)

-- where it settles nothing, it is done
pub stands_at_once : (old new : Engine) (h : History) (input : Input) → StandsFor old h → judge (late_of old) h input ≡ Fine → settles h input ≡ false
    → AreSpans (added input) → IsLedgerOf new.ledger (late_of old) (settled h) (extended h input) → new.work ≡ old.work → rules_of new ≡ rules_of old
    → late_of new ≡ late_of old → is_spent new ≡ false → StandsFor new (extended h input)
stands_at_once old new h input s fine nothing spans ledger same rules late unspent = record {
  accepted = subst (λ l. IsAccepted l (extended h input)) (sym late) (OneMore h input s.accepted fine);
  spans = spans_next (late_of old) h input fine s.spans spans;
  ledger = subst (λ l. IsLedgerOf new.ledger l (settled (extended h input)) (extended h input)) (sym late)
      (subst (λ told. IsLedgerOf new.ledger (late_of old) told (extended h input)) (sym (settled_same h input nothing)) ledger);
  plan = subst (λ w. IsWorkOf w (rules_of new)) (sym same) (subst (IsWorkOf old.work) (sym rules) s.plan);
  holds = subst (λ l. WorkHolds new.work (bound l (settled (extended h input))) (present (settled (extended h input)))) (sym late)
      (subst (λ w. WorkHolds w (bound (late_of old) (settled (extended h input))) (present (settled (extended h input)))) (sym same)
      (subst (λ told. WorkHolds old.work (bound (late_of old) told) (present told)) (sym (settled_same h input nothing)) s.holds));
  not_working = works_so new false unspent (ap work.is_working same ∙ s.holds.resting);
  not_spent = unspent;
}

-- an engine that has begun an input that settles something
pub works_begun : (old new : Engine) (h : History) (input : Input) → StandsFor old h → judge (late_of old) h input ≡ Fine → settles h input ≡ true
    → AreSpans (added input) → IsLedgerOf new.ledger (late_of old) (settled h) (extended h input) → SamePlanOf old.work new.work
    → WorkGoes new.work (horizon (late_of old) h) (present (settled h)) (present (all_inputs (extended h input)))
    (visits_to (steps_of old.work) (caps_of old.work) (horizon (late_of old) h) (present (settled h)) (present (all_inputs (extended h input))))
    → rules_of new ≡ rules_of old → late_of new ≡ late_of old → is_spent new ≡ false
    → WorksFrom new h input (visits_by (rules_of old) (late_of old) h input)
works_begun old new h input s fine settling spans ledger same goes rules late unspent = record {
  accepted = subst (λ l. IsAccepted l h) (sym late) s.accepted;
  fine = (λ i. judge (late i) h input) ∙ fine;
  settling = settling;
  spans = spans_next (late_of old) h input fine s.spans spans;
  ledger = subst (λ l. IsLedgerOf new.ledger l (settled h) (extended h input)) (sym late) ledger;
  plan = subst (IsWorkOf new.work) (sym rules) (plan_stays old.work (rules_of old) s.plan new.work same);
  goes = subst (λ l. WorkGoes new.work (horizon l h) (present (settled h)) (present (all_inputs (extended h input))) (visits_by (rules_of old) (late_of old) h input)) (sym late)
      (subst (WorkGoes new.work (horizon (late_of old) h) (present (settled h)) (present (all_inputs (extended h input))))
      (same_visits old.work (rules_of old) s.plan (horizon (late_of old) h) (present (settled h)) (present (all_inputs (extended h input)))) goes);
  is_begun = works_so new true unspent goes.working;
  not_spent = unspent;
}

-- the same after a turn that leaves visits
pub works_on : (old new : Engine) (h : History) (input : Input) (left now : ℕ) → WorksFrom old h input left → SamePlanOf old.work new.work
    → new.ledger ≡ old.ledger → WorkGoes new.work (horizon (late_of old) h) (present (settled h)) (present (all_inputs (extended h input))) now
    → rules_of new ≡ rules_of old → late_of new ≡ late_of old → is_spent new ≡ false → WorksFrom new h input now
works_on old new h input left now w same ledger goes rules late unspent = record {
  accepted = subst (λ l. IsAccepted l h) (sym late) w.accepted;
  fine = (λ i. judge (late i) h input) ∙ w.fine;
  settling = w.settling;
  spans = w.spans;
  ledger = subst (λ l. IsLedgerOf new.ledger l (settled h) (extended h input)) (sym late)
      (subst (λ l. IsLedgerOf l (late_of old) (settled h) (extended h input)) (sym ledger) w.ledger);
  plan = subst (IsWorkOf new.work) (sym rules) (plan_stays old.work (rules_of old) w.plan new.work same);
  goes = subst (λ l. WorkGoes new.work (horizon l h) (present (settled h)) (present (all_inputs (extended h input))) now) (sym late) goes;
  is_begun = works_so new true unspent goes.working;
  not_spent = unspent;
}

-- a plan that stays twice stays
pub same_plan : (old mid new : Work) → SamePlanOf old mid → SamePlanOf mid new → SamePlanOf old new
same_plan old mid new p q = record { steps = q.steps ∙ p.steps; caps = q.caps ∙ p.caps; shown = q.shown ∙ p.shown }

-- an engine that has done what it works from, and has swept at the bound to which this raised it
pub stands_done : (old new : Engine) (h : History) (input : Input) (left : ℕ) → WorksFrom old h input left → SamePlanOf old.work new.work
    → IsLedgerOf new.ledger (late_of old) (all_inputs (extended h input)) (extended h input)
    → WorkHolds new.work (max (horizon (late_of old) h) new.ledger.bound) (present (all_inputs (extended h input)))
    → rules_of new ≡ rules_of old → late_of new ≡ late_of old → is_spent new ≡ false → StandsFor new (extended h input)
stands_done old new h input left w same ledger holds rules late unspent =
    let told : all_inputs (extended h input) ≡ settled (extended h input) = sym (settled_all h input w.settling) in
    let raised : max (horizon (late_of old) h) new.ledger.bound ≡ bound (late_of old) (all_inputs (extended h input)) = omega (arith, ledger.told_bound, w.ledger.rises) in
    record {
      accepted = subst (λ l. IsAccepted l (extended h input)) (sym late) (OneMore h input w.accepted w.fine);
      spans = w.spans;
      ledger = subst (λ l. IsLedgerOf new.ledger l (settled (extended h input)) (extended h input)) (sym late)
          (subst (λ t. IsLedgerOf new.ledger (late_of old) t (extended h input)) told ledger);
      plan = subst (IsWorkOf new.work) (sym rules) (plan_stays old.work (rules_of old) w.plan new.work same);
      holds = subst (λ l. WorkHolds new.work (bound l (settled (extended h input))) (present (settled (extended h input)))) (sym late)
          (subst (λ t. WorkHolds new.work (bound (late_of old) t) (present t)) told
          (subst (λ b. WorkHolds new.work b (present (all_inputs (extended h input)))) raised holds));
      not_working = works_so new false unspent holds.resting;
      not_spent = unspent;
    }

-- what changed of what stands
pub change_is : (old : Engine) (h : History) (input : Input) (left : ℕ) → WorksFrom old h input left → (change : Change)
    → change ≡ shown_change (plan_of_work old.work) (course_of (steps_of old.work) (caps_of old.work) (horizon (late_of old) h) (present (settled h)) (present (all_inputs (extended h input))))
    → change ≡ change_by (rules_of old) h input
change_is old h input left w change is =
    is ∙ tells_change old.work (rules_of old) w.plan (horizon (late_of old) h) (settled h) (all_inputs (extended h input)) before w.spans
    (same_below_next (late_of old) h input w.accepted w.fine)
    ∙ ap (λ told. change_between (standing (rules_of old) (present (settled h))) (standing (rules_of old) (present told))) (sym (settled_all h input w.settling))
  where
    before : HaveSpans (settled h)
    before =
        spans_first (settled h) (batch_inputs h.batch) (spans_first (all_inputs h) (own input)
        (subst HaveSpans (all_inputs_next h input (fine_parts (late_of old) h input w.fine).placed) w.spans))

-- ---- an engine taken apart

-- its parts stand for each history for which it stands, where no batch is open in one of them
pub parts_stand : (engine : Engine) (other h : History) → StandsFor engine other → in_batch other ≡ false → StandsFor engine h
    → (horizon_now : ℕ) → horizon_now ≡ engine.ledger.bound → (numbers : Copies) → numbers ≡ engine.ledger.present.numbers
    → (w : WorkParts) → plan_apart w ≡ plan_of_work engine.work → caps_in w.caps ≡ caps_of engine.work
    → PartsHold w (horizon (late_of engine) h) (present (settled h))
    → PartsStandFor (record { checked = engine.rules; late = engine.late; bound = horizon_now; copies = numbers; work = w }) h
parts_stand engine other h o outside s horizon_now bounded numbers same w plan caps holds = record {
  accepted = s.accepted;
  spans = s.spans;
  outside = sym s.ledger.batch ∙ o.ledger.batch ∙ outside;
  bound = bounded ∙ s.ledger.told_bound;
  copies = λ e. ap (λ c. copies_of c e) same ∙ s.ledger.numbers e;
  plan = record {
    ranking = s.plan.ranking;
    plan = plan ∙ s.plan.plan;
    caps = (s.plan.caps.0, caps ∙ s.plan.caps.1, s.plan.caps.2);
  };
  holds = holds;
}

-- a work over parts of one on the plan of these rules
pub work_over : (w : Work) (parts : WorkParts) (rules : List PlainStatement) → ArePartsOf parts rules → plan_of_work w ≡ plan_apart parts
    → caps_of w ≡ caps_in parts.caps → IsWorkOf w rules
work_over w parts rules are plan caps = record {
  ranking = are.ranking;
  plan = plan ∙ are.plan;
  caps = (are.caps.0, caps ∙ are.caps.1, are.caps.2);
}
