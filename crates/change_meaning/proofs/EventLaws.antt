-- The changes between two sets of events lead from the one to the other, and leave what ends below a bound where they are late.
use Rattle.std.specs.Prelude.{ℕ, ◌≡◌, ◌<◌, ◌≤◌, ◌==◌, refl, Bool, true, false, cond, not, ◌&&◌, ◌||◌, nat_lt, if◌then◌else◌, List, [], ◌∷◌, ◌++◌, map, length}
use Rattle.std.specs.List.{filter, flat_map}
use Rattle.std.specs.Ordering.{is_eq}
use Rattle.std.specs.Str.{bytes_eq}
use Rattle.std.specs.Cmp.{tied_itself}
use Rattle.std.specs.declared.cmp.Ordering.{Ordering}
use Rattle.std.specs.declared.cmp.Ordering.TheVariants.{Less, Equal, Greater}
use Rattle.std.proofs.Common.{ap, sym, ◌∙◌, arith, subst}
use Rattle.std.proofs.lemmas.Bool.{true≢false, and_parts}
use Rattle.std.proofs.lemmas.Bool.Decides.{nat_tests}
use Rattle.std.proofs.lemmas.Slice.Eq.{bytes_eq-Decides}
use Rattle.ordered_lists.specs.Lists.{Each, Balanced}
use Rattle.ordered_lists.specs.Canon.{canon, has, AllAbove, Rising, Rising-canon, Rising-filter, canon_one, has-canon, has-append, has-filter}
use Rattle.ordered_lists.specs.Members.{without, has-without, Each_has}
use Rattle.event_model.specs.EventOrder.{event_cmp, exact_events}
use Rattle.event_model.specs.Events.{span_of, time_of}
use Rattle.event_model.specs.Presence.{added, copies, present}
use Rattle.event_model.specs.declared.atoms.NameArity.{NameArity}
use Rattle.event_model.specs.declared.events.Event.{Event}
use Rattle.event_model.specs.declared.inputs.Input.{Input}
use Rattle.event_changes.specs.declared.events.EventChange.TheVariants.{Came, Went}
use Rattle.event_changes.specs.Events.{event_of, event_change, changed_events, event_changes}
use Rattle.ev_bind.specs.Rows.{row_cmp, exact_rows}
use Rattle.ev_bind.specs.declared.rows.Row.{Row}
use Rattle.pattern_meaning.specs.PatternRows.{found, args_of, is_of, events_of}
use Rattle.pattern_meaning.proofs.FoundLaws.{args_of-found}
use Rattle.step_meaning.specs.Cuts.{ends_before}
use Rattle.step_meaning.specs.PastRows.{IsSameBelow}
use Rattle.change_meaning.specs.Moved.{came_of, went_of, EventsMove, AreSpans, AreLate, IsMoved}
use Rattle.change_meaning.proofs.Balance.{Balanced-filter, Balanced-map, Balanced-changed, only}
use Rattle.change_meaning.proofs.Distinct.{Distinct, total_distinct}

-- ---- the events of a name as rows

abbrev row_of : Event → Row
row_of e = found e.atom.args (span_of e)

-- events of one name with one row are one event
one_event : (n : NameArity) (e v : Event) → is_of n e.atom ≡ true → is_of n v.atom ≡ true → row_of e ≡ row_of v → e ≡ v
one_event n e v g h same =
    let left = and_parts (bytes_eq n.name e.atom.name) (n.arity == length e.atom.args) g in
    let right = and_parts (bytes_eq n.name v.atom.name) (n.arity == length v.atom.args) h in
    let name : e.atom.name ≡ v.atom.name =
    sym ((bytes_eq-Decides n.name e.atom.name).0 left.0) ∙ (bytes_eq-Decides n.name v.atom.name).0 right.0 in
    let args : e.atom.args ≡ v.atom.args =
    sym (args_of-found e.atom.args (span_of e)) ∙ ap args_of same ∙ args_of-found v.atom.args (span_of v) in
    let span : e.span ≡ v.span = ap (λ (r : Row). r.span) same in
    λ i. record { span = span i; atom = record { name = name i; args = args i } }

events_lack : (n : NameArity) (e : Event) → is_of n e.atom ≡ true → (es : List Event) → AllAbove event_cmp e es
    → has row_cmp (row_of e) (events_of es n) ≡ false
events_lack n e h [] a = refl
events_lack n e h (v ∷ es) a = at (is_of n v.atom) refl (events_lack n e h es a.1)
  where
    clash : Equal ≡ Less → ⊥
    clash p = cc

    other : is_of n v.atom ≡ true → (c : Ordering) → row_cmp (row_of e) (row_of v) ≡ c → is_eq c ≡ false
    other m Less g = refl
    other m Greater g = refl
    other m Equal g =
        let one = one_event n e v h m (exact_rows.same (row_of e) (row_of v) g) in
        absurd (clash (sym (ap (event_cmp e) (sym one) ∙ tied_itself exact_events.total e) ∙ a.0))

    at : (b : Bool) → is_of n v.atom ≡ b → has row_cmp (row_of e) (events_of es n) ≡ false
        → has row_cmp (row_of e)
        (map row_of (cond b (v ∷ filter (λ v. is_of n v.atom) es) (filter (λ v. is_of n v.atom) es))) ≡ false
    at true g k = (λ i. other g (row_cmp (row_of e) (row_of v)) refl i || k i)
    at false g k = k

events_distinct : (n : NameArity) (E : List Event) → Rising event_cmp E → Distinct row_cmp (events_of E n)
events_distinct n [] g = tt
events_distinct n (e ∷ es) g = at (is_of n e.atom) refl (events_distinct n es g.1)
  where
    at : (b : Bool) → is_of n e.atom ≡ b → Distinct row_cmp (events_of es n)
        → Distinct row_cmp (map row_of (cond b (e ∷ filter (λ v. is_of n v.atom) es) (filter (λ v. is_of n v.atom) es)))
    at true k h = (events_lack n e k es g.0, h)
    at false k h = h

-- what is balanced of events is balanced of the rows of each name
pub events_move : (E F cs ws : List Event) → Rising event_cmp E → Rising event_cmp F → Balanced E F cs ws → EventsMove E F cs ws
events_move E F cs ws ue uf h n f =
    let p : Event → Bool = λ e. is_of n e.atom in
    omega (
      arith,
      total_distinct exact_rows f (events_of E n) (events_distinct n E ue),
      total_distinct exact_rows f (events_of F n) (events_distinct n F uf),
      Balanced-map row_of (filter p E) (filter p F) (filter p cs) (filter p ws) (Balanced-filter p E F cs ws h) f,
    )

-- ---- the changes between two sets of events

came_by : (F xs : List Event) → came_of (map (event_change F) xs) ≡ filter (λ e. has event_cmp e F) xs
came_by F [] = refl
came_by F (x ∷ xs) = at (has event_cmp x F) (came_by F xs)
  where
    at : (b : Bool) → came_of (map (event_change F) xs) ≡ filter (λ e. has event_cmp e F) xs
        → came_of ((if b then Came x else Went x) ∷ map (event_change F) xs)
        ≡ cond b (x ∷ filter (λ e. has event_cmp e F) xs) (filter (λ e. has event_cmp e F) xs)
    at true h = ap (λ l. x ∷ l) h
    at false h = h

went_by : (F xs : List Event) → went_of (map (event_change F) xs) ≡ filter (λ e. not (has event_cmp e F)) xs
went_by F [] = refl
went_by F (x ∷ xs) = at (has event_cmp x F) (went_by F xs)
  where
    at : (b : Bool) → went_of (map (event_change F) xs) ≡ filter (λ e. not (has event_cmp e F)) xs
        → went_of ((if b then Came x else Went x) ∷ map (event_change F) xs)
        ≡ cond (not b) (x ∷ filter (λ e. not (has event_cmp e F)) xs) (filter (λ e. not (has event_cmp e F)) xs)
    at true h = h
    at false h = ap (λ l. x ∷ l) h

has_changed : (E F : List Event) (q : Event)
    → has event_cmp q (changed_events E F)
    ≡ ((has event_cmp q E && not (has event_cmp q F)) || (has event_cmp q F && not (has event_cmp q E)))
has_changed E F q =
    has-canon exact_events q (without event_cmp E F ++ without event_cmp F E)
    ∙ has-append exact_events q (without event_cmp E F) (without event_cmp F E)
    ∙ (λ i. has-without exact_events q E F i || has-without exact_events q F E i)

module _ (E F : List Event) (ue : Rising event_cmp E) (uf : Rising event_cmp F) where
  changed_rises : Rising event_cmp (changed_events E F)
  changed_rises = Rising-canon exact_events (without event_cmp E F ++ without event_cmp F E)

  -- what comes is what is only after, and what goes is what is only before
  pub came_is : came_of (event_changes E F) ≡ without event_cmp F E
  came_is =
      came_by F (changed_events E F)
      ∙ only exact_events (λ e. has event_cmp e F) (changed_events E F) (without event_cmp F E) changed_rises
      (Rising-filter exact_events _ F uf)
      (λ q. ap (λ b. has event_cmp q F && b) (has_changed E F q) ∙ at (has event_cmp q E) (has event_cmp q F)
      ∙ sym (has-without exact_events q F E))
    where
      at : (s t : Bool) → (t && ((s && not t) || (t && not s))) ≡ (t && not s)
      at true true = refl
      at true false = refl
      at false true = refl
      at false false = refl

  pub went_is : went_of (event_changes E F) ≡ without event_cmp E F
  went_is =
      went_by F (changed_events E F)
      ∙ only exact_events (λ e. not (has event_cmp e F)) (changed_events E F) (without event_cmp E F) changed_rises
      (Rising-filter exact_events _ E ue)
      (λ q. ap (λ b. not (has event_cmp q F) && b) (has_changed E F q) ∙ at (has event_cmp q E) (has event_cmp q F)
      ∙ sym (has-without exact_events q E F))
    where
      at : (s t : Bool) → (not t && ((s && not t) || (t && not s))) ≡ (s && not t)
      at true true = refl
      at true false = refl
      at false true = refl
      at false false = refl

  pub changes_move : EventsMove E F (came_of (event_changes E F)) (went_of (event_changes E F))
  changes_move =
      subst (λ cs. EventsMove E F cs (went_of (event_changes E F))) (sym came_is)
      (subst (λ ws. EventsMove E F (without event_cmp F E) ws) (sym went_is)
      (events_move E F (without event_cmp F E) (without event_cmp E F) ue uf (Balanced-changed exact_events E F ue uf)))

  same_event : (e : Event) → event_of (event_change F e) ≡ e
  same_event e = at (has event_cmp e F)
    where
      at : (t : Bool) → event_of (if t then Came e else Went e) ≡ e
      at true = refl
      at false = refl

  module _ (b : ℕ) (late : AreLate b (event_changes E F)) where
    late_events : (xs : List Event) → AreLate b (map (event_change F) xs) → Each (λ e. b ≤ time_of e) xs
    late_events [] a = tt
    late_events (x ∷ xs) a = (subst (λ e. b ≤ time_of e) (same_event x) a.0, late_events xs a.1)

    -- what ends below the bound is as before
    pub same_below : IsSameBelow b E F
    same_below =
        canon_one exact_events _ _ (Rising-filter exact_events early E ue) (Rising-filter exact_events early F uf)
        (λ q. has-filter exact_events early q E ∙ at q (early q) refl (has event_cmp q (changed_events E F)) refl
        ∙ sym (has-filter exact_events early q F))
      where
        early : Event → Bool
        early e = ends_before b (span_of e)

        alike : (s t : Bool) → ((s && not t) || (t && not s)) ≡ false → s ≡ t
        alike true true h = refl
        alike true false h = absurd (true≢false h)
        alike false true h = absurd (true≢false h)
        alike false false h = refl

        clash : (q : Event) → early q ≡ true → b ≤ time_of q → ⊥
        clash q e le = let lt : time_of q < b = grind (arith, nat_tests, e) in omega (arith, lt, le)

        at : (q : Event) (t : Bool) → early q ≡ t → (c : Bool) → has event_cmp q (changed_events E F) ≡ c
            → (t && has event_cmp q E) ≡ (t && has event_cmp q F)
        at q false e c h = refl
        at q true e false h = alike (has event_cmp q E) (has event_cmp q F) (sym (has_changed E F q) ∙ h)
        at q true e true h =
            absurd (clash q e (Each_has exact_events (λ e. b ≤ time_of e) q (changed_events E F)
            (late_events (changed_events E F) late) h))

    -- the changes between two sets of events, of which none ends before the bound
    pub changes_moved : AreSpans E → AreSpans F → IsMoved b E F (event_changes E F)
    changes_moved se sf =
        record { before_spans = se; after_spans = sf; moves = changes_move; late = late; same_below = same_below }

-- where nothing changes below the bound, no changed event ends before it
module _ (b : ℕ) (E F : List Event) (ue : Rising event_cmp E) (uf : Rising event_cmp F) (same : IsSameBelow b E F) where
  abbrev early : Event → Bool
  early e = ends_before b (span_of e)

  in_both : (q : Event) → early q ≡ true → has event_cmp q E ≡ has event_cmp q F
  in_both q e =
      sym (has-filter exact_events early q E ∙ ap (λ t. t && has event_cmp q E) e)
      ∙ ap (has event_cmp q) same
      ∙ (has-filter exact_events early q F ∙ ap (λ t. t && has event_cmp q F) e)

  idle : (s t : Bool) → s ≡ t → ((s && not t) || (t && not s)) ≡ false
  idle true true k = refl
  idle true false k = absurd (true≢false k)
  idle false true k = absurd (true≢false (sym k))
  idle false false k = refl

  late_member : (q : Event) → has event_cmp q (changed_events E F) ≡ true → b ≤ time_of q
  late_member q h = at (early q) refl
    where
      at : (t : Bool) → early q ≡ t → b ≤ time_of q
      at true e = absurd (true≢false (sym h ∙ has_changed E F q ∙ idle (has event_cmp q E) (has event_cmp q F) (in_both q e)))
      at false e = (let le : b ≤ time_of q = grind (arith, nat_tests, e) in le)

  late_list : (xs : List Event) → ((q : Event) → has event_cmp q xs ≡ true → b ≤ time_of q) → AreLate b (map (event_change F) xs)
  late_list [] h = tt
  late_list (x ∷ xs) h = (
    subst (λ e. b ≤ time_of e) (sym (same_event E F ue uf x)) (h x (ap (λ c. is_eq c || has event_cmp x xs) (tied_itself exact_events.total x))),
    late_list xs (λ q e. h q (ap (λ t. is_eq (event_cmp q x) || t) e ∙ any (is_eq (event_cmp q x)))),
  )
    where
      any : (t : Bool) → (t || true) ≡ true
      any true = refl
      any false = refl

  changes_late : AreLate b (event_changes E F)
  changes_late = late_list (changed_events E F) late_member

  -- so the changes between them lead from the one to the other
  pub changes_follow : AreSpans E → AreSpans F → IsMoved b E F (event_changes E F)
  changes_follow se sf = record {
    before_spans = se;
    after_spans = sf;
    moves = changes_move E F ue uf;
    late = changes_late;
    same_below = same;
  }

-- the present events are in order
pub present_rises : (inputs : List Input) → Rising event_cmp (present inputs)
present_rises inputs =
    Rising-filter exact_events (λ e. nat_lt 0 (copies inputs e)) (canon event_cmp (flat_map added inputs))
    (Rising-canon exact_events (flat_map added inputs))
