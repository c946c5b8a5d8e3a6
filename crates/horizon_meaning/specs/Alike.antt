-- What the kept rows with their counts suffice for, in terms of events: a change that says of each event whether it is there
-- afterwards, from whether it was; and a change that leaves the same events that end at the bound or later.
use Rattle.std.specs.Prelude.{ℕ, suc, ◌≡◌, ◌==◌, refl, Bool, true, false, cond, ◌&&◌, ◌||◌, List, [], ◌∷◌, map, length}
use Rattle.std.specs.List.{filter}
use Rattle.std.specs.Ordering.{is_eq}
use Rattle.std.specs.Cmp.{tied_itself}
use Rattle.std.proofs.Common.{ap, sym, ◌∙◌}
use Rattle.std.proofs.lemmas.Bool.{and_parts}
use Rattle.std.proofs.lemmas.Slice.Eq.{bytes_eq-Decides}
use Rattle.std.specs.Str.{bytes_eq}
use Rattle.ordered_lists.specs.Canon.{has, has-canon, has-filter}
use Rattle.event_model.specs.declared.atoms.NameArity.{NameArity}
use Rattle.event_model.specs.declared.events.Event.{Event}
use Rattle.event_model.specs.declared.terms.Term.{Term}
use Rattle.event_model.specs.Events.{span_of}
use Rattle.event_model.specs.EventOrder.{event_cmp, exact_events}
use Rattle.event_model.specs.Spans.{PlainSpan}
use Rattle.ev_bind.specs.Projections.{tie}
use Rattle.ev_bind.specs.Rows.{row_cmp, exact_rows, same_rows}
use Rattle.ev_bind.specs.declared.rows.Row.{Row}
use Rattle.rule_ast.specs.PlainPlans.{PlainPlan}
use Rattle.pattern_meaning.specs.PatternRows.{rows_of, numbered, found, args_of, is_of, events_of}
use Rattle.step_meaning.specs.Operands.{AreLower}
use Rattle.step_meaning.specs.Cuts.{ends_before, cut_events}
use Rattle.horizon_meaning.specs.Loss.{recent, cut_events_of}
use Rattle.horizon_meaning.specs.Alone.{RowChange, AreRowsChanged, IsAlike, alike_again}
use Rattle.horizon_meaning.specs.Renewed.{ends_sooner}
use Rattle.horizon_meaning.specs.Histories.{IsLateChange}

-- ---- the events of a name, as rows

-- the event that a row of a name is, if it is one
event_for : NameArity → Row → Event
event_for n q = record { span = q.span; atom = record { name = n.name; args = args_of q } }

-- a row has the values of an event of the name, at the slots from 0
is_event_row : NameArity → Row → Bool
is_event_row n q = (bytes_eq n.name n.name && (n.arity == length (args_of q))) && is_eq (row_cmp q (found (args_of q) q.span))

args_numbered : (k : ℕ) (ts : List Term) → map (λ (p : ℕ × Term). p.1) (numbered k ts) ≡ ts
args_numbered k [] = refl
args_numbered k (t ∷ ts) = ap (λ l. t ∷ l) (args_numbered (suc k) ts)

same_when : (a b : Bool) → (a ≡ true → b ≡ true) → (b ≡ true → a ≡ true) → a ≡ b
same_when true b f g = sym (f refl)
same_when false true f g = g refl
same_when false false f g = refl

row_itself : (q r : Row) → q ≡ r → is_eq (row_cmp q r) ≡ true
row_itself q r e = ap (λ x. is_eq (row_cmp q x)) (sym e) ∙ ap is_eq (tied_itself exact_rows.total q)

event_itself : (d e : Event) → d ≡ e → is_eq (event_cmp d e) ≡ true
event_itself d e h = ap (λ x. is_eq (event_cmp d x)) (sym h) ∙ ap is_eq (tied_itself exact_events.total d)

module _ (n : NameArity) (q : Row) (x : Event) where
  to_event : (is_of n x.atom && is_eq (row_cmp q (found x.atom.args (span_of x)))) ≡ true
      → (is_event_row n q && is_eq (event_cmp (event_for n q) x)) ≡ true
  unfolding is_event_row event_for
  to_event h =
      let p = and_parts (is_of n x.atom) (is_eq (row_cmp q (found x.atom.args (span_of x)))) h in
      let named = and_parts (bytes_eq n.name x.atom.name) (n.arity == length x.atom.args) p.0 in
      let is : q ≡ found x.atom.args (span_of x) = same_rows q (found x.atom.args (span_of x)) p.1 in
      let name : n.name ≡ x.atom.name = (bytes_eq-Decides n.name x.atom.name).0 named.0 in
      let args : args_of q ≡ x.atom.args = ap args_of is ∙ args_numbered 0 x.atom.args in
      let span : q.span ≡ span_of x = ap (λ r. r.span) is in
      let event : event_for n q ≡ x = λ i. record { span = span i; atom = record { name = name i; args = args i } } in
      let values : q ≡ found (args_of q) q.span = is ∙ (λ i. found (sym args i) (sym span i)) in
      λ i. (((bytes_eq-Decides n.name n.name).1 refl i && (ap (λ l. n.arity == length l) args ∙ named.1) i)
      && row_itself q (found (args_of q) q.span) values i) && event_itself (event_for n q) x event i

  to_row : (is_event_row n q && is_eq (event_cmp (event_for n q) x)) ≡ true
      → (is_of n x.atom && is_eq (row_cmp q (found x.atom.args (span_of x)))) ≡ true
  unfolding is_event_row event_for
  to_row h =
      let p = and_parts (is_event_row n q) (is_eq (event_cmp (event_for n q) x)) h in
      let r = and_parts (bytes_eq n.name n.name && (n.arity == length (args_of q))) (is_eq (row_cmp q (found (args_of q) q.span))) p.0 in
      let event : event_for n q ≡ x = exact_events.same (event_for n q) x (tie (event_cmp (event_for n q) x) p.1) in
      let is : q ≡ found (args_of q) q.span = same_rows q (found (args_of q) q.span) r.1 in
      λ i. (ap (λ (e : Event). is_of n e.atom) (sym event) ∙ r.0) i
      && (ap (λ (e : Event). is_eq (row_cmp q (found e.atom.args (span_of e)))) (sym event)
      ∙ row_itself q (found (args_of q) q.span) is) i

no_more : (a : Bool) → false ≡ (a && false)
no_more true = refl
no_more false = refl

both_of : (a b c : Bool) → ((a && b) || (a && c)) ≡ (a && (b || c))
both_of true b c = refl
both_of false b c = refl

-- whether a row is one of a name's events
rows_are_events : (n : NameArity) (q : Row) (events : List Event)
    → has row_cmp q (events_of events n) ≡ (is_event_row n q && has event_cmp (event_for n q) events)
rows_are_events n q [] = no_more (is_event_row n q)
rows_are_events n q (x ∷ events) =
    at (is_of n x.atom)
    ∙ (λ i. one i || rows_are_events n q events i)
    ∙ both_of (is_event_row n q) (is_eq (event_cmp (event_for n q) x)) (has event_cmp (event_for n q) events)
  where
    one : (is_of n x.atom && is_eq (row_cmp q (found x.atom.args (span_of x)))) ≡ (is_event_row n q && is_eq (event_cmp (event_for n q) x))
    one = same_when _ _ (to_event n q x) (to_row n q x)

    at : (b : Bool)
        → has row_cmp q (map (λ e. found e.atom.args (span_of e))
        (cond b (x ∷ filter (λ e. is_of n e.atom) events) (filter (λ e. is_of n e.atom) events)))
        ≡ ((b && is_eq (row_cmp q (found x.atom.args (span_of x)))) || has row_cmp q (events_of events n))
    at true = refl
    at false = refl

-- ---- changes of events

-- each event is there afterwards or not, by what the change says of it and of whether it was there
abbrev pub AreChanged : (Event → Bool → Bool) → List Event → List Event → Type 0
AreChanged change before after = (e : Event) → has event_cmp e after ≡ change e (has event_cmp e before)

by_events : (change : Event → Bool → Bool) → RowChange
by_events change n q was = is_event_row n q && change (event_for n q) was

rows_changed : (change : Event → Bool → Bool) (before after : List Event) → AreChanged change before after
    → AreRowsChanged (by_events change) before after
unfolding by_events
rows_changed change before after h n q =
    has-canon exact_rows q (events_of after n)
    ∙ rows_are_events n q after
    ∙ ap (λ t. is_event_row n q && t) (h (event_for n q))
    ∙ again (is_event_row n q) (change (event_for n q)) (has event_cmp (event_for n q) before)
    ∙ sym (ap (λ t. is_event_row n q && change (event_for n q) t)
    (has-canon exact_rows q (events_of before n) ∙ rows_are_events n q before))
  where
    again : (v : Bool) (f : Bool → Bool) (y : Bool) → (v && f y) ≡ (v && f (v && y))
    again true f y = refl
    again false f y = refl

-- whether a row that passes is one of a name's events is known from the events that pass
has_cut : (t : PlainSpan → Bool) (n : NameArity) (q : Row) → t q.span ≡ true → (events : List Event)
    → has row_cmp q (rows_of (events_of events n)) ≡ has row_cmp q (rows_of (events_of (cut_events t events) n))
has_cut t n q h events =
    has-canon exact_rows q (events_of events n)
    ∙ sym (has-filter exact_rows (λ r. t r.span) q (events_of events n) ∙ ap (λ b. b && has row_cmp q (events_of events n)) h)
    ∙ ap (has row_cmp q) (cut_events_of t events n)
    ∙ sym (has-canon exact_rows q (events_of (cut_events t events) n))

-- recent events are as they are in a list, older ones stay
to_recent : ℕ → List Event → RowChange
to_recent b late n q was = cond (recent b q.span) (has row_cmp q (rows_of (events_of late n))) was

recent_changed : (b : ℕ) (before after late : List Event) → IsLateChange b before after → cut_events (recent b) after ≡ late
    → AreRowsChanged (to_recent b late) before after
unfolding to_recent
recent_changed b before after late h e n q = at (recent b q.span) refl
  where
    at : (t : Bool) → recent b q.span ≡ t → has row_cmp q (rows_of (events_of after n))
        ≡ cond t (has row_cmp q (rows_of (events_of late n))) (has row_cmp q (rows_of (events_of before n)))
    at true p = has_cut (recent b) n q p after ∙ ap (λ l. has row_cmp q (rows_of (events_of l n))) e
    at false p =
        let old : ends_before b q.span ≡ true = ends_sooner b q.span p in
        has_cut (ends_before b) n q old after
        ∙ ap (λ l. has row_cmp q (rows_of (events_of l n))) (sym h.past)
        ∙ sym (has_cut (ends_before b) n q old before)

module _ (plan : PlainPlan) (low : AreLower plan.steps) (b : ℕ) (one one_after other other_after : List Event)
    (first : IsLateChange b one one_after) (second : IsLateChange b other other_after) (alike : IsAlike plan b one other) where
  by_rows : (ch : RowChange) → AreRowsChanged ch one one_after → AreRowsChanged ch other other_after
      → IsAlike plan b one_after other_after
  by_rows ch f g =
      alike_again plan low b one one_after other other_after first.spans first.spans_after second.spans second.spans_after
      first.past second.past ch f g alike

  -- changed alike, they are alike again
  pub alike_by_change : (change : Event → Bool → Bool) → AreChanged change one one_after → AreChanged change other other_after
      → IsAlike plan b one_after other_after
  alike_by_change change f g =
      by_rows (by_events change) (rows_changed change one one_after f) (rows_changed change other other_after g)

  -- with the same recent events after the change, they are alike again
  pub alike_by_recent : cut_events (recent b) one_after ≡ cut_events (recent b) other_after → IsAlike plan b one_after other_after
  alike_by_recent e =
      by_rows (to_recent b (cut_events (recent b) other_after))
      (recent_changed b one one_after (cut_events (recent b) other_after) first e)
      (recent_changed b other other_after (cut_events (recent b) other_after) second refl)
