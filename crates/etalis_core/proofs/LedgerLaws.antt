-- The ledger of a history, from input to input.
use Rattle.std.proofs.Common.{◌≡◌, ℕ, ◌+◌, ◌-◌, ◌≤◌, ◌<◌, Bool, true, false, not, ◌&&◌, ◌||◌, Option, List, [], ◌∷◌, ◌++◌, refl, sym, ap, ◌∙◌, subst, map, arith}
use Rattle.std.specs.Prelude.{nat_lt, max, if◌then◌else◌}
use Rattle.std.specs.Ordering.{is_eq}
use Rattle.std.specs.Cmp.{tied_itself}
use Rattle.std.proofs.Math.Bool.{not-not}
use Rattle.std.proofs.lemmas.Bool.{true≢false}
use Rattle.std.proofs.lemmas.Bool.Decides.{nat_tests}
use Rattle.ordered_lists.specs.Canon.{has, Rising-canon, has-canon, has-append, canon_one}
use Rattle.ordered_lists.specs.Rises.{rising_sorted}
use Rattle.ordered_lists.specs.Members.{without, has-without}
use Rattle.event_model.specs.declared.events.Event.{Event}
use Rattle.event_model.specs.Events.{time_of}
use Rattle.event_model.specs.EventOrder.{event_cmp, exact_events}
use Rattle.event_model.specs.Presence.{History, no_history, settled, all_inputs, in_batch, extended, added, taken, occurrences, copies, present, raised, bound, judge, settles, IsAccepted}
use Rattle.event_model.specs.declared.inputs.Input.{Input}
use Rattle.event_model.specs.declared.inputs.Input.TheVariants.{Add, Take, Advance, Nothing, Begin, Commit}
use Rattle.event_model.specs.declared.inputs.Judgement.TheVariants as judgement
use Rattle.step_meaning.specs.PastRows.{IsSameBelow}
use Rattle.event_changes.specs.declared.events.EventChange.TheVariants.{Came, Went}
use Rattle.event_changes.specs.Events.{event_of, changed_events, event_changes}
use Rattle.etalis_core.specs.declared.present.TheConstants.{MOST_COPIES}
use Rattle.etalis_core.specs.declared.present.Present.{Present}
use Rattle.etalis_core.specs.declared.ledger.Ledger.{Ledger}
use Rattle.etalis_core.specs.Kept.{number_of, copies_from, is_kept, was_kept, net_change, net_changes, AreCopies, HasCopies, HasRoom, IsLedgerOf}
use Rattle.etalis_core.proofs.HistoryLaws.{own, fine_parts, all_inputs_next, bound_next, copies_from_next, same_below, same_below_next, early_alike, settles_outside, all_settled}
use Rattle.etalis_core.proofs.PresentLaws.{has_copy}

-- ---- the net changes, event by event

abbrev differs : Bool → Bool → Bool
differs b a = (b && not a) || (a && not b)

pub has_changed : (before after : List Event) (q : Event) → has event_cmp q (changed_events before after) ≡ differs (has event_cmp q before) (has event_cmp q after)
has_changed before after q =
    has-canon exact_events q (without event_cmp before after ++ without event_cmp after before)
    ∙ has-append exact_events q (without event_cmp before after) (without event_cmp after before)
    ∙ (λ i. has-without exact_events q before after i || has-without exact_events q after before i)

turned : (b a : Bool) → (if differs b a then not a else a) ≡ b
turned true true = refl
turned true false = refl
turned false true = refl
turned false false = refl

tells : (h b a : Bool) → (if h then not a else a) ≡ b → h ≡ differs b a
tells true true true e = sym e
tells true true false e = refl
tells true false true e = refl
tells true false false e = e
tells false true true e = refl
tells false true false e = e
tells false false true e = sym e
tells false false false e = refl

no_difference : (b c : Bool) → b ≡ c → differs b c ≡ false
no_difference true true e = refl
no_difference true false e = absurd (true≢false e)
no_difference false true e = absurd (true≢false (sym e))
no_difference false false e = refl

undone : (f : Event → Bool) (es : List Event) → map event_of (map (λ e. if f e then Came e else Went e) es) ≡ es
undone f [] = refl
undone f (e ∷ es) = elim (f e) as (λ b. event_of (if b then Came e else Went e) ∷ map event_of (map (λ e. if f e then Came e else Went e) es) ≡ e ∷ es)
    [ true ↦ ap (λ l. e ∷ l) (undone f es) | false ↦ ap (λ l. e ∷ l) (undone f es) ]

-- two tests that agree on the events of a list tell the same of them
told_alike : (f g : Event → Bool) (es : List Event) → ((e : Event) → has event_cmp e es ≡ true → f e ≡ g e)
    → map (λ e. if f e then Came e else Went e) es ≡ map (λ e. if g e then Came e else Went e) es
told_alike f g [] h = refl
told_alike f g (e ∷ es) h =
    let here : f e ≡ g e = h e (ap (λ c. is_eq c || has event_cmp e es) (tied_itself exact_events.total e)) in
    let rest = told_alike f g es (λ q m. h q (ap (λ b. is_eq (event_cmp q e) || b) m ∙ any (is_eq (event_cmp q e)))) in
    λ i. (if here i then Came e else Went e) ∷ rest i
  where
    any : (t : Bool) → (t || true) ≡ true
    any true = refl
    any false = refl

-- events from the bound on, where nothing differs below it
module _ (kept : Present) (from : ℕ) (told inputs : List Input) (same : HasCopies kept from inputs)
    (alike : IsSameBelow from (present told) (present inputs)) where
  abbrev before : Event → Bool
  before e = has event_cmp e (present told)

  abbrev after : Event → Bool
  after e = has event_cmp e (present inputs)

  abbrev early : Event → Bool
  early e = nat_lt (time_of e) from

  kept_is : (e : Event) → is_kept kept e ≡ (not (early e) && after e)
  kept_is e = has_copy (number_of kept) from inputs same e

  -- an event below the bound hasn't changed
  no_early : (e : Event) → early e ≡ true → differs (before e) (after e) ≡ false
  no_early e h = no_difference (before e) (after e) (early_alike from (present told) (present inputs) alike e h)

  -- so a test from the bound on differs where the whole test does
  from_bound : (e : Event) → differs (not (early e) && before e) (not (early e) && after e) ≡ differs (before e) (after e)
  from_bound e = at (early e) refl
    where
      at : (b : Bool) → early e ≡ b → differs (not b && before e) (not b && after e) ≡ differs (before e) (after e)
      at true h = sym (no_early e h)
      at false h = refl

  changed_is : net_changes kept ≡ event_changes (present told) (present inputs) → kept.changed.keys ≡ changed_events (present told) (present inputs)
  changed_is net = sym (undone (is_kept kept) kept.changed.keys) ∙ ap (map event_of) net ∙ undone after (changed_events (present told) (present inputs))

  pub was_from_net : net_changes kept ≡ event_changes (present told) (present inputs) → (e : Event) → was_kept kept e ≡ (not (early e) && before e)
  was_from_net net e =
      let changed : has event_cmp e kept.changed.keys ≡ differs (not (early e) && before e) (not (early e) && after e) =
      ap (has event_cmp e) (changed_is net) ∙ has_changed (present told) (present inputs) e ∙ sym (from_bound e) in
      (λ i. if changed i then not (kept_is e i) else kept_is e i) ∙ turned (not (early e) && before e) (not (early e) && after e)

  pub net_from_was : ((e : Event) → was_kept kept e ≡ (not (early e) && before e)) → net_changes kept ≡ event_changes (present told) (present inputs)
  net_from_was was =
      ap (map (net_change kept)) changed ∙ told_alike (is_kept kept) after (changed_events (present told) (present inputs)) on_changed
    where
      changed : kept.changed.keys ≡ changed_events (present told) (present inputs)
      changed =
          canon_one exact_events kept.changed.keys (changed_events (present told) (present inputs)) (rising_sorted event_cmp kept.changed.keys kept.in_order)
          (Rising-canon exact_events (without event_cmp (present told) (present inputs) ++ without event_cmp (present inputs) (present told)))
          (λ e. tells (has event_cmp e kept.changed.keys) (not (early e) && before e) (is_kept kept e) (was e)
          ∙ ap (differs (not (early e) && before e)) (kept_is e) ∙ from_bound e ∙ sym (has_changed (present told) (present inputs) e))

      on_changed : (e : Event) → has event_cmp e (changed_events (present told) (present inputs)) ≡ true → is_kept kept e ≡ after e
      on_changed e h = kept_is e ∙ at (early e) refl
        where
          at : (b : Bool) → early e ≡ b → (not b && after e) ≡ after e
          at true g = absurd (true≢false (sym h ∙ has_changed (present told) (present inputs) e ∙ no_early e g))
          at false g = refl

-- ---- one ledger and the next

-- the ledger of no inputs
pub ledger_new : (ledger : Ledger) (late : Option ℕ) → ((e : Event) → number_of ledger.present e ≡ 0) → ledger.present.changed.keys ≡ []
    → ledger.bound ≡ 0 → ledger.next_bound ≡ 0 → ledger.in_batch ≡ false → IsLedgerOf ledger late [] no_history
ledger_new ledger late counts none bound next batch = record {
  numbers = λ e. none_from (number_of ledger.present e) (counts e) (nat_lt (time_of e) 0);
  net = ap (map (net_change ledger.present)) none;
  told_bound = bound;
  next_bound = next;
  rises = omega arith;
  batch = batch;
}
  where
    none_from : (n : ℕ) → n ≡ 0 → (b : Bool) → n ≡ (if b then 0 else 0)
    none_from n h true = h
    none_from n h false = h

-- a batch is open behind an input exactly where the input settles nothing
pub open_where : (ledger : Ledger) (late : Option ℕ) (told : List Input) (h : History) (input : Input) → IsLedgerOf ledger late told (extended h input)
    → (is_open : Bool) → is_open ≡ ledger.in_batch → is_open ≡ not (settles h input)
open_where ledger late told h input l is_open e = e ∙ l.batch ∙ settles_outside h input

-- so where none is open it settles, and where one is it doesn't
pub settled_where : (settling is_open b : Bool) → is_open ≡ not settling → is_open ≡ b → settling ≡ not b
settled_where settling is_open b o is = sym (not-not settling) ∙ ap not (sym o ∙ is)

-- where there is room by the inputs there is room in what is kept
pub room_kept : (kept : Present) (from : ℕ) (inputs : List Input) (input : Input) → HasCopies kept from inputs → HasRoom (copies inputs) input → HasRoom (number_of kept) input
room_kept kept from inputs (Add e) same room = subst (λ n. n < MOST_COPIES) (sym (same e)) (at (nat_lt (time_of e) from))
  where
    at : (b : Bool) → (if b then 0 else copies inputs e) < MOST_COPIES
    at true = omega arith
    at false = room
room_kept kept from inputs (Take e) same room = tt
room_kept kept from inputs (Advance t) same room = tt
room_kept kept from inputs Nothing same room = tt
room_kept kept from inputs Begin same room = tt
room_kept kept from inputs Commit same room = tt

-- the ledger of a history and one input more that is fine
pub ledger_next : (old new : Ledger) (late : Option ℕ) (h : History) (input : Input) → IsLedgerOf old late (settled h) h → IsAccepted late h → judge late h input ≡ judgement.Fine
    → ((e : Event) → number_of new.present e ≡ number_of old.present e + occurrences e (added input) - occurrences e (taken input))
    → ((e : Event) → was_kept new.present e ≡ was_kept old.present e)
    → new.bound ≡ old.bound → new.next_bound ≡ max old.next_bound (raised late input) → new.in_batch ≡ in_batch (extended h input)
    → IsLedgerOf new late (settled h) (extended h input)
ledger_next old new late h input l a fine counts was bounded next batch =
    let parts = fine_parts late h input fine in
    let b : ℕ = bound late (settled h) in
    let inputs : all_inputs (extended h input) ≡ all_inputs h ++ own input = all_inputs_next h input parts.placed in
    let numbers : HasCopies new.present b (all_inputs (extended h input)) =
    λ e. counts e ∙ copies_from_next late h input b e a parts.there parts.not_below (number_of old.present e) (l.numbers e) ∙ ap (λ xs. copies_from b (copies xs) e) (sym inputs) in
    let bounds : bound late (all_inputs (extended h input)) ≡ max (bound late (all_inputs h)) (raised late input) = ap (bound late) inputs ∙ bound_next late (all_inputs h) input in
    record {
      numbers = numbers;
      net = net_from_was new.present b (settled h) (all_inputs (extended h input)) numbers (same_below_next late h input a fine)
          (λ e. was e ∙ was_from_net old.present b (settled h) (all_inputs h) l.numbers (same_below late h a) l.net e);
      told_bound = bounded ∙ l.told_bound;
      next_bound = next ∙ ap (λ b. max b (raised late input)) l.next_bound ∙ sym bounds;
      rises = omega (arith, l.rises, bounds);
      batch = batch;
    }

-- a ledger that keeps the same is that of the same histories
pub ledger_same : (old new : Ledger) (late : Option ℕ) (told : List Input) (h : History) → IsLedgerOf old late told h
    → ((e : Event) → number_of new.present e ≡ number_of old.present e) → new.present.changed.keys ≡ old.present.changed.keys
    → new.bound ≡ old.bound → new.next_bound ≡ old.next_bound → new.in_batch ≡ old.in_batch → IsLedgerOf new late told h
ledger_same old new late told h l counts changed bounded next batch = record {
  numbers = λ e. counts e ∙ l.numbers e;
  net = (λ i. map (λ e. if nat_lt 0 (counts e i) then Came e else Went e) (changed i)) ∙ l.net;
  told_bound = bounded ∙ l.told_bound;
  next_bound = next ∙ l.next_bound;
  rises = l.rises;
  batch = batch ∙ l.batch;
}

-- a ledger that has forgotten the changes, raised its bound and dropped what is below it
pub ledger_settled : (old new : Ledger) (late : Option ℕ) (told : List Input) (h : History) → IsLedgerOf old late told h
    → ((e : Event) → number_of new.present e ≡ copies_from old.next_bound (number_of old.present) e) → new.present.changed.keys ≡ []
    → new.bound ≡ old.next_bound → new.next_bound ≡ old.next_bound → new.in_batch ≡ old.in_batch → IsLedgerOf new late (all_inputs h) h
ledger_settled old new late told h l counts none bounded next batch =
    let b : ℕ = bound late (all_inputs h) in
    let numbers : HasCopies new.present b (all_inputs h) =
    λ e. counts e ∙ (λ i. if nat_lt (time_of e) (l.next_bound i) then 0 else l.numbers e i) ∙ higher (time_of e) (bound late told) b (copies (all_inputs h) e) l.rises in
    record {
      numbers = numbers;
      net = net_from_was new.present b (all_inputs h) (all_inputs h) numbers refl
          (λ e. ap (λ l. if has event_cmp e l then not (is_kept new.present e) else is_kept new.present e) none ∙ kept_is new.present b (all_inputs h) (all_inputs h) numbers refl e);
      told_bound = bounded ∙ l.next_bound;
      next_bound = next ∙ l.next_bound;
      rises = omega arith;
      batch = batch ∙ l.batch;
    }
  where
    higher : (t low high n : ℕ) → low ≤ high → (if nat_lt t high then 0 else (if nat_lt t low then 0 else n)) ≡ (if nat_lt t high then 0 else n)
    higher t low high n le = at (nat_lt t high) refl
      where
        not_lower : nat_lt t high ≡ false → nat_lt t low ≡ false
        not_lower e = grind (arith, nat_tests)

        at : (c : Bool) → nat_lt t high ≡ c → (if c then 0 else (if nat_lt t low then 0 else n)) ≡ (if c then 0 else n)
        at true e = refl
        at false e = ap (λ d. if d then 0 else n) (not_lower e)

-- a ledger of a history in which no batch is open: without changes, with the bound and the copies of events from the bound on
pub ledger_over : (new : Ledger) (late : Option ℕ) (h : History) → in_batch h ≡ false
    → AreCopies (number_of new.present) (bound late (settled h)) (all_inputs h) → new.present.changed.keys ≡ []
    → new.bound ≡ bound late (settled h) → new.next_bound ≡ bound late (settled h) → new.in_batch ≡ false
    → IsLedgerOf new late (settled h) h
ledger_over new late h outside numbers none bounded next batch =
    let told : all_inputs h ≡ settled h = all_settled h outside in
    subst (λ xs. IsLedgerOf new late xs h) told
    (let b : ℕ = bound late (all_inputs h) in
    let counts : HasCopies new.present b (all_inputs h) =
    subst (λ xs. HasCopies new.present (bound late xs) (all_inputs h)) (sym told) numbers in
    record {
      numbers = counts;
      net = net_from_was new.present b (all_inputs h) (all_inputs h) counts refl
          (λ e. ap (λ l. if has event_cmp e l then not (is_kept new.present e) else is_kept new.present e) none
          ∙ kept_is new.present b (all_inputs h) (all_inputs h) counts refl e);
      told_bound = bounded ∙ ap (bound late) (sym told);
      next_bound = next ∙ ap (bound late) (sym told);
      rises = omega arith;
      batch = batch ∙ sym outside;
    })
