-- A set of events to which changes are applied one by one.
use Rattle.std.proofs.Common.{◌≡◌, ℕ, ◌∷◌, [], ◌||◌, List, Bool, true, false, not, ◌&&◌, refl, sym, ap, ◌∙◌, map, subst}
use Rattle.std.specs.Prelude.{Option, if◌then◌else◌}
use Rattle.std.specs.Ordering.{is_eq}
use Rattle.ordered_lists.specs.Canon.{has, Rising, canon_one}
use Rattle.event_model.specs.declared.events.Event.{Event}
use Rattle.event_model.specs.EventOrder.{event_cmp, exact_events}
use Rattle.event_model.specs.Presence.{History, settled, all_inputs, extended, settles, present}
use Rattle.event_model.specs.declared.inputs.Input.{Input}
use Rattle.event_changes.specs.declared.events.EventChange.{EventChange}
use Rattle.event_changes.specs.declared.events.EventChange.TheVariants.{Came, Went}
use Rattle.event_changes.specs.Events.{event_of, event_change, changed_events, event_changes}
use Rattle.etalis_core.specs.declared.roll.Roll.{Roll}
use Rattle.etalis_core.specs.Kept.{has_come, IsLedgerOf, IsRollOf}
use Rattle.etalis_core.proofs.HistoryLaws.{settled_all, settled_same}
use Rattle.etalis_core.proofs.PresentLaws.{ties, ties_back}
use Rattle.etalis_core.proofs.LedgerLaws.{has_changed}

-- whether an event is in the set after these changes, where it's known whether it was before them
abbrev pub applied : List EventChange → Event → Bool → Bool
applied [] e was = was
applied (c ∷ cs) e was = applied cs e (if is_eq (event_cmp (event_of c) e) then has_come c else was)

event_is : (after : List Event) (x : Event) → event_of (event_change after x) ≡ x
event_is after x = elim (has event_cmp x after) as (λ b. event_of (if b then Came x else Went x) ≡ x) [ true ↦ refl | false ↦ refl ]

come_is : (after : List Event) (x : Event) → has_come (event_change after x) ≡ has event_cmp x after
come_is after x = elim (has event_cmp x after) as (λ b. has_come (if b then Came x else Went x) ≡ b) [ true ↦ refl | false ↦ refl ]

-- an event that changed is there where it is after the changes, and every other as before
applied_changes : (after xs : List Event) (e : Event) (was : Bool)
    → applied (map (event_change after) xs) e was ≡ (if has event_cmp e xs then has event_cmp e after else was)
applied_changes after [] e was = refl
applied_changes after (x ∷ xs) e was =
    applied_changes after xs e (if is_eq (event_cmp (event_of (event_change after x)) e) then has_come (event_change after x) else was)
    ∙ (λ i. if has event_cmp e xs then has event_cmp e after else (if is_eq (event_cmp (event_is after x i) e) then come_is after x i else was))
    ∙ at (is_eq (event_cmp x e)) refl
    ∙ ap (λ t. if (t || has event_cmp e xs) then has event_cmp e after else was) (ties_back x e)
  where
    here : (h s : Bool) → (if h then s else s) ≡ s
    here true s = refl
    here false s = refl

    at : (t : Bool) → is_eq (event_cmp x e) ≡ t
        → (if has event_cmp e xs then has event_cmp e after else (if t then has event_cmp x after else was))
        ≡ (if (t || has event_cmp e xs) then has event_cmp e after else was)
    at true t = ap (λ q. if has event_cmp e xs then has event_cmp e after else has event_cmp q after) (ties x e t) ∙ here (has event_cmp e xs) (has event_cmp e after)
    at false t = refl

-- the changes from a set to another lead to that
pub all_applied : (before after new : List Event) → Rising event_cmp after → Rising event_cmp new
    → ((e : Event) → has event_cmp e new ≡ applied (event_changes before after) e (has event_cmp e before)) → new ≡ after
all_applied before after new rises rising same =
    canon_one exact_events new after rising rises
    (λ e. same e ∙ applied_changes after (changed_events before after) e (has event_cmp e before)
    ∙ ap (λ d. if d then has event_cmp e after else has event_cmp e before) (has_changed before after e) ∙ at (has event_cmp e before) (has event_cmp e after))
  where
    at : (b a : Bool) → (if ((b && not a) || (a && not b)) then a else b) ≡ a
    at true true = refl
    at true false = refl
    at false true = refl
    at false false = refl

-- a roll whose ledger has followed an input that settles nothing
pub roll_same : (old new : Roll) (late : Option ℕ) (h : History) (input : Input) → IsRollOf old late h → settles h input ≡ false
    → IsLedgerOf new.ledger late (settled h) (extended h input) → new.events.keys ≡ old.events.keys → IsRollOf new late (extended h input)
roll_same old new late h input r nothing ledger same =
    let told : settled h ≡ settled (extended h input) = sym (settled_same h input nothing) in
    record {
      ledger = subst (λ l. IsLedgerOf new.ledger late l (extended h input)) told ledger;
      events = same ∙ r.events ∙ ap present told;
    }

-- and one that has settled
pub roll_settled : (new : Roll) (late : Option ℕ) (h : History) (input : Input) → settles h input ≡ true
    → IsLedgerOf new.ledger late (all_inputs (extended h input)) (extended h input) → new.events.keys ≡ present (all_inputs (extended h input))
    → IsRollOf new late (extended h input)
roll_settled new late h input settling ledger same =
    let told : all_inputs (extended h input) ≡ settled (extended h input) = sym (settled_all h input settling) in
    record {
      ledger = subst (λ l. IsLedgerOf new.ledger late l (extended h input)) told ledger;
      events = same ∙ ap present told;
    }
