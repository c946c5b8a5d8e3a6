-- Copies of events under their times, after one or several came or went.
use Rattle.std.proofs.Common.{◌≡◌, ℕ, zero, suc, ◌+◌, ◌-◌, ◌<◌, ◌≤◌, Bool, true, false, cond, Option, Some, None, [], ◌∷◌, length, refl, sym, ap, ◌∙◌, subst, arith, unwrap_or, is_some, IsSome}
use Rattle.std.specs.Prelude.{◌&&◌, ◌||◌, ◌==◌, nat_lt}
use Rattle.std.specs.Option.{option_and_then, IfSome}
use Rattle.std.specs.Map.{lookup}
use Rattle.std.specs.BTreeMap.{BTreeMap, get, is_at, keys, IsOrdered}
use Rattle.std.specs.Ordering.{is_eq, is_gt, nat_cmp}
use Rattle.std.specs.Cmp.{tied_itself}
use Rattle.std.proofs.Math.Bool.{or-false}
use Rattle.std.proofs.lemmas.List.{length-map}
use Rattle.std.proofs.lemmas.Map.Keys.{le_from_not_gt}
use Rattle.std.proofs.lemmas.Bool.{true≢false}
use Rattle.std.proofs.lemmas.Bool.Decides.{nat_tests}
use Rattle.ordered_lists.specs.Canon.{has}
use Rattle.ordered_lists.specs.Orders.{exact_numbers}
use Rattle.ordered_lists.specs.Rises.{rising_sorted}
use Rattle.event_model.specs.declared.events.Event.{Event}
use Rattle.event_model.specs.Events.{time_of}
use Rattle.event_model.specs.EventOrder.{event_cmp, exact_events}
use Rattle.event_model.specs.Presence.{occurrences}
use Rattle.support_table.specs.Times.{Times, fewer, number_at, number_in, IsTimed, IsCounted, Puts}
use Rattle.support_table.proofs.CopyLaws.{PutsNumber, ties, ties_back, counted_cut, has-keys}

pub eqb_itself : (n : ℕ) → (n == n) ≡ true
eqb_itself n = grind (arith, nat_tests)

-- ---- one event

module _ (old new : Times) (k : Event) (n : Option ℕ) (puts : Puts old new k n) where
  pub puts_number : PutsNumber exact_events k (unwrap_or n 0) (number_in old) (number_in new)
  puts_number e = ap (λ o. unwrap_or o 0) (puts (time_of e) e) ∙ at (is_eq (event_cmp k e)) refl
    where
      at : (b : Bool) → is_eq (event_cmp k e) ≡ b
          → unwrap_or (cond ((time_of k == time_of e) && b) n (number_at old (time_of e) e)) 0 ≡ cond b (unwrap_or n 0) (number_in old e)
      at true t = ap (λ b. unwrap_or (cond (b && true) n (number_at old (time_of e) e)) 0)
          (ap (λ q. time_of k == time_of q) (sym (ties exact_events k e t)) ∙ eqb_itself (time_of k))
      at false t = both (time_of k == time_of e)
        where
          both : (b : Bool) → unwrap_or (cond (b && false) n (number_at old (time_of e) e)) 0 ≡ number_in old e
          both true = refl
          both false = refl

  pub timed_after : IsTimed old → IfSome n (λ v. 0 < v) → IsTimed new
  timed_after timed some t e =
      subst (λ o. IfSome o (λ v. (time_of e ≡ t) × (0 < v))) (sym (puts t e)) (at (time_of k == t) refl (is_eq (event_cmp k e)) refl)
    where
      here : (o : Option ℕ) → IfSome o (λ v. 0 < v) → time_of e ≡ t → IfSome o (λ v. (time_of e ≡ t) × (0 < v))
      here None h d = tt
      here (Some v) h d = (d, h)

      at : (a : Bool) → (time_of k == t) ≡ a → (b : Bool) → is_eq (event_cmp k e) ≡ b
          → IfSome (cond (a && b) n (number_at old t e)) (λ v. (time_of e ≡ t) × (0 < v))
      at true g true h = here n some (sym (ap time_of (ties exact_events k e h)) ∙ (let d : (time_of k == t) ≡ true = g in grind (arith, nat_tests)))
      at true g false h = timed t e
      at false g b h = timed t e

module _ (k : Event) (v : ℕ) (f g : Event → ℕ) (puts : PutsNumber exact_events k v f g) where
  pub one_more : v ≡ f k + 1 → (e : Event) → g e ≡ f e + occurrences e (k ∷ [])
  one_more is e = at (is_eq (event_cmp k e)) refl
    where
      at : (b : Bool) → is_eq (event_cmp k e) ≡ b → g e ≡ f e + occurrences e (k ∷ [])
      at true t =
          let one : occurrences e (k ∷ []) ≡ 1 = ap (λ b. cond b (suc zero) zero) (ties_back exact_events e k ∙ t) in
          let now : g e ≡ v = puts e ∙ ap (λ b. cond b v (f e)) t in
          let was : f e ≡ f k = ap f (sym (ties exact_events k e t)) in
          omega (arith, one, now, was, is)
      at false t =
          let none : occurrences e (k ∷ []) ≡ 0 = ap (λ b. cond b (suc zero) zero) (ties_back exact_events e k ∙ t) in
          let now : g e ≡ f e = puts e ∙ ap (λ b. cond b v (f e)) t in
          omega (arith, none, now)

  pub one_less : v ≡ f k - 1 → (e : Event) → g e ≡ f e - occurrences e (k ∷ [])
  one_less is e = at (is_eq (event_cmp k e)) refl
    where
      at : (b : Bool) → is_eq (event_cmp k e) ≡ b → g e ≡ f e - occurrences e (k ∷ [])
      at true t =
          let one : occurrences e (k ∷ []) ≡ 1 = ap (λ b. cond b (suc zero) zero) (ties_back exact_events e k ∙ t) in
          let now : g e ≡ v = puts e ∙ ap (λ b. cond b v (f e)) t in
          let was : f e ≡ f k = ap f (sym (ties exact_events k e t)) in
          omega (arith, one, now, was, is)
      at false t =
          let none : occurrences e (k ∷ []) ≡ 0 = ap (λ b. cond b (suc zero) zero) (ties_back exact_events e k ∙ t) in
          let now : g e ≡ f e = puts e ∙ ap (λ b. cond b v (f e)) t in
          omega (arith, none, now)

-- what is kept of a number where one goes
pub fewer_number : (n : ℕ) → unwrap_or (fewer n) 0 ≡ n - 1
fewer_number n = at (nat_lt 1 n) refl
  where
    at : (b : Bool) → nat_lt 1 n ≡ b → unwrap_or (cond b (Some (n - 1)) None) 0 ≡ n - 1
    at true e = refl
    at false e = let least : n ≤ 1 = grind (arith, nat_tests) in omega (arith, least)

pub fewer_some : (n : ℕ) → IfSome (fewer n) (λ v. 0 < v)
fewer_some n = at (nat_lt 1 n) refl
  where
    at : (b : Bool) → nat_lt 1 n ≡ b → IfSome (cond b (Some (n - 1)) None) (λ v. 0 < v)
    at true e = let more : 1 < n = grind (arith, nat_tests) in omega (arith, more)
    at false e = tt

-- an event that isn't there isn't there afterwards
pub none_kept : (m : BTreeMap Event ℕ) (k : Event) → get event_cmp m k ≡ None
    → (e : Event) → get event_cmp m e ≡ cond (is_eq (event_cmp k e)) None (get event_cmp m e)
none_kept m k none e = at (is_eq (event_cmp k e)) refl
  where
    at : (b : Bool) → is_eq (event_cmp k e) ≡ b → get event_cmp m e ≡ cond b None (get event_cmp m e)
    at true t = ap (get event_cmp m) (sym (ties exact_events k e t)) ∙ none
    at false t = refl

-- nor is one of a time that isn't there
pub nowhere_kept : (times : Times) (k : Event) → get nat_cmp times (time_of k) ≡ None
    → (t : ℕ) (e : Event) → number_at times t e ≡ cond ((time_of k == t) && is_eq (event_cmp k e)) None (number_at times t e)
nowhere_kept times k none t e = at (time_of k == t) refl (is_eq (event_cmp k e))
  where
    at : (a : Bool) → (time_of k == t) ≡ a → (b : Bool) → number_at times t e ≡ cond (a && b) None (number_at times t e)
    at true g true =
        let same : t ≡ time_of k = grind (arith, nat_tests) in
        ap (λ q. option_and_then (λ m. get event_cmp m e) (get nat_cmp times q)) same ∙ ap (option_and_then (λ m. get event_cmp m e)) none
    at true g false = refl
    at false g b = refl

-- ---- all events of a time

pub empty_number : (times : Times) → times.entries ≡ [] → (t : ℕ) (e : Event) → number_at times t e ≡ None
empty_number times h t e = ap (λ es. option_and_then (λ m. get event_cmp m e) (lookup (is_at (nat_cmp t)) es)) h

module _ (old new : Times) (t : ℕ) (events : BTreeMap Event ℕ) (at_time : get nat_cmp old t ≡ Some events)
    (gone : (q : ℕ) → get nat_cmp new q ≡ cond (is_eq (nat_cmp t q)) None (get nat_cmp old q)) where
  removed : (s : ℕ) (e : Event) (b : Bool) → is_eq (nat_cmp t s) ≡ b → number_at new s e ≡ cond b None (number_at old s e)
  removed s e true h = ap (option_and_then (λ m. get event_cmp m e)) (gone s ∙ ap (λ b. cond b None (get nat_cmp old s)) h)
  removed s e false h = ap (option_and_then (λ m. get event_cmp m e)) (gone s ∙ ap (λ b. cond b None (get nat_cmp old s)) h)

  pub timed_removed : IsTimed old → IsTimed new
  timed_removed timed s e = at (is_eq (nat_cmp t s)) refl
    where
      at : (b : Bool) → is_eq (nat_cmp t s) ≡ b → IfSome (number_at new s e) (λ v. (time_of e ≡ s) × (0 < v))
      at true h = subst (λ o. IfSome o (λ v. (time_of e ≡ s) × (0 < v))) (sym (removed s e true h)) tt
      at false h = subst (λ o. IfSome o (λ v. (time_of e ≡ s) × (0 < v))) (sym (removed s e false h)) (timed s e)

  stays_at : (e : Event) → is_eq (nat_cmp t (time_of e)) ≡ false → number_in new e ≡ number_in old e
  stays_at e h = ap (λ o. unwrap_or o 0) (removed (time_of e) e false h)

  pub kept_number : (bound : ℕ) → t < bound → (e : Event) → nat_lt (time_of e) bound ≡ false → number_in new e ≡ number_in old e
  kept_number bound below e h = stays_at e (at (is_eq (nat_cmp t (time_of e))) refl)
    where
      at : (b : Bool) → is_eq (nat_cmp t (time_of e)) ≡ b → is_eq (nat_cmp t (time_of e)) ≡ false
      at false g = g
      at true g = let same : t ≡ time_of e = ties exact_numbers t (time_of e) g in
          let lt : nat_lt (time_of e) bound ≡ true = grind (arith, nat_tests) in absurd (true≢false (sym lt ∙ h))

  pub counted_removed : IsTimed old → IsOrdered event_cmp events → (held : ℕ) → IsCounted held (number_in old)
      → IsCounted (held - length events.entries) (number_in new)
  counted_removed timed order held counted =
      subst (λ m. IsCounted (held - m) (number_in new)) (length-map events.entries (λ e. e.0))
      (counted_cut exact_events held (number_in old) (number_in new) counted (keys events) (rising_sorted event_cmp (keys events) order) parts none)
    where
      at_own : (e : Event) → is_eq (nat_cmp t (time_of e)) ≡ true → number_at old (time_of e) e ≡ get event_cmp events e
      at_own e h = ap (option_and_then (λ m. get event_cmp m e)) (ap (get nat_cmp old) (sym (ties exact_numbers t (time_of e) h)) ∙ at_time)

      some : (o : Option ℕ) (P : ℕ → Type 0) → IfSome o (λ v. P v × (0 < v)) → nat_lt 0 (unwrap_or o 0) ≡ is_some o
      some None P h = refl
      some (Some v) P h = let lt : 0 < v = h.1 in grind (arith, nat_tests)

      own_time : (e : Event) (o : Option ℕ) → get event_cmp events e ≡ o → is_some o ≡ true → is_eq (nat_cmp t (time_of e)) ≡ true
      own_time e None g h = absurd (true≢false (sym h))
      own_time e (Some v) g h =
          let is : number_at old t e ≡ Some v = ap (option_and_then (λ m. get event_cmp m e)) at_time ∙ g in
          let same : time_of e ≡ t = (subst (λ o. IfSome o (λ v. (time_of e ≡ t) × (0 < v))) is (timed t e)).0 in
          ap (λ s. is_eq (nat_cmp t s)) same ∙ ap is_eq (tied_itself exact_numbers.total t)

      parts : (e : Event) → nat_lt 0 (number_in old e) ≡ (has event_cmp e (keys events) || nat_lt 0 (number_in new e))
      parts e = at (is_eq (nat_cmp t (time_of e))) refl ∙ ap (λ b. b || nat_lt 0 (number_in new e)) (sym (has-keys exact_events e events.entries))
        where
          away : (b : Bool) → is_some (get event_cmp events e) ≡ b → is_eq (nat_cmp t (time_of e)) ≡ false → is_some (get event_cmp events e) ≡ false
          away true g h = absurd (true≢false (sym (own_time e (get event_cmp events e) refl g) ∙ h))
          away false g h = g

          at : (b : Bool) → is_eq (nat_cmp t (time_of e)) ≡ b
              → nat_lt 0 (number_in old e) ≡ (is_some (get event_cmp events e) || nat_lt 0 (number_in new e))
          at true h = some (number_at old (time_of e) e) (λ v. time_of e ≡ time_of e) (timed (time_of e) e) ∙ ap is_some (at_own e h)
              ∙ sym (or-false (is_some (get event_cmp events e)))
              ∙ ap (λ n. is_some (get event_cmp events e) || nat_lt 0 n) (sym (ap (λ o. unwrap_or o 0) (removed (time_of e) e true h)))
          at false h = ap (nat_lt 0) (sym (stays_at e h))
              ∙ ap (λ b. b || nat_lt 0 (number_in new e)) (sym (away (is_some (get event_cmp events e)) refl h))

      none : (e : Event) → has event_cmp e (keys events) ≡ true → nat_lt 0 (number_in new e) ≡ false
      none e h = ap (λ o. nat_lt 0 (unwrap_or o 0)) (removed (time_of e) e true
          (own_time e (get event_cmp events e) refl (sym (has-keys exact_events e events.entries) ∙ h)))

-- below the earliest time there is no copy
pub none_below : (times : Times) (t bound : ℕ) → ((q : ℕ) → IsSome (get nat_cmp times q) → is_gt (nat_cmp t q) ≡ false) → bound ≤ t
    → (e : Event) → nat_lt (time_of e) bound ≡ true → number_in times e ≡ 0
none_below times t bound least above e h = at (get nat_cmp times (time_of e)) refl
  where
    at : (o : Option (BTreeMap Event ℕ)) → get nat_cmp times (time_of e) ≡ o → number_in times e ≡ 0
    at None g = ap (λ o. unwrap_or (option_and_then (λ m. get event_cmp m e) o) 0) g
    at (Some m) g =
        let le : t ≤ time_of e = le_from_not_gt t (time_of e) (least (time_of e) (subst IsSome (sym g) refl)) in
        let no : nat_lt (time_of e) bound ≡ false = grind (arith, nat_tests) in
        absurd (true≢false (sym h ∙ no))

-- nothing is timed where there is nothing
pub timed_none : (times : Times) → ((t : ℕ) (e : Event) → number_at times t e ≡ None) → IsTimed times
timed_none times none t e = subst (λ o. IfSome o (λ n. (time_of e ≡ t) × (0 < n))) (sym (none t e)) tt
