-- Copies and changes of events, after a copy came or went.
use Rattle.std.proofs.Common.{◌≡◌, ℕ, ◌+◌, ◌-◌, ◌<◌, ◌&&◌, ◌==◌, ◌⊎◌, inl, inr, zero, suc, Bool, true, false, not, List, [], ◌∷◌, OnOk, OnErr, Result, Ok, Err, refl, sym, ap, ◌∙◌, subst, arith}
use Rattle.std.specs.Prelude.{nat_le, nat_lt, if◌then◌else◌}
use Rattle.std.specs.List.{filter}
use Rattle.std.specs.Ordering.{is_eq, ordering_reverse}
use Rattle.std.specs.declared.cmp.Ordering.{Ordering}
use Rattle.std.specs.declared.cmp.Ordering.TheVariants.{Less, Equal, Greater}
use Rattle.std.proofs.lemmas.Bool.{true≢false}
use Rattle.std.proofs.lemmas.Bool.Decides.{nat_tests}
use Rattle.ordered_lists.specs.Canon.{has, Rising, Rising-filter, has-filter}
use Rattle.event_model.specs.declared.events.Event.{Event}
use Rattle.event_model.specs.Events.{time_of}
use Rattle.event_model.specs.EventOrder.{event_cmp, exact_events}
use Rattle.event_model.specs.Presence.{added, taken, occurrences, copies, present}
use Rattle.event_model.specs.declared.inputs.Input.{Input}
use Rattle.event_model.specs.declared.inputs.Input.TheVariants.{Add, Take}
use Rattle.support_table.specs.declared.supports.Change.{Change}
use Rattle.support_table.specs.declared.supports.Change.TheVariants.{Appeared, Vanished, Same}
use Rattle.etalis_core.specs.Kept.{copies_from}
use Rattle.etalis_core.proofs.HistoryLaws.{has-present, rising-present}

-- ---- the number of an event of which a copy came or went

reversed : (c : Ordering) → is_eq (ordering_reverse c) ≡ is_eq c
reversed Less = refl
reversed Equal = refl
reversed Greater = refl

pub ties_back : (x y : Event) → is_eq (event_cmp x y) ≡ is_eq (event_cmp y x)
ties_back x y = ap is_eq (exact_events.total.antisymm x y) ∙ reversed (event_cmp y x)

pub ties : (x y : Event) → is_eq (event_cmp x y) ≡ true → x ≡ y
ties x y e = at (event_cmp x y) refl e
  where
    at : (c : Ordering) → event_cmp x y ≡ c → is_eq c ≡ true → x ≡ y
    at Less p e = absurd (true≢false (sym e))
    at Equal p e = exact_events.same x y p
    at Greater p e = absurd (true≢false (sym e))

module _ (k : Event) (f g : Event → ℕ) where
  abbrev pub OneMore : Type 0
  OneMore = (e : Event) → g e ≡ f e + occurrences e (k ∷ [])

  abbrev pub OneLess : Type 0
  OneLess = (e : Event) → g e ≡ f e - occurrences e (k ∷ [])

  -- an event is present where it wasn't
  abbrev pub Turned : Type 0
  Turned = (e : Event) → nat_lt 0 (g e) ≡ (if is_eq (event_cmp k e) then not (nat_lt 0 (f e)) else nat_lt 0 (f e))

  this : (e : Event) → is_eq (event_cmp k e) ≡ true → (occurrences e (k ∷ []) ≡ 1) × (f e ≡ f k)
  this e t = (ap (λ b. if b then suc zero else zero) (ties_back e k ∙ t), ap f (sym (ties k e t)))

  other : (e : Event) → is_eq (event_cmp k e) ≡ false → occurrences e (k ∷ []) ≡ 0
  other e t = ap (λ b. if b then suc zero else zero) (ties_back e k ∙ t)

  comes : OneMore → f k ≡ 0 → Turned
  comes more none e = at (is_eq (event_cmp k e)) refl
    where
      at : (b : Bool) → is_eq (event_cmp k e) ≡ b → nat_lt 0 (g e) ≡ (if b then not (nat_lt 0 (f e)) else nat_lt 0 (f e))
      at true t =
          let one : g e ≡ 1 = omega (arith, more e, (this e t).0, (this e t).1, none) in
          ap (nat_lt 0) one ∙ ap (λ n. not (nat_lt 0 n)) (sym ((this e t).1 ∙ none))
      at false t = ap (nat_lt 0) (let same : g e ≡ f e = omega (arith, more e, other e t) in same)

  goes : OneLess → f k ≡ 1 → Turned
  goes less last e = at (is_eq (event_cmp k e)) refl
    where
      at : (b : Bool) → is_eq (event_cmp k e) ≡ b → nat_lt 0 (g e) ≡ (if b then not (nat_lt 0 (f e)) else nat_lt 0 (f e))
      at true t =
          let none : g e ≡ 0 = omega (arith, less e, (this e t).0, (this e t).1, last) in
          ap (nat_lt 0) none ∙ ap (λ n. not (nat_lt 0 n)) (sym ((this e t).1 ∙ last))
      at false t = ap (nat_lt 0) (let same : g e ≡ f e = omega (arith, less e, other e t) in same)

  both_some : (m n : ℕ) → 0 < m → 0 < n → nat_lt 0 m ≡ nat_lt 0 n
  both_some m n h k = grind (arith, nat_tests)

  some : (n : ℕ) → (n ≡ 0 → ⊥) → 0 < n
  some zero h = absurd (h refl)
  some (suc n) h = omega arith

  -- an event of which copies stay is present as before
  stays_more : OneMore → (f k ≡ 0 → ⊥) → (e : Event) → nat_lt 0 (g e) ≡ nat_lt 0 (f e)
  stays_more more had e = at (is_eq (event_cmp k e)) refl
    where
      at : (b : Bool) → is_eq (event_cmp k e) ≡ b → nat_lt 0 (g e) ≡ nat_lt 0 (f e)
      at true t =
          let there : 0 < f e = omega (arith, some (f k) had, (this e t).1) in
          both_some (g e) (f e) (omega (arith, more e, there)) there
      at false t = ap (nat_lt 0) (let same : g e ≡ f e = omega (arith, more e, other e t) in same)

  one_less : (m n : ℕ) → m ≡ n - 1 → (n ≡ 1 → ⊥) → nat_lt 0 m ≡ nat_lt 0 n
  one_less m zero e h = ap (nat_lt 0) (let none : m ≡ 0 = omega (arith, e) in none)
  one_less m (suc zero) e h = absurd (h refl)
  one_less m (suc (suc n)) e h = both_some m (suc (suc n)) (omega (arith, e)) (omega arith)

  stays_less : OneLess → (f k ≡ 1 → ⊥) → (e : Event) → nat_lt 0 (g e) ≡ nat_lt 0 (f e)
  stays_less less had e = at (is_eq (event_cmp k e)) refl
    where
      at : (b : Bool) → is_eq (event_cmp k e) ≡ b → nat_lt 0 (g e) ≡ nat_lt 0 (f e)
      at true t = one_less (g e) (f e) (omega (arith, less e, (this e t).0)) (λ is. had (sym (this e t).1 ∙ is))
      at false t = ap (nat_lt 0) (let same : g e ≡ f e = omega (arith, less e, other e t) in same)

-- ---- what the change of a number tells of it

abbrev pub has_appeared : Change → Bool
has_appeared Appeared = true
has_appeared Vanished = false
has_appeared Same = false

pub was_none : (n : ℕ) → Appeared ≡ (if n == 0 then Appeared else Same) → n ≡ 0
was_none n e = at (n == 0) refl e
  where
    at : (b : Bool) → (n == 0) ≡ b → Appeared ≡ (if b then Appeared else Same) → n ≡ 0
    at true is same = grind (arith, nat_tests)
    at false is same = absurd (true≢false (ap has_appeared same))

pub was_some : (n : ℕ) (c : Change) → (c ≡ Same) ⊎ (c ≡ Vanished) → c ≡ (if n == 0 then Appeared else Same) → n ≡ 0 → ⊥
was_some n c is e none =
    true≢false (sym (ap (λ m. has_appeared (if m == 0 then Appeared else Same)) none) ∙ ap has_appeared (sym e) ∙ elim is [ inl s ↦ ap has_appeared s | inr v ↦ ap has_appeared v ])

-- ---- whether an event was present

turned : (t c k : Bool) → (if (if t then not c else c) then not (if t then not k else k) else (if t then not k else k)) ≡ (if c then not k else k)
turned true true true = refl
turned true true false = refl
turned true false true = refl
turned true false false = refl
turned false c k = refl

was_turned : (t c c' k k' : Bool) → c' ≡ (if t then not c else c) → k' ≡ (if t then not k else k) → (if c' then not k' else k') ≡ (if c then not k else k)
was_turned t c c' k k' p q = (λ i. if p i then not (q i) else q i) ∙ turned t c k

-- an event that was in a set is turned by taking it out
pub turned_out : (k e : Event) (ks after : List Event) → has event_cmp k ks ≡ true → has event_cmp e after ≡ (if is_eq (event_cmp k e) then false else has event_cmp e ks)
    → has event_cmp e after ≡ (if is_eq (event_cmp k e) then not (has event_cmp e ks) else has event_cmp e ks)
turned_out k e ks after h out = out ∙ at (is_eq (event_cmp k e)) refl
  where
    at : (b : Bool) → is_eq (event_cmp k e) ≡ b → (if b then false else has event_cmp e ks) ≡ (if b then not (has event_cmp e ks) else has event_cmp e ks)
    at true t = ap not (sym (ap (λ q. has event_cmp q ks) (sym (ties k e t)) ∙ h))
    at false t = refl

-- the events of a set, but for one that was put in or taken out
abbrev pub Turns : Event → List Event → List Event → Type 0
Turns k ks after = (e : Event) → has event_cmp e after ≡ (if is_eq (event_cmp k e) then not (has event_cmp e ks) else has event_cmp e ks)

-- an event was present where it is now and hasn't changed, or isn't and has
abbrev pub was : List Event → (Event → ℕ) → Event → Bool
was ks f e = if has event_cmp e ks then not (nat_lt 0 (f e)) else nat_lt 0 (f e)

module _ (k : Event) (f g : Event → ℕ) (ks : List Event) where
  -- an event that comes or goes and is turned in a set, was present as before
  pub was_come : OneMore k f g → f k ≡ 0 → (after : List Event) → Turns k ks after → (e : Event) → was after g e ≡ was ks f e
  was_come more none after t e =
      was_turned (is_eq (event_cmp k e)) (has event_cmp e ks) (has event_cmp e after) (nat_lt 0 (f e)) (nat_lt 0 (g e)) (t e) (comes k f g more none e)

  pub was_gone : OneLess k f g → f k ≡ 1 → (after : List Event) → Turns k ks after → (e : Event) → was after g e ≡ was ks f e
  was_gone less last after t e =
      was_turned (is_eq (event_cmp k e)) (has event_cmp e ks) (has event_cmp e after) (nat_lt 0 (f e)) (nat_lt 0 (g e)) (t e) (goes k f g less last e)

  -- and so was one of which copies stay
  pub was_more : OneMore k f g → (f k ≡ 0 → ⊥) → (e : Event) → was ks g e ≡ was ks f e
  was_more more had e = ap (λ b. if has event_cmp e ks then not b else b) (stays_more k f g more had e)

  pub was_less : OneLess k f g → (f k ≡ 1 → ⊥) → (e : Event) → was ks g e ≡ was ks f e
  was_less less had e = ap (λ b. if has event_cmp e ks then not b else b) (stays_less k f g less had e)

-- ---- the copies after an input

-- a fact after an `Ok` gives another
pub on_ok : {A E P Q : Type 0} (r : Result A E) → (P → Q) → OnOk r P → OnOk r Q
on_ok (Ok a) f h = f h
on_ok (Err e) f h = tt

-- what holds anyhow holds after an `Err`
pub on_err : {A E P : Type 0} (r : Result A E) → P → OnErr r P
on_err (Ok a) h = tt
on_err (Err e) h = h

module _ {A E : Type 0} (r : Result A E) (input : Input) (event e : Event) (new old : ℕ) where
  pub followed_add : input ≡ Add event → OnOk r (new ≡ old + occurrences e (event ∷ [])) → OnOk r (new ≡ old + occurrences e (added input) - occurrences e (taken input))
  followed_add is h =
      subst (λ i. OnOk r (new ≡ old + occurrences e (added i) - occurrences e (taken i))) (sym is) (on_ok r (λ p. p ∙ less (old + occurrences e (event ∷ []))) h)
    where
      less : (n : ℕ) → n ≡ n - 0
      less n = omega arith

  pub followed_take : input ≡ Take event → OnOk r (new ≡ old - occurrences e (event ∷ [])) → OnOk r (new ≡ old + occurrences e (added input) - occurrences e (taken input))
  followed_take is h =
      subst (λ i. OnOk r (new ≡ old + occurrences e (added i) - occurrences e (taken i))) (sym is) (on_ok r (λ p. p ∙ ap (λ n. n - occurrences e (event ∷ [])) (more old)) h)
    where
      more : (n : ℕ) → n ≡ n + 0
      more n = omega arith

-- ---- the events that have a copy

-- where the numbers are the copies from a time on, an event has one where it is present with a time of at least that
pub has_copy : (number : Event → ℕ) (from : ℕ) (inputs : List Input) → ((e : Event) → number e ≡ copies_from from (copies inputs) e)
    → (e : Event) → nat_lt 0 (number e) ≡ (not (nat_lt (time_of e) from) && has event_cmp e (present inputs))
has_copy number from inputs same e = ap (nat_lt 0) (same e) ∙ at (nat_lt (time_of e) from) ∙ ap (λ b. not (nat_lt (time_of e) from) && b) (sym (has-present inputs e))
  where
    at : (c : Bool) → nat_lt 0 (if c then 0 else copies inputs e) ≡ (not c && nat_lt 0 (copies inputs e))
    at true = refl
    at false = refl

-- these events, in order
module _ (from : ℕ) (inputs : List Input) where
  abbrev pub events_from : List Event
  events_from = filter (λ e. nat_le from (time_of e)) (present inputs)

  pub rising_from : Rising event_cmp events_from
  rising_from = Rising-filter exact_events (λ e. nat_le from (time_of e)) (present inputs) (rising-present inputs)

  pub has_from : (number : Event → ℕ) → ((e : Event) → number e ≡ copies_from from (copies inputs) e) → (e : Event) → has event_cmp e events_from ≡ nat_lt 0 (number e)
  has_from number same e =
      has-filter exact_events (λ e. nat_le from (time_of e)) e (present inputs)
      ∙ ap (λ b. b && has event_cmp e (present inputs)) (le_not from (time_of e)) ∙ sym (has_copy number from inputs same e)
    where
      le_not : (m n : ℕ) → nat_le m n ≡ not (nat_lt n m)
      le_not m n = grind (arith, nat_tests)
