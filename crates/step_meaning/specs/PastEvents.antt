-- The present events below the bound of an accepted history stay as they are after every input that follows.
use Rattle.std.specs.Prelude.{ℕ, suc, ◌≡◌, ◌-◌, ◌≤◌, refl, Bool, true, false, cond, ◌&&◌, ◌||◌, nat_lt, if◌then◌else◌, Option, Some, None, List, [], ◌∷◌, ◌++◌}
use Rattle.std.specs.List.{filter, flat_map}
use Rattle.std.specs.Ordering.{is_eq}
use Rattle.std.specs.declared.cmp.Ordering.{Ordering}
use Rattle.std.specs.declared.cmp.Ordering.TheVariants.{Less, Equal, Greater}
use Rattle.std.proofs.Common.{ap, sym, ◌∙◌, arith, subst, append-nil}
use Rattle.std.proofs.lemmas.List.Concat.{flat_map-append}
use Rattle.std.proofs.lemmas.Bool.{true≢false}
use Rattle.std.proofs.lemmas.Bool.Decides.{nat_tests}
use Rattle.ordered_lists.specs.Lists.{Each, Each-append, Each-filter}
use Rattle.ordered_lists.specs.Canon.{canon, has, has-append, has-canon, has-filter, canon_one, Rising, Rising-canon, Rising-filter, Each-canon}
use Rattle.event_model.specs.declared.events.Event.{Event}
use Rattle.event_model.specs.Events.{span_of, time_of}
use Rattle.event_model.specs.EventOrder.{event_cmp, exact_events}
use Rattle.event_model.specs.Presence.{History, settled, all_inputs, is_some_batch, batch_inputs, in_batch, with_input, extended, added, taken, occurrences, copies, present, bound, is_misplaced, is_below, is_absent, judge, IsAccepted, NoInput, OneMore}
use Rattle.event_model.specs.declared.inputs.Input.{Input}
use Rattle.event_model.specs.declared.inputs.Input.TheVariants.{Add, Take, Advance, Nothing, Begin, Commit}
use Rattle.event_model.specs.declared.inputs.Judgement.TheVariants.{Fine, Batch, Below, Absent}
use Rattle.step_meaning.specs.Cuts.{Goes, AreOnSpans, ends_before}
use Rattle.step_meaning.specs.PastRows.{IsSameBelow}

-- ---- one list of inputs behind another

abbrev pub AreNotBelow : ℕ → List Input → Type 0
AreNotBelow b inputs = Each (λ i. is_below b i ≡ false) inputs

abbrev is_past : ℕ → Event → Bool
is_past b e = ends_before b (span_of e)

-- an event before the bound and one that isn't differ
apart : (b : ℕ) (q e : Event) → is_past b q ≡ true → nat_lt (time_of e) b ≡ false → is_eq (event_cmp q e) ≡ false
apart b q e h g = at (event_cmp q e) refl
  where
    at : (c : Ordering) → event_cmp q e ≡ c → is_eq c ≡ false
    at Less d = refl
    at Equal d = absurd (true≢false (sym h ∙ ap (is_past b) (exact_events.same q e d) ∙ g))
    at Greater d = refl

module _ (b : ℕ) (q : Event) (past : is_past b q ≡ true) where
  -- inputs that aren't below the bound neither add nor take this event
  none_added : (inputs : List Input) → AreNotBelow b inputs → has event_cmp q (flat_map added inputs) ≡ false
  none_added [] h = refl
  none_added (Add e ∷ inputs) h = (λ i. apart b q e past h.0 i || none_added inputs h.1 i)
  none_added (Take e ∷ inputs) h = none_added inputs h.1
  none_added (Advance t ∷ inputs) h = none_added inputs h.1
  none_added (Nothing ∷ inputs) h = none_added inputs h.1
  none_added (Begin ∷ inputs) h = none_added inputs h.1
  none_added (Commit ∷ inputs) h = none_added inputs h.1

  none_taken : (inputs : List Input) → AreNotBelow b inputs → has event_cmp q (flat_map taken inputs) ≡ false
  none_taken [] h = refl
  none_taken (Add e ∷ inputs) h = none_taken inputs h.1
  none_taken (Take e ∷ inputs) h = (λ i. apart b q e past h.0 i || none_taken inputs h.1 i)
  none_taken (Advance t ∷ inputs) h = none_taken inputs h.1
  none_taken (Nothing ∷ inputs) h = none_taken inputs h.1
  none_taken (Begin ∷ inputs) h = none_taken inputs h.1
  none_taken (Commit ∷ inputs) h = none_taken inputs h.1

no_occurrence : (q : Event) (more : List Event) → has event_cmp q more ≡ false → occurrences q more ≡ 0
no_occurrence q [] h = refl
no_occurrence q (x ∷ xs) h = at (is_eq (event_cmp q x)) h (no_occurrence q xs)
  where
    at : (c : Bool) → (c || has event_cmp q xs) ≡ false → (has event_cmp q xs ≡ false → occurrences q xs ≡ 0)
        → (if c then suc (occurrences q xs) else occurrences q xs) ≡ 0
    at true g more = absurd (true≢false g)
    at false g more = more g

occurrences_more : (q : Event) (xs more : List Event) → has event_cmp q more ≡ false → occurrences q (xs ++ more) ≡ occurrences q xs
occurrences_more q [] more h = no_occurrence q more h
occurrences_more q (x ∷ xs) more h = ap (λ n. if is_eq (event_cmp q x) then suc n else n) (occurrences_more q xs more h)

or_false : (a b : Bool) → b ≡ false → (a || b) ≡ a
or_false true b e = refl
or_false false b e = e

abbrev is_there : List Input → Event → Bool
is_there inputs q = nat_lt 0 (copies inputs q) && has event_cmp q (flat_map added inputs)

module _ (b : ℕ) where
  member : (inputs : List Input) (q : Event)
      → has event_cmp q (filter (is_past b) (present inputs)) ≡ (is_past b q && is_there inputs q)
  member inputs q =
      has-filter exact_events (is_past b) q (present inputs)
      ∙ ap (λ c. is_past b q && c)
      (has-filter exact_events (λ e. nat_lt 0 (copies inputs e)) q (canon event_cmp (flat_map added inputs))
      ∙ ap (λ c. nat_lt 0 (copies inputs q) && c) (has-canon exact_events q (flat_map added inputs)))

  rising : (inputs : List Input) → Rising event_cmp (filter (is_past b) (present inputs))
  rising inputs =
      Rising-filter exact_events (is_past b) (present inputs)
      (Rising-filter exact_events (λ e. nat_lt 0 (copies inputs e)) (canon event_cmp (flat_map added inputs))
      (Rising-canon exact_events (flat_map added inputs)))

  module _ (inputs more : List Input) (late_enough : AreNotBelow b more) where
    same_member : (q : Event) (c : Bool) → is_past b q ≡ c → (c && is_there inputs q) ≡ (c && is_there (inputs ++ more) q)
    same_member q false e = refl
    same_member q true e =
        let A = flat_map-append added inputs more in
        let T = flat_map-append taken inputs more in
        let no_more = none_added b q e more late_enough in
        let came : occurrences q (flat_map added (inputs ++ more)) ≡ occurrences q (flat_map added inputs) =
        ap (occurrences q) A ∙ occurrences_more q (flat_map added inputs) (flat_map added more) no_more in
        let went : occurrences q (flat_map taken (inputs ++ more)) ≡ occurrences q (flat_map taken inputs) =
        ap (occurrences q) T ∙ occurrences_more q (flat_map taken inputs) (flat_map taken more) (none_taken b q e more late_enough) in
        let there : has event_cmp q (flat_map added (inputs ++ more)) ≡ has event_cmp q (flat_map added inputs) =
        ap (has event_cmp q) A ∙ has-append exact_events q (flat_map added inputs) (flat_map added more)
        ∙ or_false (has event_cmp q (flat_map added inputs)) (has event_cmp q (flat_map added more)) no_more in
        sym (λ j. nat_lt 0 (came j - went j) && there j)

    -- inputs that aren't below a bound leave the present events below it
    pub later_inputs : IsSameBelow b (present inputs) (present (inputs ++ more))
    later_inputs =
        canon_one exact_events _ _ (rising inputs) (rising (inputs ++ more))
        (λ q. member inputs q ∙ same_member q (is_past b q) refl ∙ sym (member (inputs ++ more) q))

filter_in : {A : Type 0} (p q : A → Bool) → ((x : A) → p x ≡ true → q x ≡ true) → (xs : List A) → filter p xs ≡ filter p (filter q xs)
filter_in p q h [] = refl
filter_in p q h (x ∷ xs) = at (q x) refl (p x) refl (filter_in p q h xs)
  where
    at : (c : Bool) → q x ≡ c → (b : Bool) → p x ≡ b → filter p xs ≡ filter p (filter q xs)
        → cond b (x ∷ filter p xs) (filter p xs) ≡ filter p (cond c (x ∷ filter q xs) (filter q xs))
    at true e true g more = ap (λ l. x ∷ l) more ∙ sym (ap (λ b. cond b (x ∷ filter p (filter q xs)) (filter p (filter q xs))) g)
    at true e false g more = more ∙ sym (ap (λ b. cond b (x ∷ filter p (filter q xs)) (filter p (filter q xs))) g)
    at false e true g more = absurd (true≢false (sym (h x g) ∙ e))
    at false e false g more = more

-- what is the same below a bound is the same below a lesser one
lesser_bound : (c b : ℕ) (E F : List Event) → c ≤ b → IsSameBelow b E F → IsSameBelow c E F
lesser_bound c b E F le same =
    filter_in (is_past c) (is_past b) past E ∙ ap (filter (is_past c)) same ∙ sym (filter_in (is_past c) (is_past b) past F)
  where
    past : (e : Event) → is_past c e ≡ true → is_past b e ≡ true
    past e h = grind (arith, nat_tests)

-- ---- histories

module _ (late : Option ℕ) where
  -- an input that is fine after a history isn't below its bound
  fine_not_below : (h : History) (i : Input) → judge late h i ≡ Fine → is_below (bound late (settled h)) i ≡ false
  fine_not_below h i = at (is_misplaced h i) (is_below (bound late (settled h)) i) (is_absent (all_inputs h) i)
    where
      at : (m c a : Bool) → (if m then Batch else if c then Below (bound late (settled h)) else if a then Absent else Fine) ≡ Fine
          → c ≡ false
      at true c a e = cc
      at false true a e = cc
      at false false a e = refl

  bound_more : (inputs more : List Input) → bound late inputs ≤ bound late (inputs ++ more)
  bound_more [] more = omega arith
  bound_more (i ∷ inputs) more = let le = bound_more inputs more in omega (arith, le)

  -- what an input settles
  abbrev settling : History → Input → List Input
  settling h (Add e) = cond (in_batch h) [] (Add e ∷ [])
  settling h (Take e) = cond (in_batch h) [] (Take e ∷ [])
  settling h (Advance t) = cond (in_batch h) [] (Advance t ∷ [])
  settling h Nothing = cond (in_batch h) [] (Nothing ∷ [])
  settling h Begin = []
  settling h Commit = batch_inputs h.batch

  settled-push : (groups : List (List Input)) (group : List Input)
      → flat_map (λ g. g) (groups ++ group ∷ []) ≡ flat_map (λ g. g) groups ++ group
  settled-push groups group =
      flat_map-append (λ g. g) groups (group ∷ []) ∙ ap (λ l. flat_map (λ g. g) groups ++ l) (append-nil group)

  settled-with_input : (groups : List (List Input)) (batch : Option (List Input)) (i : Input)
      → settled (with_input groups batch i) ≡ flat_map (λ g. g) groups ++ cond (is_some_batch batch) [] (i ∷ [])
  settled-with_input groups None i = settled-push groups (i ∷ [])
  settled-with_input groups (Some group) i = sym (append-nil (flat_map (λ g. g) groups))

  settled-extended : (h : History) (i : Input) → settled (extended h i) ≡ settled h ++ settling h i
  settled-extended h (Add e) = settled-with_input h.groups h.batch (Add e)
  settled-extended h (Take e) = settled-with_input h.groups h.batch (Take e)
  settled-extended h (Advance t) = settled-with_input h.groups h.batch (Advance t)
  settled-extended h Nothing = settled-with_input h.groups h.batch Nothing
  settled-extended h Begin = sym (append-nil (settled h))
  settled-extended h Commit = settled-push h.groups (batch_inputs h.batch)

  abbrev FitsBatch : History → Type 0
  FitsBatch h = AreNotBelow (bound late (settled h)) (batch_inputs h.batch)

  with_input_fits : (groups : List (List Input)) (batch : Option (List Input)) (i : Input)
      → AreNotBelow (bound late (flat_map (λ g. g) groups)) (batch_inputs batch)
      → is_below (bound late (flat_map (λ g. g) groups)) i ≡ false → FitsBatch (with_input groups batch i)
  with_input_fits groups None i fits fine = tt
  with_input_fits groups (Some group) i fits fine = Each-append _ group (i ∷ []) fits (fine, tt)

  -- the inputs of an open batch aren't below the bound before it
  batch_fits : (h : History) → IsAccepted late h → FitsBatch h
  batch_fits h NoInput = tt
  batch_fits h (OneMore g i accepted fine) = one_more i (fine_not_below g i fine) (batch_fits g accepted)
    where
      one_more : (i : Input) → is_below (bound late (settled g)) i ≡ false → FitsBatch g → FitsBatch (extended g i)
      one_more (Add e) f fits = with_input_fits g.groups g.batch (Add e) fits f
      one_more (Take e) f fits = with_input_fits g.groups g.batch (Take e) fits f
      one_more (Advance t) f fits = with_input_fits g.groups g.batch (Advance t) fits f
      one_more Nothing f fits = with_input_fits g.groups g.batch Nothing fits f
      one_more Begin f fits = tt
      one_more Commit f fits = tt

  settling_fits : (h : History) (i : Input) → FitsBatch h → is_below (bound late (settled h)) i ≡ false
      → AreNotBelow (bound late (settled h)) (settling h i)
  settling_fits h i fits fine = one i fine
    where
      alone : (i : Input) (b : Bool) → is_below (bound late (settled h)) i ≡ false
          → AreNotBelow (bound late (settled h)) (cond b [] (i ∷ []))
      alone i true f = tt
      alone i false f = (f, tt)

      one : (i : Input) → is_below (bound late (settled h)) i ≡ false → AreNotBelow (bound late (settled h)) (settling h i)
      one (Add e) f = alone (Add e) (in_batch h) f
      one (Take e) f = alone (Take e) (in_batch h) f
      one (Advance t) f = alone (Advance t) (in_batch h) f
      one Nothing f = alone Nothing (in_batch h) f
      one Begin f = tt
      one Commit f = fits

  -- one input more
  pub one_input : (h : History) (i : Input) → IsAccepted late h → judge late h i ≡ Fine
      → IsSameBelow (bound late (settled h)) (present (settled h)) (present (settled (extended h i)))
  one_input h i accepted fine =
      later_inputs (bound late (settled h)) (settled h) (settling h i)
      (settling_fits h i (batch_fits h accepted) (fine_not_below h i fine))
      ∙ ap (λ inputs. filter (is_past (bound late (settled h))) (present inputs)) (sym (settled-extended h i))

  -- the bound falls never
  pub bound_rises : (h : History) (i : Input) → bound late (settled h) ≤ bound late (settled (extended h i))
  bound_rises h i =
      subst (λ inputs. bound late (settled h) ≤ bound late inputs) (sym (settled-extended h i)) (bound_more (settled h) (settling h i))

  -- the histories that a history comes to by inputs that are fine one after the other
  pub data Follows (h : History) : History → Type 0 where
    Itself : Follows h h
    Longer : (g : History) (i : Input) → Follows h g → judge late g i ≡ Fine → Follows h (extended g i)

  module _ (h : History) (accepted : IsAccepted late h) where
    pub followed_accepted : (g : History) → Follows h g → IsAccepted late g
    followed_accepted g Itself = accepted
    followed_accepted g (Longer f i follows fine) = OneMore f i (followed_accepted f follows) fine

    pub bound_followed : (g : History) → Follows h g → bound late (settled h) ≤ bound late (settled g)
    bound_followed g Itself = omega arith
    bound_followed g (Longer f i follows fine) =
        let so_far = bound_followed f follows in
        let more = bound_rises f i in
        omega (arith, so_far, more)

    -- the present events below the bound of an accepted history stay
    pub past_events : (g : History) → Follows h g
        → IsSameBelow (bound late (settled h)) (present (settled h)) (present (settled g))
    past_events g Itself = refl
    past_events g (Longer f i follows fine) =
        past_events f follows
        ∙ lesser_bound (bound late (settled h)) (bound late (settled f)) (present (settled f)) (present (settled (extended f i)))
        (bound_followed f follows) (one_input f i (followed_accepted f follows) fine)

-- where the events that came are on spans, those that are present are
pub present_on_spans : (inputs : List Input) → AreOnSpans (flat_map added inputs) → AreOnSpans (present inputs)
present_on_spans inputs h =
    Each-filter (λ e. Goes (span_of e)) (λ e. nat_lt 0 (copies inputs e)) (canon event_cmp (flat_map added inputs))
    (Each-canon event_cmp (λ e. Goes (span_of e)) (flat_map added inputs) h)
