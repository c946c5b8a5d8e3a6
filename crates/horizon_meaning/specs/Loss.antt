-- What the supports of a step's rows are made of, where the rows are no longer than a length and end at a bound or later: of the events
-- that end at the bound or later, and of operands' rows that are no longer either and near enough to the bound.
use Rattle.std.specs.Prelude.{ℕ, ◌≡◌, ◌-◌, refl, Bool, true, false, cond, not, ◌&&◌, nat_le, Some, None, List, [], ◌∷◌, ◌++◌, map}
use Rattle.std.specs.List.{filter, flat_map}
use Rattle.std.proofs.Common.{ap, sym, ◌∙◌, arith}
use Rattle.std.proofs.lemmas.Bool.{true≢false}
use Rattle.std.proofs.lemmas.Bool.Decides.{nat_tests}
use Rattle.std.proofs.lemmas.List.Elements.{filter-append}
use Rattle.ordered_lists.specs.Lists.{joins, Each, Each-filter, filter-flat_map, flat_map_cut, flat_map_same, filter-filter, filter_agree_on}
use Rattle.ordered_lists.specs.Canon.{has, filter-canon, has-filter, Each-canon}
use Rattle.event_model.specs.declared.events.Event.{Event}
use Rattle.event_model.specs.declared.operators.Op.TheVariants.{Seq}
use Rattle.event_model.specs.declared.atoms.NameArity.{NameArity}
use Rattle.event_model.specs.Events.{span_of}
use Rattle.event_model.specs.Spans.{PlainSpan}
use Rattle.ev_bind.specs.Rows.{row_cmp, exact_rows}
use Rattle.ev_bind.specs.declared.rows.Row.{Row}
use Rattle.rule_ast.specs.PlainPlans.{PlainStep, Named, Leaf, Join, Either, Where, Exact, Within, Minus, Head}
use Rattle.term_eval.specs.Values.{holds}
use Rattle.pattern_meaning.specs.PatternRows.{rows_of, is_of, events_of, found, matched, head_row}
use Rattle.pattern_meaning.specs.RuleRows.{joined, joined_rows, is_long, is_short}
use Rattle.row_changes.specs.Kept.{under}
use Rattle.step_meaning.specs.StepRows.{supports}
use Rattle.step_meaning.specs.Cuts.{Goes, RowGoes, goes-joins, cut, cut_events}
use Rattle.horizon_meaning.specs.Lengths.{Length}
use Rattle.horizon_meaning.specs.Caps.{seeks}
use Rattle.horizon_meaning.specs.Hulls.{matched_test, IsPart, joins_part, joined_rows_part}

-- it ends at the bound or later
abbrev pub recent : ℕ → PlainSpan → Bool
recent b s = nat_le b s.end

-- it is no longer than the length, and ends at the bound or later
abbrev pub live : Length → ℕ → PlainSpan → Bool
live c b s = under c (s.end - s.start) && nat_le b s.end

-- it is no longer than the length, and begins so late that what begins there and is no longer either can end at the bound
abbrev pub near : Length → ℕ → PlainSpan → Bool
near c b s = under c (s.end - s.start) && under c (b - s.start)

-- what a step needs of its operands, for its rows that are live
abbrev pub needs : PlainStep → Length → ℕ → PlainSpan → Bool
needs s c b t = cond (seeks s) (near c b t) (live c b t)

pub near_in_near : (c : Length) (b : ℕ) → IsPart (near c b) (near c b)
near_in_near None b x y g h e = (refl, refl)
near_in_near (Some c) b x y g h e = grind (arith, nat_tests)

pub near_in_live : (c : Length) (b : ℕ) → IsPart (near c b) (live c b)
near_in_live None b x y g h e = (refl, refl)
near_in_live (Some c) b x y g h e = grind (arith, nat_tests)

pub live_is_near : (c : Length) (b : ℕ) (s : PlainSpan) → Goes s → live c b s ≡ true → near c b s ≡ true
live_is_near None b s g h = refl
live_is_near (Some c) b s g h = grind (arith, nat_tests)

pub live_is_recent : (c : Length) (b : ℕ) (s : PlainSpan) → live c b s ≡ true → recent b s ≡ true
live_is_recent None b s h = h
live_is_recent (Some c) b s h = grind (arith, nat_tests)

-- ---- filters

-- where what passes p passes q, nothing is lost by q before p
pub filter_under : {A : Type 0} (P : A → Type 0) (p q : A → Bool) → ((x : A) → P x → p x ≡ true → q x ≡ true) → (xs : List A)
    → Each P xs → filter p (filter q xs) ≡ filter p xs
filter_under P p q h [] a = refl
filter_under P p q h (x ∷ xs) a = at (p x) refl (q x) refl (filter_under P p q h xs a.1)
  where
    at : (b : Bool) → p x ≡ b → (c : Bool) → q x ≡ c → filter p (filter q xs) ≡ filter p xs
        → filter p (cond c (x ∷ filter q xs) (filter q xs)) ≡ cond b (x ∷ filter p xs) (filter p xs)
    at true e true f g = ap (λ b. cond b (x ∷ filter p (filter q xs)) (filter p (filter q xs))) e ∙ ap (λ l. x ∷ l) g
    at false e true f g = ap (λ b. cond b (x ∷ filter p (filter q xs)) (filter p (filter q xs))) e ∙ g
    at true e false f g = absurd (true≢false (sym (h x a.0 e) ∙ f))
    at false e false f g = g

-- what holds of everything
abbrev pub Any : {A : Type 0} → A → Type 0
Any x = Unit {0}

pub anything : {A : Type 0} (xs : List A) → Each Any xs
anything [] = tt
anything (x ∷ xs) = (tt, anything xs)

pub filter_itself : {A : Type 0} (p : A → Bool) (xs : List A) → filter p (filter p xs) ≡ filter p xs
filter_itself p xs = filter_under Any p p (λ x _ h. h) xs (anything xs)

filter-map : {A B : Type 0} (p : B → Bool) (q : A → Bool) (f : A → B) → ((x : A) → p (f x) ≡ q x) → (xs : List A)
    → filter p (map f xs) ≡ map f (filter q xs)
filter-map p q f h [] = refl
filter-map p q f h (x ∷ xs) = ap (λ b. cond b (f x ∷ filter p (map f xs)) (filter p (map f xs))) (h x) ∙ at (q x) (filter-map p q f h xs)
  where
    at : (b : Bool) → filter p (map f xs) ≡ map f (filter q xs)
        → cond b (f x ∷ filter p (map f xs)) (filter p (map f xs)) ≡ map f (cond b (x ∷ filter q xs) (filter q xs))
    at true g = ap (λ l. f x ∷ l) g
    at false g = g

-- the events of a name that pass are those of the events that pass
pub cut_events_of : (t : PlainSpan → Bool) (events : List Event) (n : NameArity)
    → cut t (events_of events n) ≡ events_of (cut_events t events) n
cut_events_of t events n =
    let row = λ (e : Event). found e.atom.args (span_of e) in
    let passes = λ (e : Event). t (span_of e) in
    filter-map (λ r. t r.span) passes row (λ e. refl) (filter (λ e. is_of n e.atom) events)
    ∙ ap (map row) (filter-filter passes (λ e. is_of n e.atom) events)

-- ---- chains

goes-joined_rows : (xs ys : List Row) → Each RowGoes xs → Each RowGoes ys → Each RowGoes (joined_rows Seq xs ys)
goes-joined_rows xs ys a b = Each-canon row_cmp RowGoes (joins (joined Seq) xs ys) (goes-joins Seq xs ys a b)

-- the rows that chains of a row of each of these lists give
abbrev pub chain_rows : (before inner after : List Row) → List Row
chain_rows before inner after = joined_rows Seq (joined_rows Seq before inner) after

module _ (c : Length) (b : ℕ) where
  abbrev near_of : List Row → List Row
  near_of rows = cut (near c b) rows

  -- near chains are made of near rows
  pub chain_near : (B I A : List Row) → Each RowGoes B → Each RowGoes I → Each RowGoes A
      → cut (near c b) (chain_rows B I A) ≡ cut (near c b) (chain_rows (cut (near c b) B) (cut (near c b) I) (cut (near c b) A))
  chain_near B I A v w z =
      let part = joined_rows_part (near c b) (near c b) (near_in_near c b) Seq in
      let low = λ (xs : List Row) (a : Each RowGoes xs). Each-filter RowGoes (λ r. near c b r.span) xs a in
      part (joined_rows Seq B I) A (goes-joined_rows B I v w) z
      ∙ ap (λ l. near_of (joined_rows Seq l (near_of A))) (part B I v w)
      ∙ ap (λ l. near_of (joined_rows Seq (near_of (joined_rows Seq (near_of B) (near_of I))) l))
      (sym (filter_itself (λ r. near c b r.span) A))
      ∙ sym (part (joined_rows Seq (near_of B) (near_of I)) (near_of A)
      (goes-joined_rows (near_of B) (near_of I) (low B v) (low I w)) (low A z))

  -- whether a near row is there is known from the near rows
  pub has_near : (C D : List Row) → cut (near c b) C ≡ cut (near c b) D → (r : Row) → near c b r.span ≡ true
      → has row_cmp r C ≡ has row_cmp r D
  has_near C D h r e =
      let among = λ (rows : List Row). has-filter exact_rows (λ r. near c b r.span) r rows ∙ ap (λ t. t && has row_cmp r rows) e in
      sym (among C) ∙ ap (has row_cmp r) h ∙ among D

  -- ---- no loss

  abbrev alive : Row → Bool
  alive r = live c b r.span

  abbrev late : List Event → List Event
  late events = cut_events (recent b) events

  again : (xs : List Row) → cut (live c b) xs ≡ cut (live c b) (cut (live c b) xs)
  again xs = sym (filter_itself alive xs)

  pub events_loss : (events : List Event) (n : NameArity)
      → cut (live c b) (events_of events n) ≡ cut (live c b) (events_of (cut_events (recent b) events) n)
  events_loss events n =
      cut_events_of (live c b) events n
      ∙ ap (λ l. events_of l n) (sym (filter_under Any (λ e. live c b (span_of e)) (λ e. recent b (span_of e))
      (λ e _ h. live_is_recent c b (span_of e) h) events (anything events)))
      ∙ sym (cut_events_of (live c b) (cut_events (recent b) events) n)

  module _ (events : List Event) (at : ℕ → List Row) (goes : (i : ℕ) → Each RowGoes (at i)) where
    -- the rows of the operands that a step needs
    abbrev part_of : PlainStep → ℕ → List Row
    part_of s i = cut (needs s c b) (at i)

    minus_loss : (j k i a : ℕ) → cut (live c b) (supports events at (Minus j k i a))
        ≡ cut (live c b) (supports (late events) (part_of (Minus j k i a)) (Minus j k i a))
    minus_loss j k i a =
        let C = chain_rows (at k) (at i) (at a) in
        let D = chain_rows (near_of (at k)) (near_of (at i)) (near_of (at a)) in
        let lacks = λ (rows : List Row) (r : Row). not (has row_cmp r rows) in
        filter-filter alive (lacks C) (at j)
        ∙ ap (filter (lacks C)) (sym (filter_under RowGoes alive (λ r. near c b r.span)
        (λ r g h. live_is_near c b r.span g h) (at j) (goes j)))
        ∙ filter-filter (lacks C) alive (near_of (at j))
        ∙ ap (filter alive) (filter_agree_on (lacks C) (lacks D) (λ r. near c b r.span)
        (λ r h. ap not (has_near C D (chain_near (at k) (at i) (at a) (goes k) (goes i) (goes a)) r h)) (at j))

    tested : (p : Row → Bool) (rows : List Row) → cut (live c b) (filter p rows) ≡ cut (live c b) (filter p (cut (live c b) rows))
    tested p rows =
        filter-filter alive p rows
        ∙ ap (filter p) (again rows)
        ∙ sym (filter-filter alive p (cut (live c b) rows))

    -- supports that are live are made of the events that end at the bound or later, and of the operands' rows that the step needs
    pub no_loss : (s : PlainStep) → cut (live c b) (supports events at s)
        ≡ cut (live c b) (supports (cut_events (recent b) events) (λ i. cut (needs s c b) (at i)) s)
    no_loss (Named n heads) =
        let events_part = λ (F : List Event). filter-canon exact_rows alive (events_of F n) in
        filter-append alive (rows_of (events_of events n)) (flat_map at heads)
        ∙ (λ k. (events_part events ∙ ap rows_of (events_loss events n) ∙ sym (events_part (late events))) k
        ++ (filter-flat_map alive at heads ∙ flat_map_same _ _ (λ i. again (at i)) heads
        ∙ sym (filter-flat_map alive (λ i. cut (live c b) (at i)) heads)) k)
        ∙ sym (filter-append alive (rows_of (events_of (late events) n)) (flat_map (λ i. cut (live c b) (at i)) heads))
    no_loss (Leaf of p) =
        filter-flat_map alive (matched p) (at of)
        ∙ flat_map_cut Any alive _ _ (λ r _ g. matched_test (live c b) p r false g) (λ r _ g. refl) (at of) (anything (at of))
        ∙ sym (filter-flat_map alive (matched p) (cut (live c b) (at of)))
    no_loss (Join op l r) = joins_part (near c b) (live c b) (near_in_live c b) op (at l) (at r) (goes l) (goes r)
    no_loss (Either l r) =
        filter-append alive (at l) (at r)
        ∙ (λ k. again (at l) k ++ again (at r) k)
        ∙ sym (filter-append alive (cut (live c b) (at l)) (cut (live c b) (at r)))
    no_loss (Where of w) = tested (λ r. holds w r.binding) (at of)
    no_loss (Exact of q) = tested (is_long q) (at of)
    no_loss (Within of q) = tested (is_short q) (at of)
    no_loss (Minus j k i a) = minus_loss j k i a
    no_loss (Head of head) =
        filter-map alive alive (head_row head) (λ r. refl) (at of)
        ∙ ap (map (head_row head)) (again (at of))
        ∙ sym (filter-map alive alive (head_row head) (λ r. refl) (cut (live c b) (at of)))
