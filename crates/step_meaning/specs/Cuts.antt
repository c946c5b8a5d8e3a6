-- What a test on spans lets through of the rows of a step are the rows of the step over the events that it lets through, where the
-- hull of two spans passes exactly where both spans do.
use Rattle.std.specs.Prelude.{ℕ, zero, suc, ◌≡◌, ◌≤◌, min, max, refl, Bool, true, false, cond, not, ◌&&◌, nat_lt, Option, Some, None, List, [], ◌∷◌, ◌++◌, map}
use Rattle.std.specs.List.{filter, flat_map}
use Rattle.std.proofs.Common.{ap, sym, ◌∙◌, arith}
use Rattle.std.proofs.lemmas.Bool.Decides.{nat_tests}
use Rattle.std.proofs.lemmas.List.Elements.{filter-append}
use Rattle.ordered_lists.specs.Lists.{some_of, joins, Each, Each-append, Each-filter, Each-flat_map, joins-cut, filter-flat_map, flat_map_cut, flat_map_same, filter-filter, filter_agree_on}
use Rattle.ordered_lists.specs.Canon.{has, Each-canon, filter-canon, has-filter}
use Rattle.ordered_lists.specs.Members.{without}
use Rattle.event_model.specs.declared.events.Event.{Event}
use Rattle.event_model.specs.Events.{span_of}
use Rattle.event_model.specs.Spans.{PlainSpan}
use Rattle.event_model.specs.declared.operators.Op.{Op}
use Rattle.event_model.specs.declared.operators.Op.TheVariants.{Seq}
use Rattle.event_model.specs.declared.atoms.PatAtom.{PatAtom}
use Rattle.event_model.specs.declared.atoms.NameArity.{NameArity}
use Rattle.interval_ops.specs.Operators.{pairs, hull, inside}
use Rattle.interval_ops.specs.Operators.{spanned as pair_span}
use Rattle.ev_bind.specs.Bindings.{Pairs, join}
use Rattle.ev_bind.specs.Matching.{match_of_args}
use Rattle.ev_bind.specs.Rows.{row_cmp, exact_rows}
use Rattle.ev_bind.specs.declared.rows.Row.{Row}
use Rattle.rule_ast.specs.PlainPlans.{PlainStep, Named, Leaf, Join, Either, Where, Exact, Within, Minus, Head}
use Rattle.term_eval.specs.Values.{holds}
use Rattle.pattern_meaning.specs.PatternRows.{rows_of, spanned, matched, args_of, is_of, events_of, head_row, found}
use Rattle.pattern_meaning.specs.RuleRows.{joined, joined_rows, is_long, is_short}
use Rattle.step_meaning.specs.StepRows.{supports, entry, table, step_rows, step_supports}

-- ---- spans

-- the start is no later than the end
abbrev pub Goes : PlainSpan → Type 0
Goes s = s.start ≤ s.end

abbrev pub RowGoes : Row → Type 0
RowGoes r = Goes r.span

-- each event is on a span
abbrev pub AreOnSpans : List Event → Type 0
AreOnSpans events = Each (λ e. Goes (span_of e)) events

-- a pair of an operator is on the hull of the two spans
pair_on_hull : (op : Op) (x y : PlainSpan) → Goes x → Goes y → pairs op x y ≡ true
    → ((pair_span op x y).start ≡ min x.start y.start) × ((pair_span op x y).end ≡ max x.end y.end)
pair_on_hull op x y a b h = (grind (arith, nat_tests), grind (arith, nat_tests))

pair_is_hull : (op : Op) (x y : PlainSpan) → Goes x → Goes y → pairs op x y ≡ true → pair_span op x y ≡ hull x y
pair_is_hull op x y a b h = let is = pair_on_hull op x y a b h in λ i. record { start = is.0 i; end = is.1 i }

-- ---- tests on spans

-- the hull of two spans passes exactly where both do
abbrev pub IsCut : (PlainSpan → Bool) → Type 0
IsCut t = (x y : PlainSpan) → t (hull x y) ≡ (t x && t y)

-- a span that ends before a time
abbrev pub ends_before : ℕ → PlainSpan → Bool
ends_before b s = nat_lt s.end b

pub within_is_cut : (first last : ℕ) → IsCut (inside first last)
within_is_cut first last x y = grind (arith, nat_tests)

pub ending_is_cut : (b : ℕ) → IsCut (ends_before b)
ending_is_cut b x y = grind (arith, nat_tests)

-- ---- the rows of steps are on spans

goes-spanned : (s : PlainSpan) → Goes s → (b : Option Pairs) → Each RowGoes (some_of (spanned (Some s) b))
goes-spanned s h None = tt
goes-spanned s h (Some b) = (h, tt)

goes-joined : (op : Op) (x y : Row) → RowGoes x → RowGoes y → Each RowGoes (some_of (joined op x y))
goes-joined op x y h g = at (pairs op x.span y.span) refl
  where
    at : (c : Bool) → pairs op x.span y.span ≡ c
        → Each RowGoes (some_of (spanned (cond c (Some (pair_span op x.span y.span)) None) (join x.binding y.binding)))
    at true k =
        let is = pair_on_hull op x.span y.span h g k in
        goes-spanned (pair_span op x.span y.span) (omega (arith, is.0, is.1, h, g)) (join x.binding y.binding)
    at false k = tt

pub goes-joins : (op : Op) (xs ys : List Row) → Each RowGoes xs → Each RowGoes ys → Each RowGoes (joins (joined op) xs ys)
goes-joins op xs ys a b =
    Each-flat_map RowGoes RowGoes _
    (λ x h. Each-flat_map RowGoes RowGoes (λ y. some_of (joined op x y)) (λ y g. goes-joined op x y h g) ys b) xs a

goes-joined_rows : (op : Op) (xs ys : List Row) → Each RowGoes xs → Each RowGoes ys → Each RowGoes (joined_rows op xs ys)
goes-joined_rows op xs ys a b = Each-canon row_cmp RowGoes (joins (joined op) xs ys) (goes-joins op xs ys a b)

goes-matched : (p : PatAtom) (r : Row) → RowGoes r → Each RowGoes (matched p r)
goes-matched p r h = goes-spanned r.span h (match_of_args p.args (args_of r))

Each-map : {A B : Type 0} (P : A → Type 0) (Q : B → Type 0) (f : A → B) → ((x : A) → P x → Q (f x)) → (xs : List A) → Each P xs
    → Each Q (map f xs)
Each-map P Q f h [] a = tt
Each-map P Q f h (x ∷ xs) a = (h x a.0, Each-map P Q f h xs a.1)

Each-all : {A : Type 0} (P : A → Type 0) → ((x : A) → P x) → (xs : List A) → Each P xs
Each-all P h [] = tt
Each-all P h (x ∷ xs) = (h x, Each-all P h xs)

module _ (events : List Event) (on_spans : AreOnSpans events) where
  goes-events : (n : NameArity) → Each RowGoes (events_of events n)
  goes-events n =
      Each-map (λ e. Goes (span_of e)) RowGoes (λ e. found e.atom.args e.span) (λ e h. h) (filter (λ e. is_of n e.atom) events)
      (Each-filter (λ e. Goes (span_of e)) (λ e. is_of n e.atom) events on_spans)

  pub goes-supports : (at : ℕ → List Row) → ((i : ℕ) → Each RowGoes (at i)) → (s : PlainStep) → Each RowGoes (supports events at s)
  goes-supports at v (Named n heads) =
      Each-append RowGoes _ _ (Each-canon row_cmp RowGoes _ (goes-events n))
      (Each-flat_map (λ _. Unit {0}) RowGoes at (λ i _. v i) heads (Each-all _ (λ _. tt) heads))
  goes-supports at v (Leaf of p) = Each-flat_map RowGoes RowGoes (matched p) (goes-matched p) (at of) (v of)
  goes-supports at v (Join op l r) = goes-joins op (at l) (at r) (v l) (v r)
  goes-supports at v (Either l r) = Each-append RowGoes _ _ (v l) (v r)
  goes-supports at v (Where of c) = Each-filter RowGoes _ _ (v of)
  goes-supports at v (Exact of q) = Each-filter RowGoes _ _ (v of)
  goes-supports at v (Within of q) = Each-filter RowGoes _ _ (v of)
  goes-supports at v (Minus j b i a) = Each-filter RowGoes _ _ (v j)
  goes-supports at v (Head of head) = Each-map RowGoes RowGoes (head_row head) (λ r h. h) (at of) (v of)

  goes-entry : (t : List (List Row)) → Each (Each RowGoes) t → (i : ℕ) → Each RowGoes (entry t i)
  goes-entry [] a i = tt
  goes-entry (x ∷ t) a zero = a.0
  goes-entry (x ∷ t) a (suc i) = goes-entry t a.1 i

  goes-push : (s : PlainStep) (t : List (List Row)) → Each (Each RowGoes) t
      → Each (Each RowGoes) (t ++ rows_of (supports events (entry t) s) ∷ [])
  goes-push s t v =
      Each-append (Each RowGoes) t _ v (Each-canon row_cmp RowGoes _ (goes-supports (entry t) (goes-entry t v) s), tt)

  goes-table : (ss : List PlainStep) (t : List (List Row)) → Each (Each RowGoes) t → Each (Each RowGoes) (table events ss t)
  goes-table [] t v = v
  goes-table (s ∷ ss) t v = goes-table ss _ (goes-push s t v)

  -- each row of a step is on a span
  pub goes-step_rows : (steps : List PlainStep) (i : ℕ) → Each RowGoes (step_rows steps i events)
  goes-step_rows steps i = goes-entry (table events steps []) (goes-table steps [] tt) i

-- ---- cuts

filter-map : {A B : Type 0} (p : B → Bool) (q : A → Bool) (f : A → B) → ((x : A) → p (f x) ≡ q x) → (xs : List A)
    → filter p (map f xs) ≡ map f (filter q xs)
filter-map p q f h [] = refl
filter-map p q f h (x ∷ xs) = ap (λ b. cond b (f x ∷ filter p (map f xs)) (filter p (map f xs))) (h x) ∙ at (q x) (filter-map p q f h xs)
  where
    at : (b : Bool) → filter p (map f xs) ≡ map f (filter q xs)
        → cond b (f x ∷ filter p (map f xs)) (filter p (map f xs)) ≡ map f (cond b (x ∷ filter q xs) (filter q xs))
    at true g = ap (λ l. f x ∷ l) g
    at false g = g

neither : {A : Type 0} (b : Bool) → ◌≡◌ {A = List A} [] (cond b [] [])
neither true = refl
neither false = refl

-- the rows, and the events, whose spans pass a test
abbrev pub cut : (PlainSpan → Bool) → List Row → List Row
cut t rows = filter (λ r. t r.span) rows

abbrev pub cut_events : (PlainSpan → Bool) → List Event → List Event
cut_events t events = filter (λ e. t (span_of e)) events

module _ (t : PlainSpan → Bool) (is_cut : IsCut t) where
  abbrev passes : Row → Bool
  passes r = t r.span

  spanned_cut : (s : PlainSpan) (c : Bool) → t s ≡ c → (b : Option Pairs)
      → cut t (some_of (spanned (Some s) b)) ≡ cond c (some_of (spanned (Some s) b)) []
  spanned_cut s c h None = neither c
  spanned_cut s c h (Some b) = ap (λ c. cond c (record { binding = b; span = s } ∷ []) []) h

  joined_cut : (op : Op) (x y : Row) → RowGoes x → RowGoes y
      → cut t (some_of (joined op x y)) ≡ cond (passes x && passes y) (some_of (joined op x y)) []
  joined_cut op x y h g = at (pairs op x.span y.span) refl
    where
      at : (c : Bool) → pairs op x.span y.span ≡ c
          → cut t (some_of (spanned (cond c (Some (pair_span op x.span y.span)) None) (join x.binding y.binding)))
          ≡ cond (passes x && passes y) (some_of (spanned (cond c (Some (pair_span op x.span y.span)) None) (join x.binding y.binding))) []
      at true k =
          spanned_cut (pair_span op x.span y.span) _ (ap t (pair_is_hull op x.span y.span h g k) ∙ is_cut x.span y.span)
          (join x.binding y.binding)
      at false k = neither (passes x && passes y)

  joins_cut : (op : Op) (xs ys : List Row) → Each RowGoes xs → Each RowGoes ys
      → cut t (joins (joined op) xs ys) ≡ joins (joined op) (cut t xs) (cut t ys)
  joins_cut op xs ys a b = joins-cut (joined op) RowGoes RowGoes passes passes passes (joined_cut op) xs ys a b

  joined_rows_cut : (op : Op) (xs ys : List Row) → Each RowGoes xs → Each RowGoes ys
      → cut t (joined_rows op xs ys) ≡ joined_rows op (cut t xs) (cut t ys)
  joined_rows_cut op xs ys a b = filter-canon exact_rows passes (joins (joined op) xs ys) ∙ ap rows_of (joins_cut op xs ys a b)

  matched_cut : (p : PatAtom) (r : Row) → cut t (matched p r) ≡ cond (passes r) (matched p r) []
  matched_cut p r = spanned_cut r.span (passes r) refl (match_of_args p.args (args_of r))

  events_of_cut : (events : List Event) (n : NameArity) → cut t (events_of events n) ≡ events_of (cut_events t events) n
  events_of_cut events n =
      filter-map passes (λ e. t (span_of e)) (λ e. found e.atom.args e.span) (λ e. refl) (filter (λ e. is_of n e.atom) events)
      ∙ ap (map (λ e. found e.atom.args e.span)) (filter-filter (λ e. t (span_of e)) (λ e. is_of n e.atom) events)

  without_cut : (xs ys : List Row) → cut t (without row_cmp xs ys) ≡ without row_cmp (cut t xs) (cut t ys)
  without_cut xs ys =
      filter-filter passes (λ r. not (has row_cmp r ys)) xs
      ∙ filter_agree_on (λ r. not (has row_cmp r ys)) (λ r. not (has row_cmp r (cut t ys))) passes
      (λ r h. sym (ap not (has-filter exact_rows passes r ys ∙ ap (λ b. b && has row_cmp r ys) h))) xs

  -- what passes of a step's supports, where `to i` is what passes of the rows `at i`
  pub supports_cut : (events : List Event) (at to : ℕ → List Row) → ((i : ℕ) → Each RowGoes (at i)) → ((i : ℕ) → cut t (at i) ≡ to i)
      → (s : PlainStep) → cut t (supports events at s) ≡ supports (cut_events t events) to s
  supports_cut events at to v h (Named n heads) =
      filter-append passes (rows_of (events_of events n)) (flat_map at heads)
      ∙ (λ i. (filter-canon exact_rows passes (events_of events n) ∙ ap rows_of (events_of_cut events n)) i
      ++ (filter-flat_map passes at heads ∙ flat_map_same _ _ h heads) i)
  supports_cut events at to v h (Leaf of p) =
      let whole = λ (r : Row) (b : Bool) (g : passes r ≡ b). matched_cut p r ∙ ap (λ b. cond b (matched p r) []) g in
      filter-flat_map passes (matched p) (at of)
      ∙ flat_map_cut RowGoes passes _ (matched p) (λ r _ g. whole r false g) (λ r _ g. whole r true g) (at of) (v of)
      ∙ ap (flat_map (matched p)) (h of)
  supports_cut events at to v h (Join op l r) = joins_cut op (at l) (at r) (v l) (v r) ∙ (λ i. joins (joined op) (h l i) (h r i))
  supports_cut events at to v h (Either l r) = filter-append passes (at l) (at r) ∙ (λ i. h l i ++ h r i)
  supports_cut events at to v h (Where of c) =
      filter-filter passes (λ r. holds c r.binding) (at of) ∙ ap (filter (λ r. holds c r.binding)) (h of)
  supports_cut events at to v h (Exact of q) = filter-filter passes (is_long q) (at of) ∙ ap (filter (is_long q)) (h of)
  supports_cut events at to v h (Within of q) = filter-filter passes (is_short q) (at of) ∙ ap (filter (is_short q)) (h of)
  supports_cut events at to v h (Minus j b i a) =
      let first = joined_rows_cut Seq (at b) (at i) (v b) (v i) ∙ (λ m. joined_rows Seq (h b m) (h i m)) in
      let chains =
      joined_rows_cut Seq (joined_rows Seq (at b) (at i)) (at a) (goes-joined_rows Seq (at b) (at i) (v b) (v i)) (v a)
      ∙ (λ k. joined_rows Seq (first k) (h a k)) in
      without_cut (at j) (joined_rows Seq (joined_rows Seq (at b) (at i)) (at a)) ∙ (λ k. without row_cmp (h j k) (chains k))
  supports_cut events at to v h (Head of head) =
      filter-map passes passes (head_row head) (λ r. refl) (at of) ∙ ap (map (head_row head)) (h of)

  entry_cut : (rows : List (List Row)) (i : ℕ) → cut t (entry rows i) ≡ entry (map (cut t) rows) i
  entry_cut [] i = refl
  entry_cut (x ∷ rows) zero = refl
  entry_cut (x ∷ rows) (suc i) = entry_cut rows i

  push_cut : (rows : List (List Row)) (x y : List Row) → cut t x ≡ y → map (cut t) (rows ++ x ∷ []) ≡ map (cut t) rows ++ y ∷ []
  push_cut [] x y h = ap (λ z. z ∷ []) h
  push_cut (u ∷ rows) x y h = ap (λ l. cut t u ∷ l) (push_cut rows x y h)

  module _ (events : List Event) (on_spans : AreOnSpans events) where
    table_cut : (ss : List PlainStep) (rows : List (List Row)) → Each (Each RowGoes) rows
        → map (cut t) (table events ss rows) ≡ table (cut_events t events) ss (map (cut t) rows)
    table_cut [] rows v = refl
    table_cut (s ∷ ss) rows v =
        let here = supports_cut events (entry rows) (entry (map (cut t) rows)) (goes-entry events on_spans rows v) (entry_cut rows) s in
        table_cut ss (rows ++ rows_of (supports events (entry rows) s) ∷ []) (goes-push events on_spans s rows v)
        ∙ ap (table (cut_events t events) ss)
        (push_cut rows _ _ (filter-canon exact_rows passes (supports events (entry rows) s) ∙ ap rows_of here))

    -- the rows of a step that pass are its rows over the events that pass
    pub step_rows_cut : (steps : List PlainStep) (i : ℕ) → cut t (step_rows steps i events) ≡ step_rows steps i (cut_events t events)
    step_rows_cut steps i = entry_cut (table events steps []) i ∙ ap (λ rows. entry rows i) (table_cut steps [] tt)

    -- and so are the supports of its rows
    pub step_supports_cut : (steps : List PlainStep) (s : PlainStep)
        → cut t (step_supports steps s events) ≡ step_supports steps s (cut_events t events)
    step_supports_cut steps s =
        supports_cut events (λ i. step_rows steps i events) (λ i. step_rows steps i (cut_events t events))
        (goes-step_rows events on_spans steps) (step_rows_cut steps) s
