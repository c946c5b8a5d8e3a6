-- The rows of a step are on spans of times, and no longer than the rows of the step can be.
use Rattle.std.specs.Prelude.{ℕ, zero, suc, ◌≡◌, ◌+◌, ◌-◌, ◌<◌, ◌≤◌, nat_le, refl, Bool, true, cond, ◌&&◌, Option, Some, None, List, [], ◌∷◌, ◌++◌, map, length}
use Rattle.std.specs.List.{filter, flat_map}
use Rattle.std.proofs.Common.{ap, sym, ◌∙◌, arith, subst, length-append}
use Rattle.std.proofs.lemmas.Bool.{and_parts}
use Rattle.std.proofs.lemmas.Bool.Decides.{nat_tests}
use Rattle.std.proofs.lemmas.Option.{none-some}
use Rattle.ordered_lists.specs.Lists.{some_of, joins, Each, Each-append, Each-filter, Each-filter_passes, Each-flat_map}
use Rattle.ordered_lists.specs.Canon.{Each-canon}
use Rattle.event_model.specs.declared.events.TheConstants.{TIME_LIMIT}
use Rattle.event_model.specs.declared.events.Event.{Event}
use Rattle.event_model.specs.declared.atoms.NameArity.{NameArity}
use Rattle.event_model.specs.Events.{span_of}
use Rattle.event_model.specs.Spans.{PlainSpan}
use Rattle.event_model.specs.declared.operators.Op.{Op}
use Rattle.event_model.specs.declared.operators.Op.TheVariants.{Seq, And, Par, Equals, Meets, During, Starts, Finishes}
use Rattle.interval_ops.specs.Operators.{IsSpan, pairs, inside, last_tick}
use Rattle.interval_ops.specs.Operators.{spanned as pair_span}
use Rattle.ev_bind.specs.Rows.{row_cmp}
use Rattle.ev_bind.specs.declared.rows.Row.{Row}
use Rattle.rule_ast.specs.PlainPlans.{PlainStep, Named, Leaf, Join, Either, Where, Exact, Within, Minus, Head}
use Rattle.pattern_meaning.specs.PatternRows.{rows_of, is_of, events_of, found, head_row}
use Rattle.pattern_meaning.specs.RuleRows.{joined, ticks, is_long, is_short}
use Rattle.row_changes.specs.Kept.{under}
use Rattle.step_meaning.specs.StepRows.{step_at, supports, entry, table, step_rows}
use Rattle.step_meaning.specs.Operands.{AreLower, rows_of_supports}
use Rattle.step_meaning.specs.Cuts.{Goes, RowGoes, AreOnSpans, cut, cut_events, step_rows_cut, within_is_cut, goes-step_rows}
use Rattle.horizon_meaning.specs.Lengths.{Length, least, greatest, under_least, under_greatest}
use Rattle.horizon_meaning.specs.Caps.{operands, below_join, below_of, below}
use Rattle.horizon_meaning.specs.Belows.{below_at}
use Rattle.horizon_meaning.specs.Hulls.{joined_each, matched_each}
use Rattle.horizon_meaning.specs.Users.{or_left, or_right, each_lower, by_lower}

-- ---- no step, no rows

length-table : (events : List Event) (ss : List PlainStep) (t : List (List Row)) → length (table events ss t) ≡ length t + length ss
length-table events [] t = omega arith
length-table events (s ∷ ss) t =
    let x = rows_of (supports events (entry t) s) in
    length-table events ss (t ++ x ∷ [])
    ∙ (let e : length (t ++ x ∷ []) + length ss ≡ length t + length (s ∷ ss) = omega (arith, length-append t (x ∷ [])) in e)

entry_beyond : (t : List (List Row)) (i : ℕ) → length t ≤ i → entry t i ≡ []
entry_beyond [] i h = refl
entry_beyond (x ∷ t) zero h = absurd (omega (arith, h))
entry_beyond (x ∷ t) (suc i) h = entry_beyond t i (omega (arith, h))

step_beyond : (ss : List PlainStep) (i : ℕ) → step_at ss i ≡ None → length ss ≤ i
step_beyond [] i e = omega arith
step_beyond (s ∷ ss) zero e = absurd (none-some s (sym e))
step_beyond (s ∷ ss) (suc i) e = let le = step_beyond ss i e in omega (arith, le)

-- where there is no step there are no rows
pub no_rows : (steps : List PlainStep) (events : List Event) (i : ℕ) → step_at steps i ≡ None → step_rows steps i events ≡ []
no_rows steps events i e =
    let le = step_beyond steps i e in
    entry_beyond (table events steps []) i (omega (arith, le, length-table events steps []))

-- ---- rows on spans

-- the row is on a span of times
abbrev pub RowSpans : Row → Type 0
RowSpans r = IsSpan r.span

-- each event is on a span of times
abbrev pub AreSpans : List Event → Type 0
AreSpans events = Each (λ e. IsSpan (span_of e)) events

pub on_spans : (events : List Event) → AreSpans events → AreOnSpans events
on_spans [] a = tt
on_spans (e ∷ events) a = (a.0.0, on_spans events a.1)

all_in_time : (events : List Event) → AreSpans events → cut_events (inside 0 last_tick) events ≡ events
all_in_time [] a = refl
all_in_time (e ∷ events) a =
    let p : inside 0 last_tick (span_of e) ≡ true = timely (span_of e) a.0 in
    ap (λ b. cond b (e ∷ cut_events (inside 0 last_tick) events) (cut_events (inside 0 last_tick) events)) p
    ∙ ap (λ l. e ∷ l) (all_in_time events a.1)
  where
    timely : (s : PlainSpan) → IsSpan s → inside 0 last_tick s ≡ true
    timely s h = let g : s.end < TIME_LIMIT = h.1 in grind (arith, nat_tests)

passing : (rows : List Row) → Each RowGoes rows → Each (λ r. RowGoes r × (inside 0 last_tick r.span ≡ true)) (cut (inside 0 last_tick) rows)
passing rows a = Each-filter_passes RowGoes (λ r. inside 0 last_tick r.span) rows a

Each-more : {A : Type 0} (P Q : A → Type 0) → ((x : A) → P x → Q x) → (xs : List A) → Each P xs → Each Q xs
Each-more P Q h [] a = tt
Each-more P Q h (x ∷ xs) a = (h x a.0, Each-more P Q h xs a.1)

-- each row of a step is on a span of times
pub step_rows_span : (events : List Event) → AreSpans events → (steps : List PlainStep) (i : ℕ) → Each RowSpans (step_rows steps i events)
step_rows_span events a steps i =
    let go = on_spans events a in
    let whole : cut (inside 0 last_tick) (step_rows steps i events) ≡ step_rows steps i events =
    step_rows_cut (inside 0 last_tick) (within_is_cut 0 last_tick) events go steps i ∙ ap (step_rows steps i) (all_in_time events a) in
    subst (Each RowSpans) whole
    (Each-more _ RowSpans (λ r h. timely r.span h) _ (passing (step_rows steps i events) (goes-step_rows events go steps i)))
  where
    timely : (s : PlainSpan) → Goes s × (inside 0 last_tick s ≡ true) → IsSpan s
    timely s h =
        let e : nat_le s.end last_tick ≡ true = (and_parts (nat_le 0 s.start) (nat_le s.end last_tick) h.1).1 in
        (h.0, grind (arith, nat_tests))

-- ---- rows no longer than a length

-- a span of times, no longer than this
abbrev pub Fitting : Length → PlainSpan → Type 0
Fitting l s = IsSpan s × (under l (s.end - s.start) ≡ true)

-- the row is on such a span
abbrev pub Fits : Length → Row → Type 0
Fits l r = Fitting l r.span

both : (a b : Bool) → a ≡ true → b ≡ true → (a && b) ≡ true
both a b e f = (λ i. e i && b) ∙ f

wider : (a b : Length) (r : Row) → Fits a r → Fits (greatest a b) r
wider a b r f = (f.0, under_greatest a b (ticks r) ∙ or_left (under a (ticks r)) (under b (ticks r)) f.1)

wider_too : (a b : Length) (r : Row) → Fits b r → Fits (greatest a b) r
wider_too a b r f = (f.0, under_greatest a b (ticks r) ∙ or_right (under a (ticks r)) (under b (ticks r)) f.1)

cut_to : (q : ℕ) (l : Length) (r : Row) → Fits l r → nat_le (ticks r) q ≡ true → Fits (least (Some q) l) r
cut_to q l r f e = (f.0, under_least (Some q) l (ticks r) ∙ both (nat_le (ticks r) q) (under l (ticks r)) e f.1)

exact_short : (q : ℕ) (r : Row) → is_long q r ≡ true → nat_le (ticks r) q ≡ true
exact_short q r e = grind (arith, nat_tests)

-- the span of a pair is a span of times
pair_spans : (op : Op) (x y : PlainSpan) → IsSpan x → IsSpan y → pairs op x y ≡ true → IsSpan (pair_span op x y)
pair_spans op x y a b h = (grind (arith, nat_tests), grind (arith, nat_tests))

-- and no longer than the table of the operators says
pair_fits : (op : Op) (l m : Length) (x y : PlainSpan) → Fitting l x → Fitting m y → pairs op x y ≡ true
    → under (below_join op l m) ((pair_span op x y).end - (pair_span op x y).start) ≡ true
pair_fits Seq l m x y f g e = refl
pair_fits And l m x y f g e = refl
pair_fits Par None m x y f g e = refl
pair_fits Par (Some l) None x y f g e = refl
pair_fits Par (Some l) (Some m) x y f g e = grind (arith, nat_tests)
pair_fits Equals l m x y f g e =
    let same : x.end - x.start ≡ y.end - y.start = grind (arith, nat_tests) in
    under_least l m (x.end - x.start)
    ∙ both (under l (x.end - x.start)) (under m (x.end - x.start)) f.1 (ap (under m) same ∙ g.1)
pair_fits Meets None m x y f g e = refl
pair_fits Meets (Some l) None x y f g e = refl
pair_fits Meets (Some l) (Some m) x y f g e = grind (arith, nat_tests)
pair_fits During l m x y f g e = g.1
pair_fits Starts l m x y f g e = g.1
pair_fits Finishes l m x y f g e = g.1

Each-map : {A B : Type 0} (P : A → Type 0) (Q : B → Type 0) (f : A → B) → ((x : A) → P x → Q (f x)) → (xs : List A) → Each P xs
    → Each Q (map f xs)
Each-map P Q f h [] a = tt
Each-map P Q f h (x ∷ xs) a = (h x a.0, Each-map P Q f h xs a.1)

unlimited : (l : Length) (r : Row) → Fits l r → Fits None r
unlimited l r f = (f.0, refl)

module _ (events : List Event) (spans : AreSpans events) (longest : ℕ → Length) (at : ℕ → List Row) where
  -- the rows of the step with this number are no longer than this
  abbrev IsFit : ℕ → Type 0
  IsFit i = Each (Fits (longest i)) (at i)

  events_fit : (n : NameArity) → Each (Fits None) (events_of events n)
  events_fit n =
      Each-map (λ e. IsSpan (span_of e)) (Fits None) (λ e. found e.atom.args (span_of e)) (λ e h. (h, refl))
      (filter (λ e. is_of n e.atom) events) (Each-filter (λ e. IsSpan (span_of e)) (λ e. is_of n e.atom) events spans)

  heads_fit : (heads : List ℕ) → Each IsFit heads → Each (Fits None) (flat_map at heads)
  heads_fit [] a = tt
  heads_fit (i ∷ heads) a =
      Each-append (Fits None) (at i) (flat_map at heads) (Each-more _ _ (unlimited (longest i)) (at i) a.0) (heads_fit heads a.1)

  joins_fit : (op : Op) (l m : Length) (xs ys : List Row) → Each (Fits l) xs → Each (Fits m) ys
      → Each (Fits (below_join op l m)) (joins (joined op) xs ys)
  joins_fit op l m xs ys a b =
      Each-flat_map (Fits l) (Fits (below_join op l m)) _
      (λ x f. Each-flat_map (Fits m) (Fits (below_join op l m)) (λ y. some_of (joined op x y))
      (λ y g. joined_each (Fitting (below_join op l m)) op x y
      (λ e. (pair_spans op x.span y.span f.0 g.0 e, pair_fits op l m x.span y.span f g e))) ys b) xs a

  -- where the rows of the operands fit, the supports do
  supports_fit : (s : PlainStep) → Each IsFit (operands s) → Each (Fits (below_of longest s)) (supports events at s)
  supports_fit (Named n heads) a =
      Each-append (Fits None) _ _ (Each-canon row_cmp (Fits None) _ (events_fit n)) (heads_fit heads a)
  supports_fit (Leaf of p) a =
      Each-flat_map (Fits (longest of)) (Fits (longest of)) _ (λ r f. matched_each (Fitting (longest of)) p r f) (at of) a.0
  supports_fit (Join op l r) a = joins_fit op (longest l) (longest r) (at l) (at r) a.0 a.1.0
  supports_fit (Either l r) a =
      Each-append (Fits (greatest (longest l) (longest r))) _ _
      (Each-more _ _ (wider (longest l) (longest r)) (at l) a.0) (Each-more _ _ (wider_too (longest l) (longest r)) (at r) a.1.0)
  supports_fit (Where of c) a = Each-filter (Fits (longest of)) _ _ a.0
  supports_fit (Exact of q) a =
      Each-more _ (Fits (least (Some q) (longest of))) (λ r g. cut_to q (longest of) r g.0 (exact_short q r g.1)) _
      (Each-filter_passes (Fits (longest of)) (is_long q) (at of) a.0)
  supports_fit (Within of q) a =
      Each-more _ (Fits (least (Some q) (longest of))) (λ r g. cut_to q (longest of) r g.0 g.1) _
      (Each-filter_passes (Fits (longest of)) (is_short q) (at of) a.0)
  supports_fit (Minus j b i f) a = Each-filter (Fits None) _ _ (Each-more _ _ (unlimited (longest j)) (at j) a.0)
  supports_fit (Head of head) a = Each-map (Fits (longest of)) (Fits (longest of)) (head_row head) (λ r f. f) (at of) a.0

module _ (steps : List PlainStep) (low : AreLower steps) (events : List Event) (spans : AreSpans events) where
  -- the step of a number, where there is one
  fits_at : (k : ℕ) → ((i : ℕ) → i < k → Each (Fits (below steps i)) (step_rows steps i events))
      → (o : Option PlainStep) → step_at steps k ≡ o → Each (Fits (below steps k)) (step_rows steps k events)
  fits_at k lower (Some s) e =
      subst (λ l. Each (Fits l) (step_rows steps k events)) (sym (below_at steps low k s e))
      (subst (Each (Fits (below_of (below steps) s))) (sym (rows_of_supports events steps low k s e))
      (Each-canon row_cmp (Fits (below_of (below steps) s)) _
      (supports_fit events spans (below steps) (λ i. step_rows steps i events) s
      (each_lower (λ i. Each (Fits (below steps i)) (step_rows steps i events)) k s (low k s e) lower))))
  fits_at k lower None e = subst (Each (Fits (below steps k))) (sym (no_rows steps events k e)) tt

  -- no row of a step is longer than the step's rows can be
  pub step_rows_fit : (k : ℕ) → Each (Fits (below steps k)) (step_rows steps k events)
  step_rows_fit =
      by_lower (λ k. Each (Fits (below steps k)) (step_rows steps k events)) (λ k lower. fits_at k lower (step_at steps k) refl)
