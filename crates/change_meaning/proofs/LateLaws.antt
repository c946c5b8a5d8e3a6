-- What changes of late events add and take is late: it ends at the bound or later.
use Rattle.std.specs.Prelude.{ℕ, ◌≡◌, ◌+◌, ◌<◌, ◌≤◌, refl, Bool, true, false, cond, not, ◌&&◌, ◌||◌, nat_le, Option, Some, None, List, [], ◌∷◌, map}
use Rattle.std.specs.List.{filter, flat_map}
use Rattle.std.specs.Ordering.{is_eq}
use Rattle.std.specs.Cmp.{tied_itself}
use Rattle.std.specs.declared.cmp.Ordering.{Ordering}
use Rattle.std.specs.declared.cmp.Ordering.TheVariants.{Less, Equal, Greater}
use Rattle.std.proofs.Common.{ap, sym, ◌∙◌, arith}
use Rattle.std.proofs.lemmas.Bool.{true≢false, or_left, or_right, and_parts}
use Rattle.std.proofs.lemmas.Bool.Decides.{nat_tests}
use Rattle.ordered_lists.specs.Lists.{some_of, joins, Each, Each-append, Each-filter, Each-flat_map}
use Rattle.ordered_lists.specs.Canon.{has}
use Rattle.ordered_lists.specs.Members.{Each_has}
use Rattle.event_model.specs.Events.{span_of, time_of}
use Rattle.event_model.specs.Spans.{PlainSpan}
use Rattle.event_model.specs.declared.atoms.NameArity.{NameArity}
use Rattle.event_model.specs.declared.atoms.PatAtom.{PatAtom}
use Rattle.event_model.specs.declared.operators.Op.{Op}
use Rattle.event_model.specs.declared.operators.Edge.TheVariants.{Start, End}
use Rattle.event_changes.specs.declared.changes.Sign.{Sign}
use Rattle.event_changes.specs.declared.changes.Sign.TheVariants.{Plus, Minus}
use Rattle.event_changes.specs.declared.events.EventChange.{EventChange}
use Rattle.event_changes.specs.declared.events.EventChange.TheVariants.{Came, Went}
use Rattle.interval_ops.specs.Operators.{IsSpan, pairs, range_at, range_before}
use Rattle.interval_ops.specs.Operators.{spanned as pair_span}
use Rattle.ev_bind.specs.Bindings.{Pairs, join}
use Rattle.ev_bind.specs.Matching.{match_of_args}
use Rattle.ev_bind.specs.Rows.{row_cmp, exact_rows}
use Rattle.ev_bind.specs.declared.rows.Row.{Row}
use Rattle.pattern_meaning.specs.PatternRows.{spanned, matched, args_of, found, is_of, events_of, head_row}
use Rattle.pattern_meaning.specs.RuleRows.{joined}
use Rattle.pattern_meaning.proofs.Eachs.{Each-map}
use Rattle.step_meaning.specs.StepRows.{times}
use Rattle.row_changes.specs.Changes.{changed}
use Rattle.row_changes.specs.Partners.{is_listed}
use Rattle.row_changes.specs.Visits.{same_sign}
use Rattle.change_meaning.specs.Moved.{moved_of, events_in, AreLate}
use Rattle.change_meaning.proofs.ChainLaws.{AreLimits}
use Rattle.change_meaning.proofs.KeyLaws.{Each-both}
use Rattle.change_meaning.proofs.MinusLaws.{Side, IsUntouched, untouched, old_rows, new_rows}
use Rattle.change_meaning.proofs.SpanLaws.{OnSpan}
use Rattle.change_meaning.proofs.Sums.{sign_of, has_changed, has_moved}

pub Each_of_has : (P : Row → Type 0) (xs : List Row) → ((r : Row) → has row_cmp r xs ≡ true → P r) → Each P xs
Each_of_has P [] h = tt
Each_of_has P (x ∷ xs) h = (
  h x (or_left (is_eq (row_cmp x x)) (has row_cmp x xs) (ap is_eq (tied_itself exact_rows.total x))),
  Each_of_has P xs (λ r e. h r (or_right (is_eq (row_cmp r x)) (has row_cmp r xs) e)),
)

module _ (b : ℕ) where
  abbrev pub Late : Row → Type 0
  Late r = b ≤ r.span.end

  -- rows that end before the bound and are in both or in none aren't changed
  pub late_changed : (xs ys : List Row) → ((r : Row) → r.span.end < b → has row_cmp r xs ≡ has row_cmp r ys) → Each Late (changed xs ys)
  late_changed xs ys same = Each_of_has Late (changed xs ys) (λ r e. at r (nat_le b r.span.end) refl (sym (has_changed xs ys r) ∙ e))
    where
      idle : (s t : Bool) → s ≡ t → ((t && not s) || (s && not t)) ≡ false
      idle true true k = refl
      idle true false k = absurd (true≢false k)
      idle false true k = absurd (true≢false (sym k))
      idle false false k = refl

      at : (r : Row) (t : Bool) → nat_le b r.span.end ≡ t
          → ((has row_cmp r ys && not (has row_cmp r xs)) || (has row_cmp r xs && not (has row_cmp r ys))) ≡ true → Late r
      at r true g e = (let le : b ≤ r.span.end = grind (arith, nat_tests, g) in le)
      at r false g e =
          let lt : r.span.end < b = grind (arith, nat_tests, g) in
          absurd (true≢false (sym e ∙ idle (has row_cmp r xs) (has row_cmp r ys) (same r lt)))

  pub late_moved_of : (s : Sign) (xs ys : List Row) → Each Late (changed xs ys) → Each Late (moved_of s xs ys)
  late_moved_of s xs ys a =
      Each_of_has Late (moved_of s xs ys) (λ r e.
      Each_has exact_rows Late r (changed xs ys) a
      (and_parts (same_sign s (sign_of ys r)) (has row_cmp r (changed xs ys)) (sym (has_moved s xs ys r) ∙ e)).1)

  pub none_late : (r : Row) → r.span.end < b → (xs : List Row) → Each Late xs → times r xs ≡ 0
  none_late r lt [] a = refl
  none_late r lt (x ∷ xs) a = at (row_cmp r x) refl (none_late r lt xs a.1)
    where
      at : (c : Ordering) → row_cmp r x ≡ c → times r xs ≡ 0 → cond (is_eq c) 1 0 + times r xs ≡ 0
      at Less e g = omega (arith, g)
      at Greater e g = omega (arith, g)
      at Equal e g =
          let same : r.span.end ≡ x.span.end = ap (λ (z : Row). z.span.end) (exact_rows.same r x e) in
          absurd (let k : ⊥ = omega (arith, same, lt, a.0) in k)

  -- ---- steps

  spanned_late : (s : PlainSpan) (d : Option Pairs) → b ≤ s.end → Each Late (some_of (spanned (Some s) d))
  spanned_late s None h = tt
  spanned_late s (Some d) h = (h, tt)

  pub late_matched : (p : PatAtom) (r : Row) → Late r → Each Late (matched p r)
  late_matched p r h = spanned_late r.span (match_of_args p.args (args_of r)) h

  -- the span of a pair ends no earlier than either
  ends_later : (op : Op) (x y : PlainSpan) → IsSpan x → IsSpan y → pairs op x y ≡ true
      → (x.end ≤ (pair_span op x y).end) × (y.end ≤ (pair_span op x y).end)
  ends_later op x y h g e = (grind (arith, nat_tests), grind (arith, nat_tests))

  late_joined : (op : Op) (x y : Row) → OnSpan x → OnSpan y → ((x.span.end ≤ y.span.end → b ≤ y.span.end) × (y.span.end ≤ x.span.end → b ≤ x.span.end))
      → Each Late (some_of (joined op x y))
  late_joined op x y h g le = at (pairs op x.span y.span) refl
    where
      at : (c : Bool) → pairs op x.span y.span ≡ c
          → Each Late (some_of (spanned (cond c (Some (pair_span op x.span y.span)) None) (join x.binding y.binding)))
      at true e =
          let ends = ends_later op x.span y.span h g e in
          spanned_late (pair_span op x.span y.span) (join x.binding y.binding) (by (nat_le x.span.end y.span.end) refl ends)
        where
          by : (t : Bool) → nat_le x.span.end y.span.end ≡ t
              → (x.span.end ≤ (pair_span op x.span y.span).end) × (y.span.end ≤ (pair_span op x.span y.span).end)
              → b ≤ (pair_span op x.span y.span).end
          by true k ends =
              let lt : x.span.end ≤ y.span.end = grind (arith, nat_tests, k) in
              omega (arith, le.0 lt, ends.1)
          by false k ends =
              let lt : y.span.end ≤ x.span.end = grind (arith, nat_tests, k) in
              omega (arith, le.1 lt, ends.0)
      at false e = tt

  -- joins with late rows on either side
  pub late_left : (op : Op) (xs ys : List Row) → Each Late xs → Each OnSpan xs → Each OnSpan ys → Each Late (joins (joined op) xs ys)
  late_left op xs ys l h g =
      Each-flat_map (λ x. Late x × OnSpan x) Late _
      (λ x p. Each-flat_map OnSpan Late (λ y. some_of (joined op x y))
      (λ y q. late_joined op x y p.1 q (λ le. (let k : b ≤ y.span.end = omega (arith, p.0, le) in k), λ _. p.0)) ys g)
      xs (Each-both Late OnSpan xs l h)

  pub late_right : (op : Op) (xs ys : List Row) → Each OnSpan xs → Each Late ys → Each OnSpan ys → Each Late (joins (joined op) xs ys)
  late_right op xs ys h l g =
      Each-flat_map OnSpan Late _
      (λ x p. Each-flat_map (λ y. Late y × OnSpan y) Late (λ y. some_of (joined op x y))
      (λ y q. late_joined op x y p q.1 (λ _. q.0, λ le. (let k : b ≤ x.span.end = omega (arith, q.0, le) in k))) ys (Each-both Late OnSpan ys l g))
      xs h

  pub late_heads : (head : PatAtom) (xs : List Row) → Each Late xs → Each Late (map (head_row head) xs)
  late_heads head xs a = Each-map Late Late (head_row head) (λ r h. h) xs a

  pub late_users : (f : ℕ → List Row) → ((i : ℕ) → Each Late (f i)) → (hs : List ℕ) → Each Late (flat_map f hs)
  late_users f h [] = tt
  late_users f h (i ∷ hs) = Each-append Late (f i) (flat_map f hs) (h i) (late_users f h hs)

  -- ---- events

  late_in : (s : Sign) (es : List EventChange) → AreLate b es → Each (λ e. b ≤ time_of e) (events_in s es)
  late_in Plus [] a = tt
  late_in Minus [] a = tt
  late_in Plus (Came e ∷ es) a = (a.0, late_in Plus es a.1)
  late_in Plus (Went e ∷ es) a = late_in Plus es a.1
  late_in Minus (Came e ∷ es) a = late_in Minus es a.1
  late_in Minus (Went e ∷ es) a = (a.0, late_in Minus es a.1)

  pub late_events : (s : Sign) (es : List EventChange) → AreLate b es → (n : NameArity) → Each Late (events_of (events_in s es) n)
  late_events s es a n =
      Each-map (λ e. b ≤ time_of e) Late (λ e. found e.atom.args (span_of e)) (λ e h. h) (filter (λ e. is_of n e.atom) (events_in s es))
      (Each-filter (λ e. b ≤ time_of e) (λ e. is_of n e.atom) (events_in s es) (late_in s es a))

  -- ---- a Minus

  module _ (sj sb si sa : List ℕ) (limits : AreLimits sj sb si sa) (j : Side sj) (f : Side sb) (i : Side si) (l : Side sa)
      (lj : Each Late (changed j.old j.new)) (lf : Each Late (changed f.old f.new)) (li : Each Late (changed i.old i.new))
      (ll : Each Late (changed l.old l.new)) where
    early_untouched : (r : Row) → r.span.end < b → IsUntouched sj sb si sa limits j f i l r
    early_untouched r lt = record {
      joined = own (has row_cmp r (changed j.old j.new)) refl;
      before = λ _ q h. far (f.old) (f.new) lf q h (is_listed sb (range_at Start q.span.start) q.binding r);
      inner = λ _ q h. far (i.old) (i.new) li q h (is_listed si (range_before Start 0 q.span.start) q.binding r);
      after = λ _ q h. far (l.old) (l.new) ll q h (is_listed sa (range_at End q.span.end) q.binding r);
    }
      where
        own : (c : Bool) → has row_cmp r (changed j.old j.new) ≡ c → c ≡ false
        own false e = refl
        own true e =
            let le : b ≤ r.span.end = Each_has exact_rows Late r (changed j.old j.new) lj e in absurd (let k : ⊥ = omega (arith, lt, le) in k)

        far : (xs ys : List Row) → Each Late (changed xs ys) → (q : Row) → has row_cmp q (changed xs ys) ≡ true → (c : Bool)
            → (nat_le q.span.end r.span.end && c) ≡ false
        far xs ys a q h c =
            let le : b ≤ q.span.end = Each_has exact_rows Late q (changed xs ys) a h in
            let no : nat_le q.span.end r.span.end ≡ false = grind (arith, nat_tests, lt, le) in
            ap (λ t. t && c) no

    -- what comes into a Minus and goes from it is late
    pub late_minus : (s : Sign) → Each Late (moved_of s (old_rows sj sb si sa limits j f i l) (new_rows sj sb si sa limits j f i l))
    late_minus s =
        late_moved_of s (old_rows sj sb si sa limits j f i l) (new_rows sj sb si sa limits j f i l)
        (late_changed (old_rows sj sb si sa limits j f i l) (new_rows sj sb si sa limits j f i l)
        (λ r lt. untouched sj sb si sa limits j f i l r (early_untouched r lt)))
