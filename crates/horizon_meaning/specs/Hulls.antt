-- What holds of the span of a joined row, which is the hull of its two rows' spans, holds of the row; so with the row of an atom.
use Rattle.std.specs.Prelude.{◌≡◌, refl, Bool, true, false, cond, Option, Some, None, List, [], ◌∷◌}
use Rattle.std.proofs.Common.{ap, sym, ◌∙◌, arith}
use Rattle.std.proofs.lemmas.Bool.{true≢false}
use Rattle.std.proofs.lemmas.Bool.Decides.{nat_tests}
use Rattle.ordered_lists.specs.Lists.{some_of, joins, Each, joins-filter}
use Rattle.ordered_lists.specs.Canon.{filter-canon}
use Rattle.event_model.specs.Spans.{PlainSpan}
use Rattle.event_model.specs.declared.operators.Op.{Op}
use Rattle.event_model.specs.declared.atoms.PatAtom.{PatAtom}
use Rattle.interval_ops.specs.Operators.{pairs, hull}
use Rattle.interval_ops.specs.Operators.{spanned as pair_span}
use Rattle.ev_bind.specs.Bindings.{Pairs, join}
use Rattle.ev_bind.specs.Matching.{match_of_args}
use Rattle.ev_bind.specs.Rows.{exact_rows}
use Rattle.ev_bind.specs.declared.rows.Row.{Row}
use Rattle.pattern_meaning.specs.PatternRows.{rows_of, spanned, matched, args_of}
use Rattle.pattern_meaning.specs.RuleRows.{joined, joined_rows}
use Rattle.step_meaning.specs.Cuts.{Goes, RowGoes, cut}

-- a pair of any operator is on the hull of the two
pair_is_hull : (op : Op) (x y : PlainSpan) → Goes x → Goes y → pairs op x y ≡ true → pair_span op x y ≡ hull x y
pair_is_hull op x y a b h =
    let start : (pair_span op x y).start ≡ (hull x y).start = grind (arith, nat_tests) in
    let end : (pair_span op x y).end ≡ (hull x y).end = grind (arith, nat_tests) in
    λ i. record { start = start i; end = end i }

-- ---- tests

neither : {A : Type 0} (b : Bool) → ◌≡◌ {A = List A} [] (cond b [] [])
neither true = refl
neither false = refl

module _ (t : PlainSpan → Bool) where
  spanned_test : (s : PlainSpan) (c : Bool) → t s ≡ c → (b : Option Pairs)
      → cut t (some_of (spanned (Some s) b)) ≡ cond c (some_of (spanned (Some s) b)) []
  spanned_test s c h None = neither c
  spanned_test s c h (Some b) = ap (λ d. cond d (record { binding = b; span = s } ∷ []) []) h

  -- a joined row passes where the hull does
  pub joined_test : (op : Op) (x y : Row) → RowGoes x → RowGoes y → (c : Bool) → t (hull x.span y.span) ≡ c
      → cut t (some_of (joined op x y)) ≡ cond c (some_of (joined op x y)) []
  joined_test op x y a b c h = at (pairs op x.span y.span) refl
    where
      at : (d : Bool) → pairs op x.span y.span ≡ d
          → cut t (some_of (spanned (cond d (Some (pair_span op x.span y.span)) None) (join x.binding y.binding)))
          ≡ cond c (some_of (spanned (cond d (Some (pair_span op x.span y.span)) None) (join x.binding y.binding))) []
      at true e =
          spanned_test (pair_span op x.span y.span) c (ap t (pair_is_hull op x.span y.span a b e) ∙ h) (join x.binding y.binding)
      at false e = neither c

  pub matched_test : (p : PatAtom) (r : Row) (c : Bool) → t r.span ≡ c → cut t (matched p r) ≡ cond c (matched p r) []
  matched_test p r c h = spanned_test r.span c h (match_of_args p.args (args_of r))

-- ---- properties

module _ (P : PlainSpan → Type 0) where
  spanned_each : (s : PlainSpan) → P s → (b : Option Pairs) → Each (λ r. P r.span) (some_of (spanned (Some s) b))
  spanned_each s h None = tt
  spanned_each s h (Some b) = (h, tt)

  pub joined_each : (op : Op) (x y : Row) → (pairs op x.span y.span ≡ true → P (pair_span op x.span y.span))
      → Each (λ r. P r.span) (some_of (joined op x y))
  joined_each op x y h = at (pairs op x.span y.span) refl
    where
      at : (d : Bool) → pairs op x.span y.span ≡ d
          → Each (λ r. P r.span) (some_of (spanned (cond d (Some (pair_span op x.span y.span)) None) (join x.binding y.binding)))
      at true e = spanned_each (pair_span op x.span y.span) (h e) (join x.binding y.binding)
      at false e = tt

  pub matched_each : (p : PatAtom) (r : Row) → P r.span → Each (λ r. P r.span) (matched p r)
  matched_each p r h = spanned_each r.span h (match_of_args p.args (args_of r))

-- ---- joins of parts

-- both parts of a hull that passes p pass q
abbrev pub IsPart : (q p : PlainSpan → Bool) → Type 0
IsPart q p = (x y : PlainSpan) → Goes x → Goes y → p (hull x y) ≡ true → (q x ≡ true) × (q y ≡ true)

fails : (b : Bool) → (b ≡ true → ⊥) → b ≡ false
fails true h = absurd (h refl)
fails false h = refl

module _ (q p : PlainSpan → Bool) (part : IsPart q p) where
  -- joined rows that pass p are joined of rows that pass q
  pub joins_part : (op : Op) (xs ys : List Row) → Each RowGoes xs → Each RowGoes ys
      → cut p (joins (joined op) xs ys) ≡ cut p (joins (joined op) (cut q xs) (cut q ys))
  joins_part op =
      joins-filter (joined op) RowGoes RowGoes (λ r. p r.span) (λ r. q r.span) (λ r. q r.span)
      (λ x y a b e. joined_test p op x y a b false
      (fails (p (hull x.span y.span)) (λ h. true≢false (sym (part x.span y.span a b h).0 ∙ e))))
      (λ x y a b e. joined_test p op x y a b false
      (fails (p (hull x.span y.span)) (λ h. true≢false (sym (part x.span y.span a b h).1 ∙ e))))

  pub joined_rows_part : (op : Op) (xs ys : List Row) → Each RowGoes xs → Each RowGoes ys
      → cut p (joined_rows op xs ys) ≡ cut p (joined_rows op (cut q xs) (cut q ys))
  joined_rows_part op xs ys a b =
      filter-canon exact_rows (λ r. p r.span) (joins (joined op) xs ys)
      ∙ ap rows_of (joins_part op xs ys a b)
      ∙ sym (filter-canon exact_rows (λ r. p r.span) (joins (joined op) (cut q xs) (cut q ys)))
