-- The chains that a NOT takes away, as threes of rows.
use Rattle.std.specs.Prelude.{◌≡◌, refl, Bool, true, false, cond, ◌&&◌, nat_lt, Option, Some, None, option_and_then, List, [], ◌∷◌, ◌++◌}
use Rattle.std.specs.List.{flat_map}
use Rattle.std.proofs.Common.{ap, sym, ◌∙◌, append-nil}
use Rattle.std.proofs.lemmas.Grind.{flat_map-append}
use Rattle.ordered_lists.specs.Lists.{some_of, with_each, joins, flat_map_same}
use Rattle.ordered_lists.specs.Canon.{has-canon}
use Rattle.ordered_lists.specs.Members.{canon-joins-same}
use Rattle.event_model.specs.declared.operators.Op.TheVariants.{Seq}
use Rattle.ev_bind.specs.Bindings.{Pairs, union_of, join, join_twice}
use Rattle.event_model.specs.Spans.{PlainSpan}
use Rattle.ev_bind.specs.Rows.{exact_rows}
use Rattle.ev_bind.specs.declared.rows.Row.{Row}
use Rattle.pattern_meaning.specs.PatternRows.{rows_of, spanned}
use Rattle.pattern_meaning.specs.RuleRows.{joined, joined_rows}

-- from the start of the first row to the end of the last
abbrev pub from_to : Row → Row → PlainSpan
from_to x z = record { start = x.span.start; end = z.span.end }

-- the row of three rows that agree
abbrev pub united : Row → Row → Row → Option Row
united x y z = spanned (Some (from_to x z)) (union_of ((x.binding ++ y.binding) ++ z.binding))

-- and of three that follow on one another besides
abbrev pub chain : Row → Row → Row → Option Row
chain x y z = cond (nat_lt x.span.end y.span.start && nat_lt y.span.end z.span.start) (united x y z) None

-- the rows that chains of a row of each of these lists give
abbrev pub chains : (before inner after : List Row) → List Row
chains before inner after = flat_map (λ x. flat_map (λ y. flat_map (λ z. some_of (chain x y z)) after) inner) before

flat_map-flat_map : {A B C : Type 0} (f : B → List C) (g : A → List B) (xs : List A)
    → flat_map f (flat_map g xs) ≡ flat_map (λ x. flat_map f (g x)) xs
flat_map-flat_map f g [] = refl
flat_map-flat_map f g (x ∷ xs) = flat_map-append f (g x) (flat_map g xs) ∙ ap (λ l. flat_map f (g x) ++ l) (flat_map-flat_map f g xs)

flat_map_none : {A C : Type 0} (f : A → List C) → ((x : A) → f x ≡ []) → (xs : List A) → [] ≡ flat_map f xs
flat_map_none f h [] = refl
flat_map_none f h (x ∷ xs) = flat_map_none f h xs ∙ sym (ap (λ l. l ++ flat_map f xs) (h x))

module _ (x y : Row) where
  -- the first two agree
  third : (z : Row) (d : Pairs) → join x.binding y.binding ≡ Some d → (c : Bool)
      → some_of (spanned (cond c (Some (from_to x z)) None) (join d z.binding)) ≡ some_of (cond c (united x y z) None)
  third z d e true =
      ap (λ o. some_of (spanned (Some (from_to x z)) o))
      (ap (option_and_then (λ d. join d z.binding)) (sym e) ∙ join_twice x.binding y.binding z.binding)
  third z d e false = refl

  -- they don't
  no_third : (z : Row) → join x.binding y.binding ≡ None → (c : Bool) → some_of (cond c (united x y z) None) ≡ []
  no_third z e true =
      ap (λ o. some_of (spanned (Some (from_to x z)) o))
      (sym (join_twice x.binding y.binding z.binding) ∙ ap (option_and_then (λ d. join d z.binding)) e)
  no_third z e false = refl

  pair_chains : (after : List Row)
      → flat_map (with_each (joined Seq) after) (some_of (joined Seq x y)) ≡ flat_map (λ z. some_of (chain x y z)) after
  pair_chains after = at (nat_lt x.span.end y.span.start) (join x.binding y.binding) refl
    where
      at : (c : Bool) (o : Option Pairs) → join x.binding y.binding ≡ o
          → flat_map (with_each (joined Seq) after) (some_of (spanned (cond c (Some (from_to x y)) None) o))
          ≡ flat_map (λ z. some_of (cond (c && nat_lt y.span.end z.span.start) (united x y z) None)) after
      at true (Some d) e =
          append-nil (with_each (joined Seq) after (record { binding = d; span = from_to x y }))
          ∙ flat_map_same _ _ (λ z. third z d e (nat_lt y.span.end z.span.start)) after
      at true None e = flat_map_none _ (λ z. no_third z e (nat_lt y.span.end z.span.start)) after
      at false o e = flat_map_none _ (λ z. refl) after

-- two joins by SEQ give the rows of the chains
pub chains_are : (before inner after : List Row)
    → joined_rows Seq (joined_rows Seq before inner) after ≡ rows_of (chains before inner after)
chains_are before inner after =
    let first = joins (joined Seq) before inner in
    let behind = with_each (joined Seq) after in
    canon-joins-same exact_rows exact_rows exact_rows (joined Seq) (joined_rows Seq before inner) first after after
    (λ q. has-canon exact_rows q first) (λ q. refl)
    ∙ ap rows_of
    (flat_map-flat_map behind (with_each (joined Seq) inner) before
    ∙ flat_map_same _ _
    (λ x. flat_map-flat_map behind (λ y. some_of (joined Seq x y)) inner ∙ flat_map_same _ _ (λ y. pair_chains x y after) inner)
    before)
