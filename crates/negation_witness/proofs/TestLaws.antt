-- The work of a Minus on its changed rows.
use Rattle.std.proofs.Common.{◌≡◌, refl, ap, sym, ◌∙◌, subst, ℕ, ◌+◌, ◌-◌, ◌<◌, ◌≤◌, ◌&&◌, Bool, false, cond, nat_le, List, [], ◌∷◌, ◌++◌, length, drop, map, slice_index_or, Option, Some, None, IfSome, IfNone, arith}
use Rattle.std.specs.List.{filter}
use Rattle.std.proofs.Math.Bool.{and-false}
use Rattle.std.proofs.lemmas.Bool.Decides.{nat_tests}
use Rattle.std.proofs.lemmas.List.{length-map}
use Rattle.event_model.specs.declared.operators.Edge.TheVariants.{Start}
use Rattle.interval_ops.specs.Operators.{empty_range}
use Rattle.interval_ops.specs.declared.ranges.Range.{Range}
use Rattle.ev_bind.specs.Bindings.{Pairs}
use Rattle.ev_bind.specs.declared.rows.Row.{Row}
use Rattle.row_changes.specs.Partners.{edge_cmp, agree, is_listed, listed}
use Rattle.ordered_lists.specs.Canon.{canon}
use Rattle.rule_ast.specs.PlainPlans.{PlainIndex}
use Rattle.goal_store.specs.Goals.{seen}
use Rattle.goal_store.specs.Walks.{rows_left}
use Rattle.goal_store.specs.declared.kept.GoalStore.{GoalStore}
use Rattle.goal_store.specs.declared.marks.When.TheVariants.{After}
use Rattle.goal_store.specs.declared.walks.RowsFrom.{RowsFrom}
use Rattle.step_changes.specs.Indexed.{index_at, index_of}
use Rattle.negation_witness.specs.Looking.{rows_or_none}
use Rattle.step_changes.specs.Drops.{map-index, in_front, behind, at_last}

filter_none : {A : Type 0} (p : A → Bool) (xs : List A) → ((x : A) → p x ≡ false) → filter p xs ≡ []
filter_none p [] h = refl
filter_none p (x ∷ xs) h = ap (λ b. cond b (x ∷ filter p xs) (filter p xs)) (h x) ∙ filter_none p xs h

no_tick : (n : ℕ) → (nat_le 1 n && nat_le n 0) ≡ false
no_tick n = grind (arith, nat_tests)

-- no row lies in an empty range
pub listed_nowhere : (key : List ℕ) (b : Pairs) (rows : List Row) → listed key (empty_range Start) b rows ≡ []
listed_nowhere key b rows = ap (canon (edge_cmp Start)) (filter_none (is_listed key (empty_range Start) b) rows
    (λ r. ap (λ t. agree key b r.binding && t) (no_tick r.span.start) ∙ and-false (agree key b r.binding)))

-- the walk over an index that is there
pub walk_lists : (o : Option RowsFrom) (goals : GoalStore) (n : ℕ) (range want : Range) (key : Pairs) → range ≡ want
    → index_at goals n ≡ Some (index_of goals n) → (index_of goals n).edge ≡ want.edge
    → IfNone o (index_at goals n ≡ None)
    → IfSome o (λ w. (ix : PlainIndex) → index_at goals n ≡ Some ix → ix.edge ≡ range.edge
    → rows_left w ≡ listed ix.key range key (seen goals ix.of After))
    → rows_or_none o ≡ listed (index_of goals n).key want key (seen goals (index_of goals n).of After)
walk_lists None goals n range want key e there edge none some =
    let k : None ≡ Some (index_of goals n) = sym none ∙ there in absurd (cc)
walk_lists (Some w) goals n range want key e there edge none some =
    some (index_of goals n) there (edge ∙ sym (ap (λ r. r.edge) e))
    ∙ ap (λ r. listed (index_of goals n).key r key (seen goals (index_of goals n).of After)) e

-- ---- changed rows by their numbers

module _ {A B X : Type 0} (g : A → B) (f : B → X) (xs : List A) where
  index : (i : ℕ) (d : A) → f (slice_index_or (map g xs) i (g d)) ≡ f (g (slice_index_or xs i d))
  index i d = ap f (map-index g xs i d)

  pub first_list : (ys : List X) (i : ℕ) (d : A) → i < length xs
      → drop i (map f (map g xs) ++ ys) ≡ f (g (slice_index_or xs i d)) ∷ drop (i + 1) (map f (map g xs) ++ ys)
  first_list ys i d h = let lt : i < length (map g xs) = simp length-map h in
      in_front f (map g xs) ys i (g d) lt ∙ ap (λ x. x ∷ drop (i + 1) (map f (map g xs) ++ ys)) (index i d)

  pub last_list : (i : ℕ) (d : A) → i < length xs
      → drop i (map f (map g xs)) ≡ f (g (slice_index_or xs i d)) ∷ drop (i + 1) (map f (map g xs))
  last_list i d h = let lt : i < length (map g xs) = simp length-map h in
      at_last f (map g xs) i (g d) lt ∙ ap (λ x. x ∷ drop (i + 1) (map f (map g xs))) (index i d)

  pub later_list : (ys : List X) (i : ℕ) (x : X) → length xs ≤ i → drop (i - length xs) ys ≡ x ∷ drop (i - length xs + 1) ys
      → drop i (map f (map g xs) ++ ys) ≡ x ∷ drop (i + 1) (map f (map g xs) ++ ys)
  later_list ys i x h e =
      let n = length-map xs g in
      behind f (map g xs) ys i x (subst (λ k. k ≤ i) (sym n) h)
      (subst (λ k. drop (i - k) ys ≡ x ∷ drop (i - k + 1) ys) (sym n) e)
