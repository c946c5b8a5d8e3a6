-- How many visits a Minus can have left.
use Rattle.std.specs.Prelude.{◌≡◌, ℕ, ◌+◌, ◌*◌, ◌^◌, ◌<◌, ◌≤◌, Bool, true, false, cond, Option, Some, None, List, [], ◌∷◌, ◌++◌, length, drop, map, slice_get}
use Rattle.std.specs.List.{filter, flat_map}
use Rattle.std.specs.Option.{option_and_then, option_map_or}
use Rattle.std.specs.Ordering.{is_lt}
use Rattle.std.specs.declared.cmp.Ordering.{Ordering}
use Rattle.std.specs.declared.cmp.Ordering.TheVariants.{Less, Equal, Greater}
use Rattle.std.proofs.Common.{not, length-append, arith}
use Rattle.std.proofs.lemmas.List.{length-map, length-drop}
use Rattle.ordered_lists.specs.Canon.{canon, place, placed}
use Rattle.interval_ops.specs.declared.ranges.Range.{Range}
use Rattle.ev_bind.specs.Bindings.{Pairs}
use Rattle.ev_bind.specs.declared.rows.Row.{Row}
use Rattle.rule_ast.specs.PlainPlans.{PlainIndex}
use Rattle.row_changes.specs.Partners.{edge_cmp, is_listed, listed}
use Rattle.change_meaning.specs.MinusVisits.{MinusView, TestTask, test, tests_at, tested_rows, joined_task, inner_task, before_task, after_task}
use Rattle.goal_store.specs.Goals.{seen, rest, from_row, indexes_of, row_at}
use Rattle.goal_store.specs.declared.cursors.Cursor.{Cursor}
use Rattle.goal_store.specs.declared.kept.GoalStore.{GoalStore}
use Rattle.goal_store.specs.declared.marks.When.{When}
use Rattle.step_changes.specs.Deltas.{plain_delta, plain_deltas}
use Rattle.step_changes.specs.declared.deltas.Delta.{Delta}
use Rattle.negation_witness.specs.Testing.{minus_left, under_left, tested, changed_tasks}
use Rattle.negation_witness.specs.Ways.{minus_view}
use Rattle.negation_witness.specs.declared.places.Test.{Test}
use Rattle.negation_witness.specs.declared.places.TestPlace.{TestPlace}
use Rattle.negation_witness.specs.declared.ways.MinusWay.{MinusWay}

filter_len : {A : Type 0} (p : A → Bool) (xs : List A) → length (filter p xs) ≤ length xs
filter_len p [] = omega arith
filter_len p (x ∷ xs) = at (p x) (filter_len p xs)
  where
    at : (b : Bool) → length (filter p xs) ≤ length xs → length (cond b (x ∷ filter p xs) (filter p xs)) ≤ length (x ∷ xs)
    at true i = omega (arith, i)
    at false i = omega (arith, i)

place_len : {K : Type 0} (R : K → K → Ordering) (r : K) (xs : List K) → length (place R r xs) ≤ length xs + 1
place_len R r [] = omega arith
place_len R r (x ∷ xs) = at (R r x) (place_len R r xs)
  where
    at : (c : Ordering) → length (place R r xs) ≤ length xs + 1 → length (placed R c r x xs (place R r xs)) ≤ length (x ∷ xs) + 1
    at Less i = omega (arith, i)
    at Equal i = omega (arith, i)
    at Greater i = omega (arith, i)

canon_len : {K : Type 0} (R : K → K → Ordering) (xs : List K) → length (canon R xs) ≤ length xs
canon_len R [] = omega arith
canon_len R (x ∷ xs) = let i = canon_len R xs in let k = place_len R x (canon R xs) in omega (arith, i, k)

flat_len : {A B : Type 0} (f : A → List B) (m : ℕ) → ((x : A) → length (f x) ≤ m) → (xs : List A) → length (flat_map f xs) ≤ length xs * m
flat_len f m h [] = omega arith
flat_len f m h (x ∷ xs) =
    let i = flat_len f m h xs in let e = length-append (f x) (flat_map f xs) in let k = h x in omega (arith, i, e, k)

listed_len : (key : List ℕ) (range : Range) (b : Pairs) (rows : List Row) → length (listed key range b rows) ≤ length rows
listed_len key range b rows =
    let c = canon_len (edge_cmp range.edge) (filter (is_listed key range b) rows) in
    let f = filter_len (is_listed key range b) rows in omega (arith, c, f)

module _ (goals : GoalStore) (few : (s : ℕ) (w : When) → length (seen goals s w) < 2 ^ 64) where
  from_len : (ix : PlainIndex) (high : ℕ) (r : Row) (w : When) → length (from_row ix high r (seen goals ix.of w)) < 2 ^ 64
  from_len ix high r w =
      let range : Range = record { edge = ix.edge; low = 0; high = high } in
      let l = listed_len ix.key range r.binding (seen goals ix.of w) in
      let f = filter_len (λ x. not (is_lt (edge_cmp ix.edge x r))) (listed ix.key range r.binding (seen goals ix.of w)) in
      let k = few ix.of w in omega (arith, l, f, k)

  pub rest_len : (c : Cursor) → length (rest goals c) < 2 ^ 64
  unfolding rest
  rest_len c = at (option_and_then (row_at goals) c.number)
    where
      at_index : (r : Row) (o : Option PlainIndex)
          → length (option_map_or (λ ix. from_row ix c.high r (seen goals ix.of c.when)) o []) < 2 ^ 64
      at_index r None = omega arith
      at_index r (Some ix) = from_len ix c.high r c.when

      at : (o : Option Row) → length (option_map_or (λ r. option_map_or (λ ix. from_row ix c.high r (seen goals ix.of c.when))
          (slice_get (indexes_of goals) c.index) []) o []) < 2 ^ 64
      at None = omega arith
      at (Some r) = at_index r (slice_get (indexes_of goals) c.index)

tests_len : (v : MinusView) → length v.joined < 2 ^ 64 → (t : TestTask) → length (tests_at v t) ≤ 2 ^ 64
tests_len v h t =
    let l = listed_len t.key t.range t.row.binding v.joined in let m = length-map (tested_rows v t) (test v t.row) in omega (arith, l, m, h)

plain_len : (ds : List Delta) → length (plain_deltas ds) ≡ length ds
plain_len ds = length-map ds plain_delta

tasks_len : (v : MinusView) (joined inner before after : List Delta)
    → length (changed_tasks v joined inner before after) ≡ length joined + (length inner + (length before + length after))
tasks_len v joined inner before after =
    let j = length-map (plain_deltas joined) joined_task in let i = length-map (plain_deltas inner) (inner_task v) in
    let b = length-map (plain_deltas before) (before_task v) in let a = length-map (plain_deltas after) (after_task v) in
    let ba = length-append (map (before_task v) (plain_deltas before)) (map (after_task v) (plain_deltas after)) in
    let iba = length-append (map (inner_task v) (plain_deltas inner))
    (map (before_task v) (plain_deltas before) ++ map (after_task v) (plain_deltas after)) in
    let all = length-append (map joined_task (plain_deltas joined))
    (map (inner_task v) (plain_deltas inner) ++ (map (before_task v) (plain_deltas before) ++ map (after_task v) (plain_deltas after))) in
    omega (arith, j, i, b, a, ba, iba, all, plain_len joined, plain_len inner, plain_len before, plain_len after)

under_len : (goals : GoalStore) (way : MinusWay) → ((s : ℕ) (w : When) → length (seen goals s w) < 2 ^ 64) → (u : Option Test)
    → length (under_left goals way u) < 2 ^ 64
under_len goals way few None = omega arith
under_len goals way few (Some u) =
    let m = length-map (rest goals u.cursor) (tested (minus_view goals way) u.end) in
    let r = rest_len goals few u.cursor in omega (arith, m, r)

drop_len : {A : Type 0} (n : ℕ) (xs : List A) → length (drop n xs) ≤ length xs
drop_len n xs = let e = length-drop n xs in omega (arith, e)

-- few rows and few changed rows leave few visits
pub minus_few : (goals : GoalStore) (way : MinusWay) (joined inner before after : List Delta) (place : TestPlace)
    → ((s : ℕ) (w : When) → length (seen goals s w) < 2 ^ 64)
    → length joined < 2 ^ 64 → length inner < 2 ^ 64 → length before < 2 ^ 64 → length after < 2 ^ 64
    → length (minus_left goals way joined inner before after place) < 2 ^ 132
unfolding minus_left
minus_few goals way joined inner before after place few j i b a =
    let v = minus_view goals way in let ts = changed_tasks v joined inner before after in
    let f = flat_len (tests_at v) (2 ^ 64) (tests_len v (few _ _)) (drop place.at ts) in
    let e = length-append (under_left goals way place.under) (flat_map (tests_at v) (drop place.at ts)) in
    let u = under_len goals way few place.under in
    let d = drop_len place.at ts in let t = tasks_len v joined inner before after in
    omega (arith, f, e, u, d, t, j, i, b, a)
