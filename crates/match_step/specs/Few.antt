-- How many visits a join can have left.
use Rattle.std.specs.Prelude.{ℕ, ◌+◌, ◌*◌, ◌^◌, ◌<◌, ◌≤◌, Bool, true, false, cond, List, [], ◌∷◌, length, map, drop, not, Option, Some, None, slice_get}
use Rattle.std.specs.List.{filter, flat_map}
use Rattle.std.specs.Option.{option_map_or, option_and_then}
use Rattle.std.proofs.Common.{arith, length-append}
use Rattle.std.proofs.lemmas.List.{length-drop, length-map}
use Rattle.std.specs.Ordering.{is_lt}
use Rattle.std.specs.declared.cmp.Ordering.{Ordering}
use Rattle.std.specs.declared.cmp.Ordering.TheVariants.{Less, Equal, Greater}
use Rattle.ordered_lists.specs.Canon.{place, placed, canon}
use Rattle.interval_ops.specs.Operators.{partner_range}
use Rattle.interval_ops.specs.declared.ranges.Range.{Range}
use Rattle.interval_ops.specs.declared.ranges.Side.{Side}
use Rattle.interval_ops.specs.declared.ranges.Side.TheVariants.{Left, Right}
use Rattle.ev_bind.specs.Bindings.{Pairs}
use Rattle.ev_bind.specs.declared.rows.Row.{Row}
use Rattle.rule_ast.specs.PlainPlans.{PlainIndex}
use Rattle.row_changes.specs.Partners.{edge_cmp, is_listed, listed}
use Rattle.row_changes.specs.Visits.{signed}
use Rattle.change_meaning.specs.JoinVisits.{JoinView, JoinTask, join_task, join_tasks, partners, meeting_visit, visits_at}
use Rattle.goal_store.specs.Goals.{seen, rest, row_at, from_row, indexes_of}
use Rattle.goal_store.specs.declared.cursors.Cursor.{Cursor}
use Rattle.goal_store.specs.declared.kept.GoalStore.{GoalStore}
use Rattle.goal_store.specs.declared.marks.When.{When}
use Rattle.goal_store.specs.declared.marks.When.TheVariants.{Before, After}
use Rattle.step_changes.specs.Deltas.{plain_delta, plain_deltas}
use Rattle.step_changes.specs.Indexed.{index_of}
use Rattle.step_changes.specs.declared.deltas.Delta.{Delta}
use Rattle.match_step.specs.declared.joining.Place.{Place}
use Rattle.match_step.specs.declared.joining.Under.{Under}
use Rattle.match_step.specs.declared.ways.JoinWay.{JoinWay}
use Rattle.match_step.specs.Left.{item, rows_at, mark_left}
use Rattle.match_step.specs.Joining.{view_of, under_left, join_left}

-- ---- lists

filter_len : {A : Type 0} (p : A → Bool) (xs : List A) → length (filter p xs) ≤ length xs
filter_len p [] = omega arith
filter_len p (x ∷ xs) = at (p x) (filter_len p xs)
  where
    at : (b : Bool) → length (filter p xs) ≤ length xs → length (cond b (x ∷ filter p xs) (filter p xs)) ≤ length (x ∷ xs)
    at true i = omega (arith, i)
    at false i = omega (arith, i)

place_len : {K : Type 0} (R : K → K → Ordering) (r : K) (xs : List K) → length (place R r xs) ≤ length xs + 1
place_len R r [] = omega arith
place_len R r (x ∷ xs) = at (R r x) (place_len R r xs)
  where
    at : (c : Ordering) → length (place R r xs) ≤ length xs + 1 → length (placed R c r x xs (place R r xs)) ≤ length (x ∷ xs) + 1
    at Less i = omega arith
    at Equal i = omega arith
    at Greater i = omega (arith, i)

canon_len : {K : Type 0} (R : K → K → Ordering) (xs : List K) → length (canon R xs) ≤ length xs
canon_len R [] = omega arith
canon_len R (x ∷ xs) = let i = canon_len R xs in let p = place_len R x (canon R xs) in omega (arith, i, p)

flat_len : {A B : Type 0} (f : A → List B) (m : ℕ) → ((x : A) → length (f x) ≤ m) → (xs : List A)
    → length (flat_map f xs) ≤ length xs * m
flat_len f m h [] = omega arith
flat_len f m h (x ∷ xs) =
    let i = flat_len f m h xs in let e = length-append (f x) (flat_map f xs) in let k = h x in omega (arith, i, e, k)

listed_len : (key : List ℕ) (range : Range) (b : Pairs) (rows : List Row) → length (listed key range b rows) ≤ length rows
listed_len key range b rows =
    let c = canon_len (edge_cmp range.edge) (filter (is_listed key range b) rows) in
    let f = filter_len (is_listed key range b) rows in omega (arith, c, f)

-- ---- a store whose steps are seen to have fewer than 2 ^ 64 rows each

module _ (goals : GoalStore) (few : (s : ℕ) (w : When) → length (seen goals s w) < 2 ^ 64) where
  rest_len : (c : Cursor) → length (rest goals c) < 2 ^ 64
  unfolding rest
  rest_len c = at (option_and_then (row_at goals) c.number)
    where
      from : (r : Row) (o : Option PlainIndex) → length (option_map_or (λ ix. from_row ix c.high r (seen goals ix.of c.when)) o []) < 2 ^ 64
      from r None = omega arith
      from r (Some ix) =
          let range : Range = record { edge = ix.edge; low = 0; high = c.high } in
          let f = filter_len (λ x. not (is_lt (edge_cmp ix.edge x r))) (listed ix.key range r.binding (seen goals ix.of c.when)) in
          let l = listed_len ix.key range r.binding (seen goals ix.of c.when) in
          let k = few ix.of c.when in omega (arith, f, l, k)

      at : (o : Option Row) → length (option_map_or (λ r.
          option_map_or (λ ix. from_row ix c.high r (seen goals ix.of c.when)) (slice_get (indexes_of goals) c.index) []) o []) < 2 ^ 64
      at None = omega arith
      at (Some r) = from r (slice_get (indexes_of goals) c.index)

  rows_len : (o : Option Cursor) → length (rows_at goals o) < 2 ^ 64
  rows_len None = omega arith
  rows_len (Some c) = rest_len c

  under_len : (o : Option Under) → length (under_left goals o) < 2 ^ 64
  under_len None = omega arith
  under_len (Some u) =
      let r = rows_len u.mark.cursor in
      let i = length-map (rows_at goals u.mark.cursor) (item u.mark.seeker) in
      let m = length-map (mark_left goals u.mark) (signed u.sign) in omega (arith, r, i, m)

-- a changed row has a visit of its own, and one for each partner
visits_len : (v : JoinView) → length v.lefts < 2 ^ 64 → length v.rights < 2 ^ 64 → (t : JoinTask) → length (visits_at v t) ≤ 2 ^ 64
visits_len v a b t = let p = found t.side in let m = length-map (partners v t.side t.row) (meeting_visit v t) in omega (arith, p, m)
  where
    found : (side : Side) → length (partners v side t.row) < 2 ^ 64
    found Left = let l = listed_len v.key (partner_range v.op Left t.row.span) t.row.binding v.rights in omega (arith, l, b)
    found Right = let l = listed_len v.key (partner_range v.op Right t.row.span) t.row.binding v.lefts in omega (arith, l, a)

pub join_few : (goals : GoalStore) (way : JoinWay) (lefts rights : List Delta) (place : Place)
    → ((s : ℕ) (w : When) → length (seen goals s w) < 2 ^ 64) → length lefts < 2 ^ 64 → length rights < 2 ^ 64
    → length (join_left goals way lefts rights place) < 2 ^ 131
unfolding join_left
join_few goals way lefts rights place few a b =
    let v = view_of goals way in
    let ts = join_tasks (plain_deltas lefts) (plain_deltas rights) in
    let f = flat_len (visits_at v) (2 ^ 64)
    (visits_len v (few (index_of goals way.lefts).of Before) (few (index_of goals way.rights).of After)) (drop place.begun ts) in
    let d = length-drop place.begun ts in
    let e = length-append (under_left goals place.under) (flat_map (visits_at v) (drop place.begun ts)) in
    let u = under_len goals few place.under in
    let t = length-append (map (join_task Left) (plain_deltas lefts)) (map (join_task Right) (plain_deltas rights)) in
    let tl = length-map (plain_deltas lefts) (join_task Left) in let tr = length-map (plain_deltas rights) (join_task Right) in
    let pl = length-map lefts plain_delta in let pr = length-map rights plain_delta in
    omega (arith, f, d, e, u, t, tl, tr, pl, pr, a, b)
