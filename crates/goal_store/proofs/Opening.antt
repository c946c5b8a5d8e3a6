-- Walks that begin in a store: the list of an index for a key, and where a range or a cursor begins in it.
use Rattle.std.proofs.Common.{ℕ, zero, suc, ◌≡◌, ◌<◌, ◌&&◌, Bool, true, false, not, cond, List, [], ◌∷◌, length, map, get_or, Option, Some, None, refl, ap, sym, ◌∙◌, subst, arith, nat_le, nat_lt}
use Rattle.std.specs.List.{filter, slice_get}
use Rattle.std.specs.Option.{option_map, option_map_or, option_and_then, is_some}
use Rattle.std.specs.Ordering.{is_lt}
use Rattle.std.proofs.Math.Bool.{and-false}
use Rattle.std.proofs.lemmas.Bool.{false_from_ne_true, and_parts, ltb-true, ltb-false, lt-ltb, le-leb}
use Rattle.std.proofs.lemmas.Option.{slice_get-map, slice_get_within, slice_get_read, slice_get_past}
use Rattle.ordered_lists.specs.Canon.{canon, has, Rising, filter-canon}
use Rattle.ordered_lists.specs.Lists.{Each}
use Rattle.ordered_lists.specs.Members.{filter_agree}
use Rattle.key_lists.specs.Lists.{list_in}
use Rattle.key_lists.specs.Pieces.{all_lent, left, IsRun}
use Rattle.key_lists.specs.declared.runs.Position.{Position}
use Rattle.key_lists.specs.declared.runs.Run.{Run}
use Rattle.event_model.specs.declared.operators.Edge.{Edge}
use Rattle.interval_ops.specs.Operators.{edge_of}
use Rattle.interval_ops.specs.declared.ranges.Range.{Range}
use Rattle.ev_bind.specs.Bindings.{Pairs}
use Rattle.ev_bind.specs.Hashing.{code_of}
use Rattle.ev_bind.specs.Projections.{project}
use Rattle.ev_bind.specs.declared.rows.Row.{Row}
use Rattle.row_changes.specs.Partners.{agree, edge_cmp, is_listed, listed}
use Rattle.row_table.specs.Steps.{step_value}
use Rattle.rule_ast.specs.PlainPlans.{PlainIndex, plain_index, slots_list}
use Rattle.rule_ast.specs.declared.plans.Index.{Index}
use Rattle.goal_store.specs.Fits.{SlotsFit}
use Rattle.goal_store.specs.Goals.{rest, from_row, seen, row_at, indexes_of}
use Rattle.goal_store.specs.Good.{held_by}
use Rattle.goal_store.specs.Indexed.{stands}
use Rattle.goal_store.specs.Places.{place_cmp, place_at, least_at}
use Rattle.goal_store.specs.Steps.{kind}
use Rattle.goal_store.specs.Walked.{IsWalk}
use Rattle.goal_store.specs.Walks.{rows_left, shows}
use Rattle.goal_store.specs.declared.cursors.Cursor.{Cursor}
use Rattle.goal_store.specs.declared.indexes.RowIndex.{RowIndex}
use Rattle.goal_store.specs.declared.kept.GoalStore.{GoalStore}
use Rattle.goal_store.specs.declared.marks.When.{When}
use Rattle.goal_store.specs.declared.places.Place.{Place}
use Rattle.goal_store.specs.declared.steps.StepPlaces.{StepPlaces}
use Rattle.goal_store.specs.declared.walks.RowsFrom.{RowsFrom}
use Rattle.goal_store.proofs.Standing.{rest_is, index_of, has_at, upward}
use Rattle.goal_store.proofs.Walking.{each_map, exact_edges, listed_place, shown_listed, shown_rows, filter_turn, filter_twice, from_time}
use Rattle.goal_store.proofs.Walking.{shown_from as rows_from_place}

none_some : {X : Type 0} (x : X) → None ≡ Some x → ⊥
none_some x e = cc

some_same : {X : Type 0} (x y : X) → Some x ≡ Some y → x ≡ y
some_same x y e = cc

some_within : {X : Type 0} (xs : List X) (i : ℕ) → i < length xs → slice_get xs i ≡ None → ⊥
some_within [] i h e = omega (arith, h)
some_within (x ∷ xs) zero h e = none_some x (sym e)
some_within (x ∷ xs) (suc i) h e = some_within xs i (omega (arith, h)) e

-- what a look-up in a copy of a list tells
pub found : {X : Type 0} (xs ys : List X) (i : ℕ) (p : X) → ys ≡ xs → true ≡ nat_lt i (length ys) → p ≡ get_or ys i p → slice_get xs i ≡ Some p
found xs ys i p same inside is =
    ap (λ l. slice_get l i) (sym same) ∙ slice_get_read ys (length ys) i p refl (ltb-true i (length ys) (sym inside)) is

pub missing : {X : Type 0} (xs ys : List X) (i : ℕ) → ys ≡ xs → false ≡ nat_lt i (length ys) → slice_get xs i ≡ None
missing xs ys i same outside =
    ap (λ l. slice_get l i) (sym same) ∙ slice_get_past ys i (ltb-false i (length ys) (sym outside))

-- ---- the list of an index

module _ (g : GoalStore) (index : ℕ) (x : Index) (at : slice_get g.indexes.items index ≡ Some x) (key : Pairs) where
  pub no_step : slice_get g.goals.held.steps.items x.of ≡ None → IsWalk g index x.of x.key x.edge key []
  no_step none = record {
    at = at;
    rising = tt;
    listed = λ p. sym (ap (λ b. stands x.key x.edge (code_of (project x.key key)) p && b) (no_held p) ∙ and-false _);
  }
    where
      no_held : (p : Place) → held_by g.goals.held.rows x.of p.row p.number ≡ false
      no_held p = false_from_ne_true _ (λ e.
          let there = and_parts _ (is_some (step_value g.goals.held.rows p.number x.of)) e in
          some_within g.goals.held.steps.items x.of (ltb-true x.of (length g.goals.held.steps.items) (g.good.held.within p.number x.of there.1)) none)

  pub spot_there : slice_get g.spots.items index ≡ None → ⊥
  spot_there none = let lt = slice_get_within g.indexes.items index x at in let len = g.placed.number in
      some_within g.spots.items index (omega (arith, lt, len)) none

  module _ (p : StepPlaces) (step : slice_get g.goals.held.steps.items x.of ≡ Some p) (k : ℕ) (spot : slice_get g.spots.items index ≡ Some k) where
    kinds : option_map kind (slice_get p.indexes.items k) ≡ Some (x.key, x.edge)
    kinds = ap (option_map kind) (sym (ap (option_and_then (λ p. slice_get p.indexes.items k)) step))
        ∙ g.placed.placed index x k at spot
        (lt-ltb x.of (length g.goals.held.steps.items) (slice_get_within g.goals.held.steps.items x.of p step))

    pub index_there : slice_get p.indexes.items k ≡ None → ⊥
    index_there none = none_some (x.key, x.edge) (sym (ap (option_map kind) none) ∙ kinds)

    pub is_walk : (ix : RowIndex) → slice_get p.indexes.items k ≡ Some ix → (ps : List Place) → ps ≡ list_in ix.lists (code_of (project ix.key key))
        → Rising place_cmp ps → IsWalk g index x.of x.key x.edge key ps
    is_walk ix here ps all rising = record {
      at = at;
      rising = rising;
      listed = λ q. ap (has place_cmp q) all ∙ subst (λ z. has place_cmp q (list_in ix.lists (code_of (project ix.key key)))
          ≡ (stands z.0 z.1 (code_of (project z.0 key)) q && held_by g.goals.held.rows x.of q.row q.number)) same
          (g.good.held.listed x.of k ix (ap (option_and_then (λ p. slice_get p.indexes.items k)) step ∙ here) (code_of (project ix.key key)) q);
    }
      where
        same : kind ix ≡ (x.key, x.edge)
        same = some_same (kind ix) (x.key, x.edge) (sym (ap (option_map kind) here) ∙ kinds)

-- ---- where a range begins

module _ (e : Edge) (low : ℕ) where
  rows_after : (ps : List Place) → Each (λ p. p.edge ≡ edge_of e p.row.span) ps
      → map (λ p. p.row) (filter (λ p. nat_le low p.edge) ps) ≡ filter (λ r. nat_le low (edge_of e r.span)) (map (λ p. p.row) ps)
  rows_after [] a = refl
  rows_after (p ∷ ps) a =
      ap (λ t. map (λ p. p.row) (cond (nat_le low t) (p ∷ filter (λ p. nat_le low p.edge) ps) (filter (λ p. nat_le low p.edge) ps))) a.0
      ∙ by (nat_le low (edge_of e p.row.span)) (rows_after ps a.1)
    where
      by : (b : Bool) → map (λ p. p.row) (filter (λ p. nat_le low p.edge) ps) ≡ filter (λ r. nat_le low (edge_of e r.span)) (map (λ p. p.row) ps)
          → map (λ p. p.row) (cond b (p ∷ filter (λ p. nat_le low p.edge) ps) (filter (λ p. nat_le low p.edge) ps))
          ≡ cond b (p.row ∷ filter (λ r. nat_le low (edge_of e r.span)) (map (λ p. p.row) ps))
          (filter (λ r. nat_le low (edge_of e r.span)) (map (λ p. p.row) ps))
      by true h = ap (λ l. p.row ∷ l) h
      by false h = h

zero_le : (n : ℕ) → nat_le 0 n ≡ true
zero_le n = le-leb 0 n (omega arith)

module _ (w : RowsFrom) where
  edges : Each (λ p. p.edge ≡ edge_of w.edge p.row.span) (filter (shows w) (all_lent w.places))
  edges = each_map _ _ (λ p l. l.edge) (filter (shows w) (all_lent w.places))
      (shown_listed w.store.now w.index w.step w.slots w.edge w.key.now (all_lent w.places) w.walk w.fit w.when w.high)

  abbrev from : ℕ → Range
  from low = record { edge = w.edge; low = low; high = w.high }

  cut : (low : ℕ) → filter (λ r. nat_le low (edge_of w.edge r.span)) (listed (slots_list w.slots) (from 0) w.key.now (seen w.store.now w.step w.when))
      ≡ listed (slots_list w.slots) (from low) w.key.now (seen w.store.now w.step w.when)
  cut low = filter-canon (exact_edges w.edge) (λ r. nat_le low (edge_of w.edge r.span))
      (filter (is_listed (slots_list w.slots) (from 0) w.key.now) (seen w.store.now w.step w.when))
      ∙ ap (canon (edge_cmp w.edge)) (filter_twice (λ r. nat_le low (edge_of w.edge r.span)) (is_listed (slots_list w.slots) (from 0) w.key.now)
      (seen w.store.now w.step w.when)
      ∙ filter_agree _ _ (λ r. ap (λ b. (agree (slots_list w.slots) w.key.now r.binding && (b && nat_le (edge_of w.edge r.span) w.high))
      && nat_le low (edge_of w.edge r.span)) (zero_le (edge_of w.edge r.span))
      ∙ turn (agree (slots_list w.slots) w.key.now r.binding) (nat_le (edge_of w.edge r.span) w.high) (nat_le low (edge_of w.edge r.span)))
      (seen w.store.now w.step w.when))
    where
      turn : (a h l : Bool) → ((a && (true && h)) && l) ≡ (a && (l && h))
      turn true true true = refl
      turn true true false = refl
      turn true false true = refl
      turn true false false = refl
      turn false h l = refl

  -- a walk that begins at the low end of a range
  range_rows : (low : ℕ) → left w.places w.at ≡ filter (λ x. not (is_lt (place_cmp x (least_at low)))) (all_lent w.places)
      → rows_left w ≡ listed (slots_list w.slots) (from low) w.key.now (seen w.store.now w.step w.when)
  unfolding rows_left
  range_rows low here = ap (λ ps. map (λ p. p.row) (filter (shows w) ps)) (here ∙ filter_agree _ _ (from_time low) (all_lent w.places))
      ∙ ap (map (λ p. p.row)) (filter_turn (shows w) (λ p. nat_le low p.edge) (all_lent w.places))
      ∙ rows_after w.edge low (filter (shows w) (all_lent w.places)) edges
      ∙ ap (filter (λ r. nat_le low (edge_of w.edge r.span)))
      (shown_rows w.store.now w.index w.step w.slots w.edge w.key.now (all_lent w.places) w.walk w.fit w.when w.high)
      ∙ cut low

  pub opened : (range : Range) → w.high ≡ range.high → left w.places w.at ≡ filter (λ x. not (is_lt (place_cmp x (least_at range.low)))) (all_lent w.places)
      → (ix : PlainIndex) → slice_get (indexes_of w.store.now) w.index ≡ Some ix → ix.edge ≡ range.edge
      → rows_left w ≡ listed ix.key range w.key.now (seen w.store.now ix.of w.when)
  opened range high here ix index edge =
      let same : record { of = w.step; key = slots_list w.slots; edge = w.edge } ≡ ix = some_same _ ix (sym (index_of w) ∙ index) in
      range_rows range.low here
      ∙ (λ i. listed (slots_list w.slots) (record { edge = (ap (λ x. x.edge) same ∙ edge) i; low = range.low; high = high i }) w.key.now
      (seen w.store.now w.step w.when))
      ∙ (λ i. listed (same i).key range w.key.now (seen w.store.now (same i).of w.when))

  -- a walk that begins at a row
  pub resumed : (c : Cursor) (n : ℕ) (r : Row) → c.number ≡ Some n → row_at w.store.now n ≡ Some r → w.key.now ≡ r.binding → c.index ≡ w.index
      → c.high ≡ w.high → c.when ≡ w.when → left w.places w.at ≡ filter (λ x. not (is_lt (place_cmp x (place_at w.edge r n)))) (all_lent w.places)
      → rows_left w ≡ rest w.store.now c
  unfolding rows_left
  resumed c n r number row key index high when here =
      rows_from_place w.store.now w.index w.step w.slots w.edge w.key.now (all_lent w.places) w.walk w.fit w.when w.high (place_at w.edge r n)
      (record { row = row; edge = refl }) (left w.places w.at) here
      ∙ (λ i. filter (λ x. not (is_lt (edge_cmp w.edge x r))) (listed (slots_list w.slots) (record { edge = w.edge; low = 0; high = sym high i })
      (key i) (seen w.store.now w.step (sym when i))))
      ∙ sym (rest_is w.store.now c n r (record { of = w.step; key = slots_list w.slots; edge = w.edge }) number row
      (ap (slice_get (indexes_of w.store.now)) index ∙ index_of w))

-- ---- places under numbers

-- a row stands at one place
pub one_place : (g : GoalStore) (index step slots : ℕ) (edge : Edge) (key : Pairs) (places : List Place)
    → IsWalk g index step slots edge key places → SlotsFit slots → When → ℕ → (n : ℕ) (r : Row) → row_at g n ≡ Some r
    → (p : Place) → has place_cmp p places ≡ true → p.number ≡ n → p ≡ place_at edge r n
one_place g index step slots edge key places walk fit w high n r row p h e =
    let l = listed_place g index step slots edge key places walk fit w high p h in
    let same : p.row ≡ r = some_same p.row r (sym l.row ∙ ap (row_at g) e ∙ row) in
    λ i. record { edge = (l.edge ∙ ap (λ z. edge_of edge z.span) same) i; row = same i; number = e i }

-- from where a row stands under its number
pub upward_there : (r : Run Place) (at : Position) (p q : Place) (zs : List Place) → left r at ≡ p ∷ zs → IsRun place_cmp r
    → ((p : Place) → has place_cmp p (all_lent r) ≡ true → p.number ≡ q.number → p ≡ q) → p.number ≡ q.number
    → left r at ≡ filter (λ x. not (is_lt (place_cmp x q))) (all_lent r)
upward_there r at p q zs here run one number =
    subst (λ z. left r at ≡ filter (λ x. not (is_lt (place_cmp x z))) (all_lent r)) (one p (has_at r at p zs here) number)
    (upward r at p zs here run.rising)

-- ---- cursors before nothing

abbrev no_rows : List Row
no_rows = []

nothing : (o : Option Row) → option_map_or (λ (r : Row). no_rows) o no_rows ≡ no_rows
nothing None = refl
nothing (Some r) = refl

pub rest_no_index : (g : GoalStore) (c : Cursor) → slice_get g.indexes.items c.index ≡ None → rest g c ≡ []
unfolding rest
rest_no_index g c e = ap (λ o. option_map_or (λ r. option_map_or (λ ix. from_row ix c.high r (seen g ix.of c.when)) o [])
    (option_and_then (row_at g) c.number) []) (slice_get-map plain_index g.indexes.items c.index ∙ ap (option_map plain_index) e)
    ∙ nothing (option_and_then (row_at g) c.number)

pub rest_no_number : (g : GoalStore) (c : Cursor) → c.number ≡ None → rest g c ≡ []
unfolding rest
rest_no_number g c e = ap (λ o. option_map_or (λ r. option_map_or (λ ix. from_row ix c.high r (seen g ix.of c.when)) (slice_get (indexes_of g) c.index) [])
    (option_and_then (row_at g) o) []) e

pub rest_no_row : (g : GoalStore) (c : Cursor) (n : ℕ) → c.number ≡ Some n → row_at g n ≡ None → rest g c ≡ []
unfolding rest
rest_no_row g c n e f = ap (λ o. option_map_or (λ r. option_map_or (λ ix. from_row ix c.high r (seen g ix.of c.when)) (slice_get (indexes_of g) c.index) [])
    o []) (ap (option_and_then (row_at g)) e ∙ f)
