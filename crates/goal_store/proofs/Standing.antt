-- A cursor stands before what a walk stands before.
use Rattle.std.proofs.Common.{◌≡◌, ◌<◌, ◌&&◌, ◌||◌, ℕ, true, not, List, [], ◌∷◌, ◌++◌, map, Some, None, refl, ap, sym, ◌∙◌, subst}
use Rattle.std.specs.List.{filter, slice_get}
use Rattle.std.specs.Option.{option_map, option_map_or, option_and_then}
use Rattle.std.specs.Ordering.{is_lt}
use Rattle.std.proofs.Math.Bool.{or-true}
use Rattle.std.proofs.lemmas.Bool.{and_parts}
use Rattle.std.proofs.lemmas.Option.{slice_get-map}
use Rattle.ordered_lists.specs.Canon.{has, has-append, AllAbove, Rising}
use Rattle.key_lists.specs.Pieces.{all_lent, left}
use Rattle.key_lists.specs.declared.runs.Position.{Position}
use Rattle.key_lists.specs.declared.runs.Run.{Run}
use Rattle.key_lists.proofs.Lending.{from_ends}
use Rattle.ev_bind.specs.Projections.{project, same_pairs}
use Rattle.ev_bind.specs.declared.rows.Row.{Row}
use Rattle.row_changes.specs.Partners.{edge_cmp}
use Rattle.row_table.specs.Steps.{step_value}
use Rattle.rule_ast.specs.PlainPlans.{PlainIndex, plain_index, slots_list}
use Rattle.goal_store.specs.Goals.{rest, from_row, seen, row_at, indexes_of}
use Rattle.goal_store.specs.Marks.{seen_as}
use Rattle.goal_store.specs.Places.{place_cmp, exact_places}
use Rattle.goal_store.specs.Values.{tied}
use Rattle.goal_store.specs.Walks.{rows_left, shows, shown_from, StopsAt}
use Rattle.goal_store.specs.declared.cursors.Cursor.{Cursor}
use Rattle.goal_store.specs.declared.kept.GoalStore.{GoalStore}
use Rattle.goal_store.specs.declared.places.Place.{Place}
use Rattle.goal_store.specs.declared.walks.RowsFrom.{RowsFrom}
use Rattle.goal_store.proofs.Walking.{listed_place, none_past, same_key, step_on, rising_end, from_element, Listed}
use Rattle.goal_store.proofs.Walking.{shown_from as rows_from_place}

-- where a place stands in a run
module _ (r : Run Place) (at : Position) (p : Place) (zs : List Place) (here : left r at ≡ p ∷ zs) where
  abbrev front : List Place
  front = (from_ends r.first.now r.more.now at.piece at.at).0

  all_is : all_lent r ≡ front ++ p ∷ zs
  all_is = (from_ends r.first.now r.more.now at.piece at.at).1 ∙ ap (λ l. front ++ l) here

  pub has_at : has place_cmp p (all_lent r) ≡ true
  has_at = ap (has place_cmp p) all_is ∙ has-append exact_places p front (p ∷ zs)
      ∙ ap (λ b. has place_cmp p front || (b || has place_cmp p zs)) (tied exact_places p p refl) ∙ or-true (has place_cmp p front)

  module _ (rising : Rising place_cmp (all_lent r)) where
    in_front : Rising place_cmp (front ++ p ∷ zs)
    in_front = subst (Rising place_cmp) all_is rising

    pub above_at : AllAbove place_cmp p zs
    above_at = (rising_end front (p ∷ zs) in_front).0

    pub upward : left r at ≡ filter (λ x. not (is_lt (place_cmp x p))) (all_lent r)
    upward = here ∙ from_element exact_places p zs front in_front ∙ ap (filter (λ x. not (is_lt (place_cmp x p)))) (sym all_is)

-- what a cursor at a row stands before
pub rest_is : (g : GoalStore) (c : Cursor) (n : ℕ) (r : Row) (ix : PlainIndex) → c.number ≡ Some n → row_at g n ≡ Some r
    → slice_get (indexes_of g) c.index ≡ Some ix → rest g c ≡ from_row ix c.high r (seen g ix.of c.when)
unfolding rest
rest_is g c n r ix number row index =
    ap (λ o. option_map_or (λ r. option_map_or (λ ix. from_row ix c.high r (seen g ix.of c.when)) (slice_get (indexes_of g) c.index) [])
    o []) (ap (λ o. option_and_then (row_at g) o) number ∙ row)
    ∙ ap (λ o. option_map_or (λ ix. from_row ix c.high r (seen g ix.of c.when)) o []) index

module _ (w : RowsFrom) where
  pub index_of : slice_get (indexes_of w.store.now) w.index ≡ Some (record { of = w.step; key = slots_list w.slots; edge = w.edge })
  index_of = slice_get-map plain_index w.store.now.indexes.items w.index ∙ ap (option_map plain_index) w.walk.at

  module _ (p : Place) (at behind : Position) (stop : StopsAt w p at behind) where
    stands_listed : Listed w.store.now.goals.held.rows w.store.now.good.held.table w.edge p
    stands_listed = listed_place w.store.now w.index w.step w.slots w.edge w.key.now (all_lent w.places) w.walk w.fit w.when w.high p
        (has_at w.places at p (left w.places behind) stop.here)

    pub cursor_rest : rest w.store.now (record { index = w.index; when = w.when; high = w.high; number = Some p.number; hint = at }) ≡ rows_left w
    unfolding rows_left
    cursor_rest =
        let parts = and_parts _ _ (and_parts (seen_as w.when (step_value w.store.now.goals.held.rows p.number w.step)
        && same_pairs (project w.slots p.row.binding) (project w.slots w.key.now)) _ stop.shown).0 in
        rest_is w.store.now (record { index = w.index; when = w.when; high = w.high; number = Some p.number; hint = at }) p.number p.row
        (record { of = w.step; key = slots_list w.slots; edge = w.edge }) refl stands_listed.row index_of
        ∙ ap (filter (λ r. not (is_lt (edge_cmp w.edge r p.row))))
        (same_key w.slots w.fit p.row.binding w.key.now parts.1 w.edge w.high (seen w.store.now w.step w.when))
        ∙ sym (rows_from_place w.store.now w.index w.step w.slots w.edge w.key.now (all_lent w.places) w.walk w.fit w.when w.high p stands_listed
        (left w.places at) (upward w.places at p (left w.places behind) stop.here w.walk.rising))
        ∙ sym (ap (map (λ p. p.row)) stop.first)

    -- the first row, and those behind it
    pub first_is : (next : RowsFrom) → rows_left next ≡ map (λ p. p.row) (shown_from w behind) → rows_left w ≡ p.row ∷ rows_left next
    unfolding rows_left
    first_is next rest = ap (map (λ p. p.row)) (stop.first ∙ step_on (shows w) (left w.places at) p (left w.places behind) stop.here stop.shown)
        ∙ ap (λ l. p.row ∷ l) (sym rest)

  -- behind the end of a range there is nothing
  pub step_end : (p : Place) (at behind : Position) → left w.places at ≡ p ∷ left w.places behind → w.high < p.edge → shown_from w at ≡ []
  step_end p at behind here h = ap (filter (shows w)) here
      ∙ none_past w.store.now.goals.held.rows w.step w.when w.slots w.key.now w.high p (left w.places behind) h
      (above_at w.places at p (left w.places behind) here w.walk.rising)

  pub cursor_end : shown_from w w.at ≡ [] → (c : Cursor) → c.number ≡ None → rest w.store.now c ≡ rows_left w
  unfolding rest rows_left
  cursor_end none c number = ap (λ o. option_map_or (λ r. option_map_or (λ ix. from_row ix c.high r (seen w.store.now ix.of c.when)) (slice_get (indexes_of w.store.now) c.index) [])
      (option_and_then (row_at w.store.now) o) []) number ∙ sym (ap (map (λ p. p.row)) none)

  pub none_first : shown_from w w.at ≡ [] → rows_left w ≡ []
  unfolding rows_left
  none_first none = ap (map (λ p. p.row)) none

  -- what a walk stands before
  pub left_is : rows_left w ≡ map (λ p. p.row) (shown_from w w.at)
  unfolding rows_left
  left_is = refl
