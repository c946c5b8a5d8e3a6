use Rattle.std.proofs.Common.{refl, sym}
use Rattle.goal_store.proofs.Opening.{found, missing, one_place, resumed, rest_no_index}
use Rattle.goal_store.proofs.kept.GoalStore.rows_from.Goals as goal

pub returns-in-None-clause-rows : goal.returns-in-None-clause-rows
returns-in-None-clause-rows c = rest_no_index c.args.self.now c.args.cursor.now
    (missing _ _ c.args.cursor.now.index c.deref.ensures.value c.in-None.ensures.lookup.0)

pub places_of-places-requires : goal.places_of-places-requires
places_of-places-requires c = record {
  index = found _ _ c.args.cursor.now.index c.in-Some.info.now c.deref.ensures.value c.in-Some.ensures.lookup.0 c.in-Some.ensures.lookup.1;
}

pub place_of-requires-clause-one : goal.place_of-requires-clause-one
place_of-requires-clause-one c =
    one_place c.args.self.now c.args.cursor.now.index c.in-Some.info.now.of c.in-Some.info.now.key c.in-Some.info.now.edge c.in-Some-row.row.now.binding
    _ c.places_of-places.ensures.walk (c.args.self.now.placed.fits c.args.cursor.now.index _ c.places_of-places.ensures.walk.at)
    c.args.cursor.now.when c.args.cursor.now.high c.in-Some-number.number c.in-Some-row.row.now (sym c.in-Some-row.ensures)

pub returns-in-Some-row-clause-rows : goal.returns-in-Some-row-clause-rows
returns-in-Some-row-clause-rows c =
    resumed _ c.args.cursor.now c.in-Some-number.number c.in-Some-row.row.now c.in-Some-number.is (sym c.in-Some-row.ensures) refl refl refl refl
    c.place_of.ensures
