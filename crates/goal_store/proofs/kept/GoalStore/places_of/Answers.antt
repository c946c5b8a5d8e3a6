use Rattle.goal_store.specs.Places.{place_cmp}
use Rattle.goal_store.proofs.Opening.{index_there, spot_there, is_walk, found, missing}
use Rattle.goal_store.proofs.kept.GoalStore.places_of.Goals as goal

pub returns-in_default-get-2-clause-walk : goal.returns-in_default-get-2-clause-walk
returns-in_default-get-2-clause-walk c = absurd
    (index_there c.args.self.now c.args.index c.args.info c.requires.index c.args.key.now c.in-Some.places.now
    (found _ _ c.args.info.of c.in-Some.places.now c.deref.ensures.value c.in-Some.ensures.lookup.0 c.in-Some.ensures.lookup.1)
    c.in-Some-get.spot.now
    (found _ _ c.args.index c.in-Some-get.spot.now c.deref-2.ensures.value c.in-Some-get.ensures.lookup.0 c.in-Some-get.ensures.lookup.1)
    (missing _ _ c.in-Some-get.spot.now c.deref-3.ensures.value c.in_default-get-2.ensures.lookup.0))

pub returns-clause-walk : goal.returns-clause-walk
returns-clause-walk c =
    is_walk c.args.self.now c.args.index c.args.info c.requires.index c.args.key.now c.in-Some.places.now
    (found _ _ c.args.info.of c.in-Some.places.now c.deref.ensures.value c.in-Some.ensures.lookup.0 c.in-Some.ensures.lookup.1)
    c.in-Some-get.spot.now
    (found _ _ c.args.index c.in-Some-get.spot.now c.deref-2.ensures.value c.in-Some-get.ensures.lookup.0 c.in-Some-get.ensures.lookup.1)
    c.in-Some-get-2.rows.now
    (found _ _ c.in-Some-get.spot.now c.in-Some-get-2.rows.now c.deref-3.ensures.value c.in-Some-get-2.ensures.lookup.0 c.in-Some-get-2.ensures.lookup.1)
    _ c.places.ensures.all c.places.ensures.run.rising

pub returns-in_default-get-clause-walk : goal.returns-in_default-get-clause-walk
returns-in_default-get-clause-walk c = absurd
    (spot_there c.args.self.now c.args.index c.args.info c.requires.index c.args.key.now
    (missing _ _ c.args.index c.deref-2.ensures.value c.in_default-get.ensures.lookup.0))

pub returns-in_default-clause-run : goal.returns-in_default-clause-run
returns-in_default-clause-run c = c.none.ensures.run place_cmp

pub returns-in_default-get-clause-run : goal.returns-in_default-get-clause-run
returns-in_default-get-clause-run c = c.none-in_default-get.ensures.run place_cmp

pub returns-in_default-get-2-clause-run : goal.returns-in_default-get-2-clause-run
returns-in_default-get-2-clause-run c = c.none-in_default-get-2.ensures.run place_cmp
