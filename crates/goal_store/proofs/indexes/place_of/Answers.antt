use Rattle.key_lists.specs.Pieces.{left}
use Rattle.goal_store.specs.Places.{place_at}
use Rattle.goal_store.proofs.Opening.{upward_there}
use Rattle.goal_store.proofs.indexes.place_of.Goals as goal

pub returns-then-place-number : goal.returns-then-place-number
returns-then-place-number c =
    upward_there c.args.places.now c.args.hint c.in-Some.place.now (place_at c.args.edge c.args.row.now c.args.number)
    (left c.args.places.now c.in-Some.field-0-1) c.in-Some.ensures c.requires.run c.requires.one c.if-place-number.true
