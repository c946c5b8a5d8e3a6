use Rattle.goal_store.proofs.Building.{PlacedTo}
use Rattle.goal_store.proofs.built.place_indexes.Given as goal

abbrev pub invariant-loop-at : goal.invariant-loop-at
invariant-loop-at l = PlacedTo l.indexes l.spots.items l.initial.steps.items l.steps.items l.at
