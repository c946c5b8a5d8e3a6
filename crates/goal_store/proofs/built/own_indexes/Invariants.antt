use Rattle.goal_store.proofs.Building.{OwnTo}
use Rattle.goal_store.proofs.built.own_indexes.Given as goal

abbrev pub invariant-loop-at : goal.invariant-loop-at
invariant-loop-at l = OwnTo l.indexes l.own.items l.at
