use Rattle.goal_store.specs.Indexed.{also}
use Rattle.goal_store.proofs.Stepping.{Walked}
use Rattle.goal_store.proofs.steps.StepPlaces.insert.Given as goal

abbrev pub invariant-loop-i : goal.invariant-loop-i
invariant-loop-i l = Walked (also l.row l.number) l.initial.self.indexes.items l.i l.self.indexes.items
