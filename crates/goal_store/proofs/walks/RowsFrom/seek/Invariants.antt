use Rattle.std.proofs.Common.{◌≡◌, length}
use Rattle.key_lists.specs.Pieces.{left}
use Rattle.goal_store.specs.Walks.{shown_from}
use Rattle.goal_store.proofs.walks.RowsFrom.seek.Given as goal

-- none of the places so far is shown
abbrev pub invariant-loop-place : goal.invariant-loop-place
invariant-loop-place l = shown_from l.self l.self.at ≡ shown_from l.self l.at

abbrev pub decreases-loop-place : goal.decreases-loop-place
decreases-loop-place l = length (left l.self.places l.at)
