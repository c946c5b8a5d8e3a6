use Rattle.std.proofs.Common.{◌≡◌, length}
use Rattle.std.specs.List.{list_any}
use Rattle.change_meaning.specs.MinusVisits.{blocks, goes_on}
use Rattle.goal_store.specs.Walks.{rows_left}
use Rattle.negation_witness.specs.Ways.{minus_view}
use Rattle.negation_witness.proofs.blocking.blocked.Given as goal

abbrev pub invariant-loop-first : goal.invariant-loop-first
invariant-loop-first l = list_any (goes_on (minus_view l.goals l.way) l.row) (rows_left l.rows) ≡ blocks (minus_view l.goals l.way) l.row

abbrev pub decreases-loop-first : goal.decreases-loop-first
decreases-loop-first l = length (rows_left l.rows)
