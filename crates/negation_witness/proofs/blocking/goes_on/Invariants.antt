use Rattle.std.proofs.Common.{◌≡◌, length}
use Rattle.std.specs.List.{list_any}
use Rattle.change_meaning.specs.MinusVisits.{ends_chain, goes_on}
use Rattle.goal_store.specs.Walks.{rows_left}
use Rattle.negation_witness.specs.Ways.{minus_view}
use Rattle.negation_witness.proofs.blocking.goes_on.Given as goal

abbrev pub invariant-loop-middle : goal.invariant-loop-middle
invariant-loop-middle l =
    list_any (ends_chain (minus_view l.goals l.way) l.row) (rows_left l.rows) ≡ goes_on (minus_view l.goals l.way) l.row l.first

abbrev pub decreases-loop-middle : goal.decreases-loop-middle
decreases-loop-middle l = length (rows_left l.rows)
