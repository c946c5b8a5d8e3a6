use Rattle.std.proofs.Common.{◌≡◌, length, nat_lt}
use Rattle.std.specs.List.{list_any}
use Rattle.ev_bind.specs.declared.rows.Row.{Row}
use Rattle.change_meaning.specs.MinusVisits.{ends_chain}
use Rattle.goal_store.specs.Walks.{rows_left}
use Rattle.negation_witness.specs.Ways.{minus_view}
use Rattle.negation_witness.proofs.blocking.ends_chain.Given as goal

abbrev pub invariant-loop-last : goal.invariant-loop-last
invariant-loop-last l =
    list_any (λ (z : Row). nat_lt l.middle.span.end z.span.start) (rows_left l.rows)
    ≡ ends_chain (minus_view l.goals l.way) l.row l.middle

abbrev pub decreases-loop-last : goal.decreases-loop-last
decreases-loop-last l = length (rows_left l.rows)
