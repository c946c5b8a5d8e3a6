use Rattle.std.proofs.Common.{◌≡◌, ◌+◌}
use Rattle.event_changes.specs.declared.changes.Sign.{Sign}
use Rattle.event_changes.specs.declared.changes.Sign.TheVariants.{Plus, Minus}
use Rattle.ev_bind.specs.declared.rows.Row.{Row}
use Rattle.change_meaning.specs.MinusVisits.{turned}
use Rattle.step_changes.specs.Notes.{noted, notes}
use Rattle.support_table.specs.Supports.{count_of}
use Rattle.negation_witness.proofs.settling.settle_tests.Given as goal

abbrev pub invariant-loop-row : goal.invariant-loop-row
invariant-loop-row l = (s : Sign) (r : Row)
    → noted l.settled s r + turned s (noted l.tests Plus r) (noted l.tests Minus r) (count_of l.supports l.step r)
    ≡ turned s (noted l.initial.tests Plus r) (noted l.initial.tests Minus r) (count_of l.supports l.step r)

abbrev pub decreases-loop-row : goal.decreases-loop-row
decreases-loop-row l = notes l.tests
