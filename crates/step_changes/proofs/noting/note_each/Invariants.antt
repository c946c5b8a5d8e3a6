use Rattle.std.proofs.Common.{◌≡◌, ◌+◌, map, drop, Option, Result}
use Rattle.std.specs.Prelude.{IfOk}
use Rattle.std.specs.Fn.{FnReturnsAt}
use Rattle.std.specs.declared.alloc.AllocError.{AllocError}
use Rattle.event_changes.specs.declared.changes.Sign.{Sign}
use Rattle.ev_bind.specs.declared.rows.Row.{Row}
use Rattle.row_changes.specs.Visits.{tally, signed}
use Rattle.step_changes.specs.Notes.{noted}
use Rattle.step_changes.specs.Deltas.{plain_deltas}
use Rattle.step_changes.proofs.noting.note_each.Given as goal

abbrev pub invariant-loop-delta : goal.invariant-loop-delta
invariant-loop-delta t l = (g : Row → Option Row) → ((x : Row) (r : Result (Option Row) AllocError) → FnReturnsAt t.F.Fn l.give x r → IfOk r (λ o. o ≡ g x))
    → (s : Sign) (r : Row) → noted l.pending s r + tally s r (map (λ d. signed d.sign (g d.row)) (plain_deltas (drop l.delta-index l.rows)))
    ≡ noted l.initial.pending s r + tally s r (map (λ d. signed d.sign (g d.row)) (plain_deltas l.rows))
