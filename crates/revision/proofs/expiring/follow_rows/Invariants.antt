use Rattle.std.proofs.Common.{◌≡◌, ℕ, drop}
use Rattle.ev_bind.specs.declared.rows.Row.{Row}
use Rattle.goal_purge.specs.Expiring.{due}
use Rattle.step_changes.specs.Deltas.{plain_deltas}
use Rattle.revision.specs.Following.{due_all}
use Rattle.revision.proofs.expiring.follow_rows.Given as goal

-- what is there so far becomes by the rows that are left what it becomes by all from the beginning
abbrev pub invariant-loop-delta : goal.invariant-loop-delta
invariant-loop-delta l = (d s : ℕ) (r : Row)
    → due_all l.cap l.reach l.step d s r (plain_deltas (drop l.delta-index l.rows)) (due l.expiries d s r)
    ≡ due_all l.cap l.reach l.step d s r (plain_deltas l.rows) (due l.initial.expiries d s r)
