use Rattle.std.proofs.Common.{◌≡◌, ℕ}
use Rattle.ev_bind.specs.declared.rows.Row.{Row}
use Rattle.change_meaning.specs.Caps.{caps_in}
use Rattle.goal_purge.specs.Expiring.{due}
use Rattle.revision.specs.Following.{due_below}
use Rattle.revision.proofs.expiring.expiries_of.Given as goal

-- the rows under the numbers so far have come
abbrev pub invariant-loop-number : goal.invariant-loop-number
invariant-loop-number l = (d s : ℕ) (r : Row) → due l.expiries d s r ≡ due_below (caps_in l.caps) l.goals l.number d s r
