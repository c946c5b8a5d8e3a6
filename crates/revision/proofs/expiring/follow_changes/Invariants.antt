use Rattle.std.proofs.Common.{◌≡◌, ◌<◌, ◌≤◌, ℕ}
use Rattle.ev_bind.specs.declared.rows.Row.{Row}
use Rattle.change_meaning.specs.Caps.{caps_in}
use Rattle.goal_purge.specs.Expiring.{due}
use Rattle.revision.specs.Following.{due_step}
use Rattle.revision.proofs.expiring.follow_changes.Given as goal

-- the rows of the steps so far are followed, and those of the others are as before
abbrev pub invariant-loop-at : goal.invariant-loop-at
invariant-loop-at l = record {
  behind : (d s : ℕ) (r : Row) → s < l.at
      → due l.expiries d s r ≡ due_step (caps_in l.caps) l.changed d s r (due l.initial.expiries d s r);
  ahead : (d s : ℕ) (r : Row) → l.at ≤ s → due l.expiries d s r ≡ due l.initial.expiries d s r;
}
