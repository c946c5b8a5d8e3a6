use Rattle.std.proofs.Common.{◌≡◌, ℕ, drop}
use Rattle.ev_bind.specs.declared.rows.Row.{Row}
use Rattle.change_meaning.specs.Caps.{caps_in}
use Rattle.goal_purge.specs.Expiring.{due}
use Rattle.revision.specs.Following.{due_steps}
use Rattle.revision.proofs.expiring.follow_steps.Given as goal

-- what is there so far becomes by the steps that are left what it becomes by all from the beginning
abbrev pub invariant-loop-held : goal.invariant-loop-held
invariant-loop-held l = (d s : ℕ) (r : Row)
    → due_steps (caps_in l.caps) l.row (drop l.held-index l.steps) d s r (due l.expiries d s r)
    ≡ due_steps (caps_in l.caps) l.row l.steps d s r (due l.initial.expiries d s r)
