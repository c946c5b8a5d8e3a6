use Rattle.std.proofs.Common.{map}
use Rattle.rule_ast.specs.PlainPlans.{plain_step}
use Rattle.goal_purge.proofs.Laws.{Swept}
use Rattle.goal_purge.proofs.caps.caps_of.Given as goal

abbrev pub invariant-loop-i : goal.invariant-loop-i
invariant-loop-i l =
    Swept l.plan.shown.items (map plain_step l.plan.steps.items) l.i l.users.items l.seekers.items l.cap.items l.reach.items
