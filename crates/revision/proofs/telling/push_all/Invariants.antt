use Rattle.std.proofs.Common.{◌≡◌, ◌++◌, drop, map}
use Rattle.rule_ast.specs.PlainPlans.{plain_step}
use Rattle.revision.specs.Lists.{told_by}
use Rattle.revision.proofs.telling.push_all.Given as goal

-- the detections so far and those of the steps that are left are all
abbrev pub invariant-loop-id : goal.invariant-loop-id
invariant-loop-id l =
    l.out.items ++ told_by l.sign (map plain_step l.steps) (drop l.id-index l.shown) l.changed
    ≡ l.initial.out.items ++ told_by l.sign (map plain_step l.steps) l.shown l.changed
