use Rattle.std.proofs.Common.{◌≡◌, false, map, take}
use Rattle.std.specs.List.{list_any}
use Rattle.rule_ast.specs.PlainPlans.{plain_index}
use Rattle.step_meaning.specs.PlanOf.{same_index}
use Rattle.step_work.proofs.ways.place_of.Given as goal

-- none of those so far is the same
abbrev pub invariant-loop-known : goal.invariant-loop-known
invariant-loop-known l = (l.place ≡ l.known-index)
    × (list_any (same_index (plain_index l.wanted)) (map plain_index (take l.known-index l.known-items)) ≡ false)
