use Rattle.std.proofs.Common.{◌-◌, length}
use Rattle.rule_ast.specs.Plain.{plain_rules}
use Rattle.step_meaning.specs.PlanOf.{plan_names}
use Rattle.binariser.proofs.NeedsLaws.{Closing}
use Rattle.binariser.proofs.names.needed_names.Given as goal

abbrev pub invariant-loop-next : goal.invariant-loop-next
invariant-loop-next l = Closing (plain_rules l.checked) l.needed.keys l.next

abbrev pub decreases-loop-next : goal.decreases-loop-next
decreases-loop-next l = length (plan_names (plain_rules l.checked)) - l.next
