use Rattle.rule_parser.proofs.CondRuns.{unit_variable}
use Rattle.rule_parser.proofs.conditions.variable_operand_at.Goals as goal

pub returns : goal.returns
returns c = λ d. unit_variable c.requires.named c.in_ok-add_part.ensures.ok c.in_ok-slot.ensures.ok c.in_ok-slot.ensures.fine c.in_ok-slot.ensures.slot
