use Rattle.rule_parser.proofs.CondRuns.{unit_word}
use Rattle.rule_parser.proofs.conditions.word_operand_at.Goals as goal

pub returns-in-Some : goal.returns-in-Some
returns-in-Some c = λ d. unit_word c.in_ok-add_part.ensures.ok c.in_ok-add_part.ensures.fine (rw c.in-Some.is at c.in_ok-term.ensures)
