use Rattle.match_step.proofs.RowLaws.{left_task, right_task}
use Rattle.match_step.proofs.joining.JoinStep.row.Goals as goal

pub returns-then-begun-self : goal.returns-then-begun-self
returns-then-begun-self c = left_task _ _ _ _ c.if-begun-self.true

pub returns-then-at-self : goal.returns-then-at-self
returns-then-at-self c = right_task _ _ _ _ c.if-begun-self.false c.if-at-self.true
