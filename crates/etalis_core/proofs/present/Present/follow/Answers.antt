use Rattle.etalis_core.proofs.PresentLaws.{followed_add, followed_take}
use Rattle.etalis_core.proofs.present.Present.follow.Goals as goal

pub returns-in-Add-clause-numbers : goal.returns-in-Add-clause-numbers
returns-in-Add-clause-numbers c = λ e. followed_add c.add.result c.args.input.now c.in-Add.event e _ _ c.in-Add.is (c.add.ensures.numbers e)

pub returns-in-Take-clause-numbers : goal.returns-in-Take-clause-numbers
returns-in-Take-clause-numbers c = λ e. followed_take c.remove.result c.args.input.now c.in-Take.event e _ _ c.in-Take.is (c.remove.ensures.numbers e)
