use Rattle.std.proofs.Common.{◌∙◌}
use Rattle.row_flow.proofs.flow.add_goal.Goals as goal

pub returns-clause-others : goal.returns-clause-others
returns-clause-others c = λ s r differs.
    (c.in_ok-add_at.ensures.marks c.args.row c.in_ok-number.ensures.held).others s r (λ _ same. differs same) ∙ c.number.ensures.marks s r
