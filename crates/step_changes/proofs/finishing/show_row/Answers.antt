use Rattle.std.proofs.Common.{◌∙◌}
use Rattle.step_changes.proofs.finishing.show_row.Goals as goal

pub returns-in_ok-add_at-in-Some-Plus-clause-others : goal.returns-in_ok-add_at-in-Some-Plus-clause-others
returns-in_ok-add_at-in-Some-Plus-clause-others c = λ s r n.
    (c.in_ok-add_at-in-Some-Plus.ensures.marks c.args.row.now c.in_ok-number-in-Some-Plus.ensures.held).others s r n ∙ c.goal_near.ensures.marks s r
