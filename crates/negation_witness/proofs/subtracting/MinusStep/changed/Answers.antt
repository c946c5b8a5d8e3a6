use Rattle.negation_witness.proofs.TestLaws.{first_list, later_list, last_list}
use Rattle.negation_witness.proofs.subtracting.MinusStep.changed.Goals as goal

pub returns-then-at-self : goal.returns-then-at-self
returns-then-at-self c = first_list _ _ _ _ _ _ c.if-at-self.true

pub returns-then-at-self-2 : goal.returns-then-at-self-2
returns-then-at-self-2 c = later_list _ _ _ _ _ _ c.if-at-self.false (first_list _ _ _ _ _ _ c.if-at-self-2.true)

pub returns-then-at-self-3 : goal.returns-then-at-self-3
returns-then-at-self-3 c = later_list _ _ _ _ _ _ c.if-at-self.false
    (later_list _ _ _ _ _ _ c.if-at-self-2.false (first_list _ _ _ _ _ _ c.if-at-self-3.true))

pub returns-then-at-self-4 : goal.returns-then-at-self-4
returns-then-at-self-4 c = later_list _ _ _ _ _ _ c.if-at-self.false
    (later_list _ _ _ _ _ _ c.if-at-self-2.false
    (later_list _ _ _ _ _ _ c.if-at-self-3.false (last_list _ _ _ _ _ c.if-at-self-4.true)))
