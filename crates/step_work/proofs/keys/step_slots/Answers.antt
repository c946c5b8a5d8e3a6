use Rattle.std.proofs.Common.{ap, sym, ◌∙◌, map}
use Rattle.rule_ast.specs.PlainPlans.{plain_step, slots_list}
use Rattle.step_meaning.specs.PlanOf.{step_slots, slots_in, in_either}
use Rattle.step_work.proofs.keys.step_slots.Goals as goal

pub returns-in-Leaf : goal.returns-in-Leaf
returns-in-Leaf c =
    c.leaf_slots.ensures ∙ ap (λ s. step_slots (slots_in (map slots_list c.args.slots.now)) (plain_step s)) (sym c.in-Leaf.is)

pub returns-in-Join : goal.returns-in-Join
returns-in-Join c =
    c.either_slots.ensures ∙ (λ i. in_either (c.slots_at.ensures i) (c.slots_at-in-Join.ensures i))
    ∙ ap (λ s. step_slots (slots_in (map slots_list c.args.slots.now)) (plain_step s)) (sym c.in-Join.is)

pub returns-in-Either : goal.returns-in-Either
returns-in-Either c =
    c.either_slots-in-Either.ensures ∙ (λ i. in_either (c.slots_at-in-Either.ensures i) (c.slots_at-in-Either-2.ensures i))
    ∙ ap (λ s. step_slots (slots_in (map slots_list c.args.slots.now)) (plain_step s)) (sym c.in-Either.is)
