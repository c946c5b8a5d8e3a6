use Rattle.std.proofs.Common.{sym, subst, [], map, IfOk}
use Rattle.rule_ast.specs.PlainPlans.{plain_step, slots_list}
use Rattle.step_meaning.specs.PlanOf.{slots_in, step_indexes}
use Rattle.step_work.specs.Asked.{in_place}
use Rattle.step_work.specs.Ways.{IsWayOf}
use Rattle.step_work.proofs.ways.way_of.Goals as goal

pub returns-in-Join-clause-way : goal.returns-in-Join-clause-way
returns-in-Join-clause-way c = λ before after long.
    let at = slots_in (map slots_list c.args.slots.now) in
    subst (λ s. IfOk c.join_way.result
    (λ p. IsWayOf (in_place before [] (step_indexes at (plain_step s)) after) c.args.cap at (plain_step s) p.0)) (sym c.in-Join.is)
    (c.join_way.ensures.way before after long)

pub returns-in-Minus-clause-way : goal.returns-in-Minus-clause-way
returns-in-Minus-clause-way c = λ before after long.
    let at = slots_in (map slots_list c.args.slots.now) in
    subst (λ s. IfOk c.minus_way.result
    (λ p. IsWayOf (in_place before [] (step_indexes at (plain_step s)) after) c.args.cap at (plain_step s) p.0)) (sym c.in-Minus.is)
    (c.minus_way.ensures.way before after long)
