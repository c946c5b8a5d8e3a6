use Rattle.std.proofs.Common.{◌≡◌, sym, map, subst, IfOk}
use Rattle.rule_ast.specs.PlainPlans.{plain_index, plain_step, slots_list}
use Rattle.step_meaning.specs.PlanOf.{each_once, slots_in, step_indexes}
use Rattle.binariser.proofs.indexes.step_indexes.Goals as goal

pub returns-in-Join : goal.returns-in-Join
returns-in-Join c =
    subst (λ s. IfOk c.join_indexes.result
    (λ v. map plain_index v.items ≡ each_once (step_indexes (slots_in (map slots_list c.args.slots.now)) (plain_step s))))
    (sym c.in-Join.is) c.join_indexes.ensures
