use Rattle.change_meaning.proofs.KeyLaws.{rows_bound_on}
use Rattle.change_meaning.proofs.PlanKeys.{plan_workable}
use Rattle.change_meaning.proofs.laws.plans_are_workable.Goals as goal

pub returns : goal.returns
returns c = record { plans = plan_workable; bound = λ steps ok events. rows_bound_on steps ok.lower ok.keyed events }
