use Rattle.std.proofs.Common.{subst, arith}
use Rattle.row_table.specs.Pairs.{IsStrictlySorted}
use Rattle.row_table.proofs.Place.{get_in_gap, sorted_set, sets_only_set}
use Rattle.row_table.proofs.steps.StepList.set.Goals as goal

pub invariant_of-self : goal.invariant_of-self
invariant_of-self g c = sorted_set _ c.self.invariant _ _ (rw c.self.view_is c.in-Ok.ensures.found) _

pub returns-in-Ok : goal.returns-in-Ok
returns-in-Ok g c = rw c.self.view_is (sets_only_set _ (subst IsStrictlySorted c.self.view_is c.self.invariant) _ _ c.in-Ok.ensures.found _)

pub returns-in-Err : goal.returns-in-Err
returns-in-Err g c = absurd (grind (arith, get_in_gap _ _ _ c.in-Err.ensures.absent, c.requires))
