use Rattle.std.proofs.Common.{subst, arith}
use Rattle.row_table.specs.Pairs.{IsStrictlySorted}
use Rattle.row_table.proofs.Place.{get_in_gap, sorted_set, sets_only_set, sorted_insert, sets_only_insert}
use Rattle.row_table.proofs.steps.StepList.insert.Goals as goal

-- the key was there, and its pair is written over
pub invariant_of-self : goal.invariant_of-self
invariant_of-self g c = sorted_set _ c.self.invariant _ _ (rw c.self.view_is c.in-Ok.ensures.found) _

pub returns-in-Ok-clause-ok : goal.returns-in-Ok-clause-ok
returns-in-Ok-clause-ok g c = rw c.self.view_is (sets_only_set _ (subst IsStrictlySorted c.self.view_is c.self.invariant) _ _ c.in-Ok.ensures.found _)

-- the pair is added in the gap
pub invariant_of-self-in-Err : goal.invariant_of-self-in-Err
invariant_of-self-in-Err g c = rw c.in_ok-insert-in-Err.ensures.items (sorted_insert _ _ _ (rw c.self.view_is c.in-Err.ensures.absent) _ c.self.invariant)

pub returns-in_ok-insert-in-Err-clause-ok : goal.returns-in_ok-insert-in-Err-clause-ok
returns-in_ok-insert-in-Err-clause-ok g c = rw (c.in_ok-insert-in-Err.ensures.items, c.self.view_is) (sets_only_insert _ _ _ c.in-Err.ensures.absent _)

-- memory fails only for a key that was not there
pub returns-in_err-insert-in-Err-clause-overwrite_succeeds : goal.returns-in_err-insert-in-Err-clause-overwrite_succeeds
returns-in_err-insert-in-Err-clause-overwrite_succeeds g c found = grind (arith, get_in_gap _ _ _ c.in-Err.ensures.absent)
