use Rattle.std.proofs.Common.{subst}
use Rattle.row_table.specs.Pairs.{IsStrictlySorted}
use Rattle.row_table.proofs.Place.{drops_remove, drops_none, sorted_remove}
use Rattle.row_table.proofs.steps.StepList.remove.Goals as goal

pub returns-in-Ok : goal.returns-in-Ok
returns-in-Ok g c = rw (c.remove.ensures.items, c.self.view_is) (drops_remove _ (subst IsStrictlySorted c.self.view_is c.self.invariant) _ _ c.in-Ok.ensures.found)

pub returns-in-Err : goal.returns-in-Err
returns-in-Err g c = drops_none _ _ _ c.in-Err.ensures.absent

pub invariant_of-self : goal.invariant_of-self
invariant_of-self g c = rw c.remove.ensures.items (sorted_remove c.self.inside.pairs.items c.self.invariant c.args.step c.in-Ok.at (rw c.self.view_is c.in-Ok.ensures.found))
