use Rattle.std.proofs.Common.{sym, subst, arith}
use Rattle.row_table.specs.Pairs.{IsStrictlySorted}
use Rattle.row_table.proofs.Place.{get_at, get_in_gap}
use Rattle.row_table.proofs.steps.StepList.get.Goals as goal

-- the key is at its place, and the pair there is the one that was read
pub returns-in-Ok : goal.returns-in-Ok
returns-in-Ok g c =
    let value = get_at _ (subst IsStrictlySorted c.self.view_is c.self.invariant) _ _ c.in-Ok.ensures.found c.index.result.now in
    grind (arith, c.self.view_is)

-- the key is not there
pub returns-in-Err : goal.returns-in-Err
returns-in-Err g c = sym (get_in_gap _ _ _ c.in-Err.ensures.absent)
