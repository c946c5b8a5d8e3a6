use Rattle.std.proofs.Common.{◌+◌, subst, sym}
use Rattle.row_table.specs.Pairs.{IsPlaceBehind, IsStrictlySorted}
use Rattle.row_table.proofs.Behind.{behind_found}
use Rattle.row_table.proofs.steps.StepList.place_behind.Goals as goal

pub returns-in-Ok : goal.returns-in-Ok
returns-in-Ok g c = subst (λ o. IsPlaceBehind c.args.self.now o (c.in-Ok.at + 1)) (sym c.in-Some.is)
    (behind_found _ (subst IsStrictlySorted c.self.view_is c.self.invariant) _ _ c.in-Ok.ensures.found)
