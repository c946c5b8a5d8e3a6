use Rattle.std.proofs.lemmas.Result.{err_from_is_err_and}
use Rattle.binariser.specs.Heads.{rules_in}
use Rattle.binariser.proofs.RuleLaws.{fewer_left, name_fewer}
use Rattle.binariser.proofs.rules.push_names.Goals as goal

pub returns-in_err-number : goal.returns-in_err-number
returns-in_err-number c =
    let p = err_from_is_err_and c.from_residual.result c.from_residual.ensures.1 in
    rw (p.1, p.2)
    (fewer_left (Unit {0}) _ _ _ _ _
    (name_fewer (rules_in c.args.rules.now) c.args.names.now c.loop-name.name-index c.name-item.result c.loop-name-test.true
    c.name-item.is _ _ _ c.loop-name.invariant.0)
    c.in_err-number.ensures)
