use Rattle.std.proofs.Common.{◌≡◌, Err, rules}
use Rattle.etalis_cli.specs.declared.serving.ServeFault.TheVariants.{Memory}
use Rattle.etalis_cli.proofs.ServeLaws.{unwritten}
use Rattle.etalis_cli.proofs.top.write_drill.Goals as goal

pub returns-in_err-lines-clause-written : goal.returns-in_err-lines-clause-written
returns-in_err-lines-clause-written g c =
    let none : c.from_residual.result ≡ Err Memory = search rules in
    unwritten _ _ _ none
