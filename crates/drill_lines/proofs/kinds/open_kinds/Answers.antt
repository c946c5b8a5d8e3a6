use Rattle.std.proofs.Common.{◌≡◌, IfOk, List, map, subst}
use Rattle.event_model.specs.declared.atoms.NameArity.{NameArity}
use Rattle.rule_ast.specs.Plain.{plain_statement}
use Rattle.drill_lines.proofs.Naming.{open_same}
use Rattle.drill_lines.proofs.kinds.open_kinds.Goals as goal

pub returns : goal.returns
returns c =
    let P : List NameArity → Type 0 = λ l. IfOk c.kinds_beside.result (λ k. k ≡ l) in
    subst P (open_same (map plain_statement c.args.statements.now) c.in_ok-heads.heads c.in_ok-heads.ensures) c.kinds_beside.ensures
