use Rattle.std.proofs.Common.{◌≡◌}
use Rattle.drill_lines.specs.OpenNames.{open_in}
use Rattle.drill_lines.proofs.Naming.{rules_before}
use Rattle.drill_lines.proofs.kinds.kinds_beside.Given as goal

abbrev pub invariant-loop-statement : goal.invariant-loop-statement
invariant-loop-statement l = l.kinds ≡ open_in l.heads (rules_before l.statement-index l.statements)
