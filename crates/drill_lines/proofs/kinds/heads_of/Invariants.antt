use Rattle.std.proofs.Common.{◌≡◌}
use Rattle.drill_lines.proofs.Naming.{rules_before, heads_in}
use Rattle.drill_lines.proofs.kinds.heads_of.Given as goal

abbrev pub invariant-loop-statement : goal.invariant-loop-statement
invariant-loop-statement l = l.heads ≡ heads_in (rules_before l.statement-index l.statements)
