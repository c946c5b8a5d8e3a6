use Rattle.std.proofs.Common.{◌≡◌, []}
use Rattle.drill_lines.specs.DrillText.{drill_text}
use Rattle.drill_lines.proofs.lines.advance_lines.Given as goal

abbrev pub invariant-loop-count : goal.invariant-loop-count
invariant-loop-count l = l.out.items ≡ drill_text [] l.seed l.count
