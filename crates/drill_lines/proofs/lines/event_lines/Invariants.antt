use Rattle.drill_lines.proofs.Kept.{Drilling}
use Rattle.drill_lines.proofs.lines.event_lines.Given as goal

abbrev pub invariant-loop-count : goal.invariant-loop-count
invariant-loop-count l = Drilling l.kinds l.seed l.count l.out.items l.draws l.recent.items
