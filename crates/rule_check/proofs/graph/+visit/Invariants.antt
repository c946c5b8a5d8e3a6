use Rattle.std.proofs.Common.{take}
use Rattle.rule_check.specs.Graphs.{tally, is_new}
use Rattle.rule_check.proofs.Visiting.{Visiting}
use Rattle.rule_check.proofs.graph.+visit.Given as goal

abbrev pub decreases-visit : goal.decreases-visit
decreases-visit l = tally is_new l.marks.now

abbrev pub invariant-loop-target : goal.invariant-loop-target
invariant-loop-target l = Visiting l.graph l.node l.fn.marks l.marks (take l.target-index l.target-items) l.top
