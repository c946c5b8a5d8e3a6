use Rattle.std.proofs.Common.{◌≡◌, take, map}
use Rattle.rule_check.specs.Graphs.{rank_of}
use Rattle.rule_check.proofs.graph.ranks_in.Given as goal

abbrev pub invariant-loop-mark : goal.invariant-loop-mark
invariant-loop-mark l = l.ranks.items ≡ map rank_of (take l.mark-index l.marks)
