use Rattle.support_table.proofs.Asking.{KeptBelow}
use Rattle.support_table.proofs.kept.Supports.keep_only.Given as goal

abbrev pub invariant-loop-number : goal.invariant-loop-number
invariant-loop-number g l = KeptBelow g.F.Fn l.keep l.number l.initial.self l.self
