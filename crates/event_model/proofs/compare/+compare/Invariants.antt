use Rattle.std.proofs.Common.{◌≡◌, drop}
use Rattle.std.specs.Cmp.Lexicographic.{slice_cmp}
use Rattle.event_model.specs.TermOrder.{term_cmp}
use Rattle.event_model.proofs.compare.+compare.Given as goal

-- what is left compares as the whole does
abbrev pub invariant-cmp_args-loop-i : goal.invariant-cmp_args-loop-i
invariant-cmp_args-loop-i l = slice_cmp term_cmp (drop l.i l.xs) (drop l.i l.ys) ≡ slice_cmp term_cmp l.xs l.ys
