use Rattle.std.proofs.Common.{◌≡◌, ◌≤◌, drop, length}
use Rattle.ev_bind.specs.Matching.{numbered}
use Rattle.ev_bind.proofs.matching.number_values.Given as goal

-- the values from the last on
abbrev pub invariant-loop-left : goal.invariant-loop-left
invariant-loop-left l = record {
  made : l.binding ≡ numbered l.left (drop l.left l.terms);
  within : l.left ≤ length l.terms;
}

abbrev pub decreases-loop-left : goal.decreases-loop-left
decreases-loop-left l = l.left
