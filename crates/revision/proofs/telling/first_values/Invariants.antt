use Rattle.std.proofs.Common.{◌≡◌, length}
use Rattle.revision.proofs.telling.first_values.Given as goal

-- so many values as slots were looked at
abbrev pub invariant-loop-number : goal.invariant-loop-number
invariant-loop-number l = length l.found.items ≡ l.number
