use Rattle.std.proofs.Common.{◌≡◌, map}
use Rattle.binariser.proofs.ranks.without_ranks.Given as goal

abbrev pub invariant-loop-ranked : goal.invariant-loop-ranked
invariant-loop-ranked l = l.names.items ≡ map (λ p. p.1) l.yielded
