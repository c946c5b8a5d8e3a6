use Rattle.std.proofs.Common.{◌≡◌, take, map}
use Rattle.ev_bind.specs.Matching.{instance}
use Rattle.ev_bind.proofs.instances.+instances.Given as goal

abbrev pub invariant-instances_of-loop-i : goal.invariant-instances_of-loop-i
invariant-instances_of-loop-i l = l.terms.items ≡ map (λ p. instance p l.binding) (take l.i l.pats)
