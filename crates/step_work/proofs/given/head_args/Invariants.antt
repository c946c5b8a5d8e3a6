use Rattle.std.proofs.Common.{◌≡◌, map, take}
use Rattle.ev_bind.specs.Matching.{instance}
use Rattle.step_work.proofs.given.head_args.Given as goal

abbrev pub invariant-loop-pat : goal.invariant-loop-pat
invariant-loop-pat l = l.args.items ≡ map (λ p. instance p l.binding) (take l.pat-index l.pats)
