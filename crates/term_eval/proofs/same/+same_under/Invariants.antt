use Rattle.std.proofs.Common.{◌≡◌, drop}
use Rattle.ev_bind.specs.Matching.{instance}
use Rattle.ev_bind.specs.Fits.{same}
use Rattle.term_eval.specs.Alike.{each_with}
use Rattle.term_eval.proofs.same.+same_under.Given as goal

-- all so far are the same
abbrev pub invariant-all_same-loop-i : goal.invariant-all_same-loop-i
invariant-all_same-loop-i l =
    each_with (λ p q. same (instance p l.b) (instance q l.b)) l.ps l.qs ≡ each_with (λ p q. same (instance p l.b) (instance q l.b)) (drop l.i l.ps) (drop l.i l.qs)
