use Rattle.std.proofs.Common.{◌≡◌, drop}
use Rattle.ev_bind.specs.Matching.{instance}
use Rattle.ev_bind.specs.Fits.{same}
use Rattle.term_eval.specs.Alike.{each_with}
use Rattle.term_eval.proofs.same.+is_term.Given as goal

-- all so far are the same
abbrev pub invariant-are_terms-loop-i : goal.invariant-are_terms-loop-i
invariant-are_terms-loop-i l =
    each_with (λ p t. same (instance p l.b) t) l.pats l.terms ≡ each_with (λ p t. same (instance p l.b) t) (drop l.i l.pats) (drop l.i l.terms)
