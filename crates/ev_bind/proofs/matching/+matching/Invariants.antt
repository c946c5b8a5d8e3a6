use Rattle.std.proofs.Common.{◌≡◌, ◌≤◌, take, length}
use Rattle.ev_bind.proofs.Merging.{joined_args}
use Rattle.ev_bind.proofs.matching.+matching.Given as goal

-- the pairs so far and those of the arguments that are left are all
abbrev pub invariant-match_terms-loop-left : goal.invariant-match_terms-loop-left
invariant-match_terms-loop-left l = record {
  joined : joined_args l.initial.found l.pats l.terms ≡ joined_args l.found (take l.left l.pats) (take l.left l.terms);
  within : l.left ≤ length l.pats;
}

abbrev pub decreases-match_terms-loop-left : goal.decreases-match_terms-loop-left
decreases-match_terms-loop-left l = l.left
