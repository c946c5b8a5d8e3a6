use Rattle.std.proofs.Common.{◌-◌, sym, ap, ◌∙◌, arith}
use Rattle.std.specs.Prelude.{option_and_then}
use Rattle.ev_bind.specs.Bindings.{join}
use Rattle.ev_bind.proofs.Merging.{args_differ, args_refused, args_taken}
use Rattle.ev_bind.proofs.matching.+matching.Goals as goal

pub match_terms-returns-then-pats-terms : goal.match_terms-returns-then-pats-terms
match_terms-returns-then-pats-terms t c = sym (ap (option_and_then (join c.args.binding)) (args_differ c.args.pats.now c.args.terms.now c.if-pats-terms.true))

pub match_terms-returns-in-None : goal.match_terms-returns-in-None
match_terms-returns-in-None t c = sym (c.loop-left.invariant.joined
    ∙ args_refused c.loop-left.found c.args.pats.now c.args.terms.now c.loop-left.left (c.loop-left.left - 1) c.index-pats-left.result c.index-terms-left.result (omega (arith, c.loop-left-test.true))
    (omega (arith, c.loop-left-test.true, c.loop-left.invariant.within)) (omega (arith, c.loop-left-test.true, c.loop-left.invariant.within, c.if-pats-terms.false)) c.index-pats-left.is c.index-terms-left.is
    (sym c.in_ok-match_term.ensures ∙ c.in-None.is))

pub match_terms-loop-left-preserved : goal.match_terms-loop-left-preserved
match_terms-loop-left-preserved t c = record {
  joined = c.loop-left.invariant.joined
      ∙ args_taken c.loop-left.found c.args.pats.now c.args.terms.now c.loop-left.left (c.loop-left.left - 1) c.index-pats-left.result c.index-terms-left.result (omega (arith, c.loop-left-test.true))
      (omega (arith, c.loop-left-test.true, c.loop-left.invariant.within)) (omega (arith, c.loop-left-test.true, c.loop-left.invariant.within, c.if-pats-terms.false)) c.index-pats-left.is c.index-terms-left.is
      c.in-Some.more (sym c.in_ok-match_term.ensures ∙ c.in-Some.is);
  within = omega (arith, c.loop-left.invariant.within);
}
