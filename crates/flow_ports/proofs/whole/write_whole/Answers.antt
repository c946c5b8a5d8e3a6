use Rattle.std.proofs.Common.{length, rules, arith, refl, sym, ap}
use Rattle.std.proofs.Math.Seq.{take-add}
use Rattle.std.proofs.lemmas.List.{take_rest}
use Rattle.flow_ports.proofs.FlowLemmas.{gives_more}
use Rattle.flow_ports.proofs.whole.write_whole.Goals as goal

pub loop-at-preserved : goal.loop-at-preserved
loop-at-preserved g c = record {
  bound = search rules;
  given = gives_more _ _ _ _ _ _ c.loop-at.invariant.given c.in-Ok.ensures.bytes (rw take_rest (sym (take-add _ _ _)));
  count = search rules;
  untouched = λ none. absurd (omega (arith, none));
}

pub returns-clause-empty : goal.returns-clause-empty
returns-clause-empty g c = λ none. (refl, c.loop-at.invariant.untouched (ap length none))
