use Rattle.std.proofs.Common.{sym, arith}
use Rattle.std.proofs.lemmas.Bool.{eqb-true}
use Rattle.ev_bind.proofs.Merging.{variables_more}
use Rattle.ev_bind.proofs.matching.+are_variables.Goals as goal

pub returns-then-eq-clause-variables : goal.returns-then-eq-clause-variables
returns-then-eq-clause-variables t c = λ yes. variables_more c.args.pats.now c.args.at c.in-Some.cell.now.slot c.in-Some.cell.now.term c.in-Var.slot c.index-pats-at.result c.in-Some.cell.now.rest c.args.args.now
    (omega (arith, c.if-at-pats.false, c.requires)) c.index-pats-at.is c.in-Var.is (eqb-true c.in-Var.slot c.in-Some.cell.now.slot (sym c.if-eq.ensures)) c.in-Some.ensures.pairs (c.are_variables.ensures.variables yes)
