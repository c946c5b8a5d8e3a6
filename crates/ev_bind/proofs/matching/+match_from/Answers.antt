use Rattle.std.proofs.Common.{◌≡◌, ◌<◌, length, sym, ◌∙◌, arith}
use Rattle.std.specs.Prelude.{option_and_then}
use Rattle.std.proofs.lemmas.Result.{IfOk-weaker}
use Rattle.ev_bind.specs.Bindings.{join}
use Rattle.ev_bind.specs.Matching.{pairs_of}
use Rattle.ev_bind.proofs.Merging.{none_left, more_none, more_some}
use Rattle.ev_bind.proofs.matching.+match_from.Goals as goal

pub returns-then-at-pats : goal.returns-then-at-pats
returns-then-at-pats t c = sym (none_left c.args.pats.now c.args.at c.args.args.now c.if-at-pats.true c.in-None.ensures.pairs)

pub returns-in-None-2 : goal.returns-in-None-2
returns-in-None-2 t c =
    let within : c.args.at < length c.args.pats.now = omega (arith, c.if-at-pats-2.false, c.requires) in
    more_none c.args.pats.now c.args.at c.index-pats-at.result (c.in-Some.cell.now.slot, c.in-Some.cell.now.term) c.in-Some.cell.now.rest c.args.args.now within c.index-pats-at.is c.in-Some.ensures.pairs
    (sym c.in-None-2.is ∙ c.in_ok-match_from-in-Some.ensures)

pub returns-in-Some-2 : goal.returns-in-Some-2
returns-in-Some-2 t c =
    let within : c.args.at < length c.args.pats.now = omega (arith, c.if-at-pats-2.false, c.requires) in
    IfOk-weaker c.match_term.result (λ o. o ≡ option_and_then (join c.in-Some-2.found) (pairs_of c.index-pats-at.result c.in-Some.cell.now.term)) _
    (λ o e. e ∙ more_some c.args.pats.now c.args.at c.index-pats-at.result (c.in-Some.cell.now.slot, c.in-Some.cell.now.term) c.in-Some.cell.now.rest c.args.args.now within c.index-pats-at.is c.in-Some.ensures.pairs
    c.in-Some-2.found (sym c.in-Some-2.is ∙ c.in_ok-match_from-in-Some.ensures))
    c.match_term.ensures
