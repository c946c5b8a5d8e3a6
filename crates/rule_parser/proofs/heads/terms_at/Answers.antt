use Rattle.std.proofs.Common.{rules, refl}
use Rattle.std.proofs.lemmas.Result.{err_from_is_err_and}
use Rattle.rule_grammar.specs.Machine.{TermsHead.FirstOfHead}
use Rattle.rule_parser.proofs.FileRuns.{heads_one, heads_more, heads_wide, heads_fail}
use Rattle.rule_parser.proofs.heads.terms_at.Goals as goal

pub returns-in_err-first : goal.returns-in_err-first
returns-in_err-first c =
    let p = err_from_is_err_and c.from_residual.result c.from_residual.ensures.1 in
    rw (p.1, p.2) (λ n. c.in_err-first.ensures (n.0, n.1, FirstOfHead) refl)

pub loop-more-init : goal.loop-more-init
loop-more-init c = heads_one c.in_ok-first.ensures (search (rules, c.in_ok-push.ensures.items, c.new-args.ensures.items))

pub returns-then-len-ge-MOST_ARGUMENTS : goal.returns-then-len-ge-MOST_ARGUMENTS
returns-then-len-ge-MOST_ARGUMENTS c =
    rw c.limit.ensures (heads_wide c.loop-more.invariant (search (rules, c.if-len-ge-MOST_ARGUMENTS.true, c.len.ensures)) c.in-Some.ensures)

pub returns-in_err-arg : goal.returns-in_err-arg
returns-in_err-arg c =
    let p = err_from_is_err_and c.from_residual-in_err-arg.result c.from_residual-in_err-arg.ensures.1 in
    rw (p.1, p.2) (heads_fail _ c.loop-more.invariant (search (rules, c.if-len-ge-MOST_ARGUMENTS.false, c.len.ensures)) c.in-Some.ensures (λ n. c.in_err-arg.ensures n refl))

pub loop-more-preserved : goal.loop-more-preserved
loop-more-preserved c =
    heads_more c.loop-more.invariant (search (rules, c.if-len-ge-MOST_ARGUMENTS.false, c.len.ensures)) c.in-Some.ensures c.in_ok-arg.ensures c.in_ok-push-2.ensures.items
