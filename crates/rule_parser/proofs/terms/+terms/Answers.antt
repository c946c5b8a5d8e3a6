use Rattle.std.proofs.Common.{rules, arith}
use Rattle.std.proofs.lemmas.Result.{err_from_is_err_and}
use Rattle.rule_grammar.specs.Lists.{Before.Start}
use Rattle.rule_parser.specs.Steps.{counted}
use Rattle.rule_parser.proofs.TermRuns.{term_word, term_leaf, term_stuck, term_symbol, term_compound, compound_deep, compound_fails, terms_one, terms_more, terms_wide, terms_fail, terms_stuck, word_err, leaf_err}
use Rattle.rule_parser.proofs.terms.+terms.Goals as goal

pub arguments_at-returns-in_err-first : goal.arguments_at-returns-in_err-first
arguments_at-returns-in_err-first t c =
    let p = err_from_is_err_and c.from_residual.result c.from_residual.ensures.1 in
    rw (p.1, p.2) (λ n q. c.in_err-first.ensures (n, Start) q)

pub arguments_at-loop-more-init : goal.arguments_at-loop-more-init
arguments_at-loop-more-init t c = terms_one c.args.kind c.in_ok-first.ensures (search (rules, c.in_ok-push.ensures.items, c.new-args.ensures.items))

pub arguments_at-returns-then-len-ge-MOST_ARGUMENTS : goal.arguments_at-returns-then-len-ge-MOST_ARGUMENTS
arguments_at-returns-then-len-ge-MOST_ARGUMENTS t c =
    rw c.limit.ensures (terms_wide c.args.kind c.loop-more.invariant (search (rules, c.if-len-ge-MOST_ARGUMENTS.true, c.len.ensures)) c.in-Some.ensures)

pub arguments_at-returns-in_err-arg : goal.arguments_at-returns-in_err-arg
arguments_at-returns-in_err-arg t c =
    let p = err_from_is_err_and c.from_residual-in_err-arg.result c.from_residual-in_err-arg.ensures.1 in
    rw (p.1, p.2) (terms_fail c.args.kind _ c.loop-more.invariant (search (rules, c.if-len-ge-MOST_ARGUMENTS.false, c.len.ensures)) c.in-Some.ensures c.in_err-arg.ensures)

pub arguments_at-loop-more-preserved : goal.arguments_at-loop-more-preserved
arguments_at-loop-more-preserved t c =
    terms_more c.args.kind c.loop-more.invariant (search (rules, c.if-len-ge-MOST_ARGUMENTS.false, c.len.ensures)) c.in-Some.ensures c.in_ok-arg.ensures c.in_ok-push-2.ensures.items

pub arguments_at-returns-in_err-rest : goal.arguments_at-returns-in_err-rest
arguments_at-returns-in_err-rest t c =
    let p = err_from_is_err_and c.from_residual-in_err-rest.result c.from_residual-in_err-rest.ensures.1 in
    rw (p.1, p.2, c.in_err-rest.ensures.err) (terms_stuck c.args.kind c.loop-more.invariant c.in_default.ensures c.in_err-rest.ensures.lacks)

pub named_at-returns-in_default : goal.named_at-returns-in_default
named_at-returns-in_default t c = term_symbol c.args.kind c.requires.fine c.requires.named c.in_default.ensures c.in_ok-share.ensures

pub named_at-returns-then-level-ge-MOST_DEPTH : goal.named_at-returns-then-level-ge-MOST_DEPTH
named_at-returns-then-level-ge-MOST_DEPTH t c =
    rw c.limit.ensures (compound_deep c.args.kind c.requires.fine c.if-level-ge-MOST_DEPTH.true c.requires.named c.in-Some.ensures)

pub named_at-returns-in_err-args : goal.named_at-returns-in_err-args
named_at-returns-in_err-args t c =
    let p = err_from_is_err_and c.from_residual-in_err-args.result c.from_residual-in_err-args.ensures.1 in
    rw (p.1, p.2) (compound_fails c.args.kind _ c.requires.fine (let h = c.if-level-ge-MOST_DEPTH.false in omega arith) c.requires.named c.in-Some.ensures c.in_err-args.ensures)

pub named_at-returns : goal.named_at-returns
named_at-returns t c =
    rw c.in_ok-new.ensures
    (term_compound c.args.kind c.requires.fine (let h = c.if-level-ge-MOST_DEPTH.false in omega arith) c.requires.named c.in-Some.ensures c.in_ok-args.ensures c.in_ok-share-2.ensures)

pub term_at-returns-in_err-term : goal.term_at-returns-in_err-term
term_at-returns-in_err-term t c =
    let p = err_from_is_err_and c.from_residual.result c.from_residual.ensures.1 in
    rw (p.1, p.2) (word_err c.args.kind _ _ c.requires.fine c.in_err-term.ensures)

pub term_at-returns-in-Some : goal.term_at-returns-in-Some
term_at-returns-in-Some t c = term_word c.args.kind c.requires.fine (rw c.in-Some.is at c.in_ok-term.ensures)

pub term_at-returns-in_err-term-2 : goal.term_at-returns-in_err-term-2
term_at-returns-in_err-term-2 t c =
    let p = err_from_is_err_and c.from_residual-in_err-term-2.result c.from_residual-in_err-term-2.ensures.1 in
    rw (p.1, p.2) (leaf_err c.args.kind _ (counted c.leaf_at.new.ledger) _ c.in-Some-take_first.ensures c.in_err-term-2.ensures)

pub term_at-returns-in-Some-2 : goal.term_at-returns-in-Some-2
term_at-returns-in-Some-2 t c = term_leaf c.args.kind c.in-Some-take_first.ensures (rw c.in-Some-2.is at c.in_ok-term-2.ensures)

pub term_at-returns-in-None : goal.term_at-returns-in-None
term_at-returns-in-None t c =
    rw c.syntax-in-None.ensures
    (term_stuck c.args.kind _ c.in-Some-take_first.ensures (rw c.in_default.is at c.in_ok-term.ensures) c.in_default-first.not-Name (rw c.in-None.is at c.in_ok-term-2.ensures))
