use Rattle.std.proofs.Common.{refl, arith}
use Rattle.std.proofs.lemmas.Result.{err_from_is_err_and}
use Rattle.rule_grammar.specs.Machine.{ChainHead.FirstPart}
use Rattle.rule_parser.specs.Signs.{joint_of}
use Rattle.rule_parser.proofs.CondRuns.{link_fails}
use Rattle.rule_parser.proofs.PatternRuns.{round_bracketed, round_more, part_round, part_without, without_square, joint_link, joint_counts, chain_one, chain_more, tree_plain, tree_where}
use Rattle.rule_parser.proofs.patterns.+patterns.Goals as goal

pub bracketed_at-returns : goal.bracketed_at-returns
bracketed_at-returns t c =
    round_bracketed c.requires.fine (let h = c.if-depth-ge-MOST_BRACKETS.false in omega arith) c.requires.first c.in_ok-inner.ensures.0 c.in_ok-rest.ensures.ok

pub chain_at-returns-in_err-left : goal.chain_at-returns-in_err-left
chain_at-returns-in_err-left t c =
    let p = err_from_is_err_and c.from_residual.result c.from_residual.ensures.1 in
    rw (p.1, p.2) (λ k q. c.in_err-left.ensures (FirstPart, k) q)

pub chain_at-loop-joint-init : goal.chain_at-loop-joint-init
chain_at-loop-joint-init t c = chain_one c.in_ok-left.ensures

pub chain_at-returns-in_err-right : goal.chain_at-returns-in_err-right
chain_at-returns-in_err-right t c =
    let p = err_from_is_err_and c.from_residual-in_err-right.result c.from_residual-in_err-right.ensures.1 in
    rw (p.1, p.2)
    (link_fails (joint_link (joint_of c.in-Some.joint)) _ c.loop-joint.invariant c.in-Some.ensures (joint_counts _ (joint_of c.in-Some.joint)) c.in_ok-add_part.ensures.ok c.in_ok-add_part.ensures.fine c.in_err-right.ensures)

pub chain_at-loop-joint-preserved : goal.chain_at-loop-joint-preserved
chain_at-loop-joint-preserved t c =
    chain_more (joint_of c.in-Some.joint) c.loop-joint.invariant c.in-Some.ensures c.in_ok-add_part.ensures.ok c.in_ok-add_part.ensures.fine c.in_ok-right.ensures c.in_ok-left-2.ensures

pub part_at-returns-in-Name : goal.part_at-returns-in-Name
part_at-returns-in-Name t c = c.atom_at.ensures c.args.depth

pub pattern_at-loop-more-init : goal.pattern_at-loop-more-init
pattern_at-loop-more-init t c = tree_plain c.in_ok-left.ensures.0 c.in_ok-left.ensures.1

pub pattern_at-loop-more-preserved : goal.pattern_at-loop-more-preserved
pattern_at-loop-more-preserved t c =
    rw c.in_ok-left-2.ensures.ok
    (tree_where c.loop-more.invariant c.in-Some.ensures c.in_ok-add_part.ensures.ok c.in_ok-add_part.ensures.fine c.in_ok-right.ensures.0 c.in_ok-right.ensures.1 refl)

pub round_at-loop-bound-preserved : goal.round_at-loop-bound-preserved
round_at-loop-bound-preserved t c =
    round_more c.in-Some.bound c.loop-bound.invariant c.in-Some.ensures c.in_ok-add_part.ensures.ok c.in_ok-add_part.ensures.fine c.in_ok-ticks.ensures c.in_ok-left-2.ensures

pub round_at-returns : goal.round_at-returns
round_at-returns t c = part_round c.loop-bound.invariant c.in_default.ensures

pub without_at-returns-in_err-rest-4 : goal.without_at-returns-in_err-rest-4
without_at-returns-in_err-rest-4 t c =
    let p = err_from_is_err_and c.from_residual-in_err-rest-4.result c.from_residual-in_err-rest-4.ensures.1 in
    rw (p.1, p.2, c.in_err-rest-4.ensures.err)
    (without_square _ c.requires.first c.in_ok-add_part.ensures.ok c.in_ok-add_part.ensures.fine (let h = c.if-depth-ge-MOST_BRACKETS.false in omega arith) c.in_ok-inside.ensures.ok
    c.in_ok-inner.ensures.0 c.in_ok-rest.ensures.ok c.in_ok-rest-2.ensures.ok c.in_ok-before.ensures.0 c.in_ok-rest-3.ensures.ok c.in_ok-after.ensures.0 c.in_ok-after.ensures.1 c.in_err-rest-4.ensures.lacks)

pub without_at-returns : goal.without_at-returns
without_at-returns t c =
    rw c.in_ok-new.ensures.ok
    (part_without c.requires.first c.in_ok-add_part.ensures.ok c.in_ok-add_part.ensures.fine (let h = c.if-depth-ge-MOST_BRACKETS.false in omega arith) c.in_ok-inside.ensures.ok
    c.in_ok-inner.ensures.0 c.in_ok-rest.ensures.ok c.in_ok-rest-2.ensures.ok c.in_ok-before.ensures.0 c.in_ok-rest-3.ensures.ok c.in_ok-after.ensures.0 c.in_ok-rest-4.ensures.ok)
