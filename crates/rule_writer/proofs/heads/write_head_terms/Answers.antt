use Rattle.std.proofs.Common.{rules, subst, take_all}
use Rattle.rule_writer.specs.Writes.{Appends, all_head_terms}
use Rattle.rule_writer.proofs.HeadArms.{first_head_term, next_head_term}
use Rattle.rule_writer.proofs.heads.write_head_terms.Goals as goal

pub loop-i-init : goal.loop-i-init
loop-i-init c = first_head_term c.args.names.now c.args.args.now c.index-args-0.result (search rules) c.index-args-0.is c.in_ok-write_head_term.ensures

pub loop-i-preserved : goal.loop-i-preserved
loop-i-preserved c =
    next_head_term c.args.names.now c.args.args.now c.loop-i.i c.index-args-i.result c.loop-i.auto.i c.loop-i-test.true c.index-args-i.is
    c.loop-i.invariant c.in_ok-write_str.ensures c.in_ok-write_head_term-2.ensures

pub returns : goal.returns
returns c = subst (λ xs. Appends c.args.out.now.items c.loop-i.out.items (all_head_terms c.args.names.now xs)) (take_all c.loop-i.i c.args.args.now c.loop-i-test.false) c.loop-i.invariant
