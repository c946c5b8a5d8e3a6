use Rattle.std.proofs.Common.{rules, subst, take_all}
use Rattle.rule_writer.specs.Writes.{Appends, all_items}
use Rattle.rule_writer.proofs.StatementArms.{no_items_written, first_item, next_item}
use Rattle.rule_writer.proofs.statements.write_items.Goals as goal

pub returns-then-is_empty : goal.returns-then-is_empty
returns-then-is_empty c = no_items_written c.args.names.now (search rules) c.in_ok-write_str.ensures

pub loop-i-init : goal.loop-i-init
loop-i-init c = first_item c.args.names.now c.index-names-0.result (search rules) c.index-names-0.is c.in_ok-write_item.ensures

pub loop-i-preserved : goal.loop-i-preserved
loop-i-preserved c =
    next_item c.args.names.now c.loop-i.i c.index-names-i.result c.loop-i.auto.i c.loop-i-test.true c.index-names-i.is c.loop-i.invariant c.in_ok-write_str-2.ensures c.in_ok-write_item-2.ensures

pub returns : goal.returns
returns c = subst (λ xs. Appends c.args.out.now.items c.loop-i.out.items (all_items xs)) (take_all c.loop-i.i c.args.names.now c.loop-i-test.false) c.loop-i.invariant
