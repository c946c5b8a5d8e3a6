use Rattle.std.proofs.Common.{sym, ◌∙◌}
use Rattle.rule_ast.specs.PlainPlans.{slots_list}
use Rattle.step_work.proofs.IndexLaws.{read_at, none_past}
use Rattle.step_work.proofs.keys.slots_at.Goals as goal

pub returns-then-at-slots : goal.returns-then-at-slots
returns-then-at-slots c = read_at slots_list c.args.slots.now c.args.step c.index-slots-at.result c.if-at-slots.true c.index-slots-at.is

pub returns : goal.returns
returns c = c.no_slots.ensures ∙ sym (none_past slots_list c.args.slots.now c.args.step c.if-at-slots.false)
