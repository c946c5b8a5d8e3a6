use Rattle.std.proofs.Common.{ap, ◌∙◌}
use Rattle.std.specs.Ordering.{eq_by_cmp}
use Rattle.event_model.specs.EventOrder.{name_cmp}
use Rattle.indexmap.specs.IndexSet.{insert_key}
use Rattle.binariser.proofs.NeededLaws.{one_name}
use Rattle.binariser.proofs.names.set_of.Goals as goal

pub loop-name-preserved : goal.loop-name-preserved
loop-name-preserved c =
    one_name c.args.names.now c.loop-name.name-index c.name-item.result c.loop-name-test.true c.name-item.is c.loop-name.set.keys
    c.insert.new.self.keys
    (c.in_ok-insert.ensures.keys ∙ ap (insert_key (eq_by_cmp name_cmp) c.loop-name.set.keys) c.in_ok-share_name.ensures)
    c.loop-name.invariant
