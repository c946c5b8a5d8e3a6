use Rattle.std.proofs.Common.{true, false, refl, sym, ap, ◌∙◌, subst}
use Rattle.ordered_lists.specs.Canon.{Rising}
use Rattle.event_model.specs.EventOrder.{event_cmp}
use Rattle.event_model.specs.Presence.{settled, all_inputs, extended, settles, present, bound}
use Rattle.event_changes.specs.Events.{event_changes}
use Rattle.etalis_core.proofs.HistoryLaws.{rising-present}
use Rattle.etalis_core.proofs.LedgerLaws.{room_kept, open_where, settled_where}
use Rattle.etalis_core.proofs.RollLaws.{roll_same, roll_settled}
use Rattle.etalis_core.proofs.roll.Roll.follow.Goals as goal

pub follow-requires : goal.follow-requires
follow-requires c =
    let h = c.requires.0 in
    room_kept c.args.self.now.ledger.present (bound c.args.late (settled h)) (all_inputs h) c.args.input.now c.requires.1.ledger.numbers c.requires.2

pub returns-then-in_batch : goal.returns-then-in_batch
returns-then-in_batch c = λ h r a fine.
    let ledger = c.in_ok-follow.ensures.ok h r.ledger a fine in
    let o = open_where c.follow.new.self c.args.late (settled h) h c.args.input.now ledger c.in_batch.result c.in_batch.ensures in
    roll_same c.args.self.now _ c.args.late h c.args.input.now r (settled_where (settles h c.args.input.now) c.in_batch.result true o c.if-in_batch.true) ledger refl

pub returns : goal.returns
returns c = λ h r a fine.
    let ledger = c.in_ok-follow.ensures.ok h r.ledger a fine in
    let o = open_where c.follow.new.self c.args.late (settled h) h c.args.input.now ledger c.in_batch.result c.in_batch.ensures in
    let after = present (all_inputs (extended h c.args.input.now)) in
    roll_settled _ c.args.late h c.args.input.now (settled_where (settles h c.args.input.now) c.in_batch.result false o c.if-in_batch.false)
    (c.settle.ensures c.args.late (settled h) (extended h c.args.input.now) ledger)
    (c.in_ok-apply_all.ensures after (subst (Rising event_cmp) (sym r.events) (rising-present (settled h))) (rising-present (all_inputs (extended h c.args.input.now)))
    (c.deref.ensures.value ∙ c.in_ok-changes.ensures c.args.late (settled h) (extended h c.args.input.now) ledger ∙ ap (λ l. event_changes l after) (sym r.events)))
