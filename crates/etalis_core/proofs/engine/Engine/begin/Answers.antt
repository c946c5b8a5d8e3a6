use Rattle.std.proofs.Common.{true, false, refl, sym, ◌∙◌}
use Rattle.std.proofs.lemmas.Bool.{true≢false}
use Rattle.event_model.specs.Presence.{settled, all_inputs, extended, settles, present}
use Rattle.etalis_core.specs.StandsFor.{late_of, horizon}
use Rattle.etalis_core.proofs.LedgerLaws.{open_where, settled_where}
use Rattle.etalis_core.proofs.EngineLaws.{fine_for_all, has_room, may_start, stands_at_once, starts, works_begun}
use Rattle.etalis_core.proofs.engine.Engine.begin.Goals as goal

pub follow-requires : goal.follow-requires
follow-requires c = has_room c.args.self.now c.args.input c.requires (sym c.spent.ensures ∙ c.if-spent.false)

pub begin-requires : goal.begin-requires
begin-requires c =
    ∣ may_start c.args.self.now c.follow.new.self c.args.input c.in_ok-changes.changes.items c.requires (sym c.spent.ensures ∙ c.if-spent.false) c.follow.ensures.spans
    (λ h s fine. c.in_ok-follow.ensures.ok h s.ledger s.accepted fine) (λ late told h l. c.in_ok-changes.ensures late told h l) ∣₁

pub returns-clause-works : goal.returns-clause-works
returns-clause-works c = λ h s settling.
    let fine = fine_for_all c.args.self.now h c.args.input c.requires s in
    let ledger = c.in_ok-follow.ensures.ok h s.ledger s.accepted fine in
    let can = starts c.args.self.now c.follow.new.self h c.args.input c.in_ok-changes.changes.items s fine c.follow.ensures.spans ledger
    (λ late told h l. c.in_ok-changes.ensures late told h l) in
    works_begun c.args.self.now _ h c.args.input s fine settling c.follow.ensures.spans ledger c.begin.ensures.plan
    (c.begin.ensures.works (horizon (late_of c.args.self.now) h) (present (settled h)) (present (all_inputs (extended h c.args.input))) can) refl refl refl

pub returns-then-in_batch-clause-stands : goal.returns-then-in_batch-clause-stands
returns-then-in_batch-clause-stands c = λ h s nothing.
    let fine = fine_for_all c.args.self.now h c.args.input c.requires s in
    stands_at_once c.args.self.now _ h c.args.input s fine nothing c.follow.ensures.spans
    (c.in_ok-follow.ensures.ok h s.ledger s.accepted fine) refl refl refl refl

pub returns-then-in_batch-clause-works : goal.returns-then-in_batch-clause-works
returns-then-in_batch-clause-works c = λ h s settling.
    let fine = fine_for_all c.args.self.now h c.args.input c.requires s in
    let ledger = c.in_ok-follow.ensures.ok h s.ledger s.accepted fine in
    let o = open_where c.follow.new.self (late_of c.args.self.now) (settled h) h c.args.input ledger c.in_batch.result c.in_batch.ensures in
    absurd (true≢false (sym settling ∙ settled_where (settles h c.args.input) c.in_batch.result true o c.if-in_batch.true))

pub returns-then-in_batch-clause-working : goal.returns-then-in_batch-clause-working
returns-then-in_batch-clause-working c = λ h can.
    let ledger = c.in_ok-follow.ensures.ok h can.stands.ledger can.stands.accepted can.fine in
    let o = open_where c.follow.new.self (late_of c.args.self.now) (settled h) h c.args.input ledger c.in_batch.result c.in_batch.ensures in
    can.stands.holds.resting ∙ sym (settled_where (settles h c.args.input) c.in_batch.result true o c.if-in_batch.true)

pub returns-clause-stands : goal.returns-clause-stands
returns-clause-stands c = λ h s nothing.
    let fine = fine_for_all c.args.self.now h c.args.input c.requires s in
    let ledger = c.in_ok-follow.ensures.ok h s.ledger s.accepted fine in
    let o = open_where c.follow.new.self (late_of c.args.self.now) (settled h) h c.args.input ledger c.in_batch.result c.in_batch.ensures in
    absurd (true≢false (sym (settled_where (settles h c.args.input) c.in_batch.result false o c.if-in_batch.false) ∙ nothing))

pub returns-clause-working : goal.returns-clause-working
returns-clause-working c = λ h can.
    let ledger = c.in_ok-follow.ensures.ok h can.stands.ledger can.stands.accepted can.fine in
    let o = open_where c.follow.new.self (late_of c.args.self.now) (settled h) h c.args.input ledger c.in_batch.result c.in_batch.ensures in
    c.begin.ensures.working ∙ sym (settled_where (settles h c.args.input) c.in_batch.result false o c.if-in_batch.false)
