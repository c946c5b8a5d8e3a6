use Rattle.std.proofs.Common.{ap, ◌-◌, map, arith}
use Rattle.row_changes.specs.Visits.{signed}
use Rattle.step_changes.specs.Stretches.{made_more, made_one}
use Rattle.match_step.specs.Left.{meeting_at}
use Rattle.match_step.proofs.WalkLaws.{given_item, stops_here, ends_here}
use Rattle.match_step.proofs.meeting.meet.Goals as goal

pub loop-units-preserved : goal.loop-units-preserved
loop-units-preserved c =
    let e = c.in-Some.ensures.steps in
    let i = c.loop-units.invariant in
    record {
      made = made_more _ _ _ _ _ _ i.made
          (made_one (meeting_at c.args.sign c.loop-units.matches c.loop-units.pending)
          (meeting_at c.args.sign c.next.new.self c.note_item.new.pending) (signed c.args.sign c.in_ok-item-in-Some.field-0)
          c.loop-units.units (c.loop-units.units - 1)
          (ap (map (signed c.args.sign))
          (given_item c.loop-units.matches c.in-Some.item c.next.new.self c.in_ok-item-in-Some.field-0 c.in_ok-item-in-Some.was e))
          (omega arith) c.in_ok-note_item-in-Some.ensures.ok);
      store = λ goals over. e.1 goals (i.store goals over);
    }

pub returns-then-remain-clause-works : goal.returns-then-remain-clause-works
returns-then-remain-clause-works c =
    stops_here c.args.sign c.loop-units.pending (meeting_at c.args.sign c.args.matches.now c.args.pending.now) c.args.units
    c.loop-units.units c.loop-units.matches c.remain.result c.remain.ensures c.loop-units-test.false
    c.loop-units.invariant.made c.if-remain.true

pub returns-then-remain-clause-store : goal.returns-then-remain-clause-store
returns-then-remain-clause-store c = c.loop-units.invariant.store

pub returns-clause-works : goal.returns-clause-works
returns-clause-works c =
    ends_here c.args.sign c.loop-units.pending (meeting_at c.args.sign c.args.matches.now c.args.pending.now) c.args.units
    c.loop-units.units c.loop-units.matches c.remain.result c.remain.ensures c.loop-units-test.false
    c.loop-units.invariant.made c.if-remain.false

pub returns-clause-store : goal.returns-clause-store
returns-clause-store c = c.loop-units.invariant.store
