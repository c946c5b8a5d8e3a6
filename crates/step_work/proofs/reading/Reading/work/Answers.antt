use Rattle.std.proofs.Common.{ap}
use Rattle.rule_ast.specs.PlainPlans.{plain_step}
use Rattle.step_changes.specs.Notes.{noted}
use Rattle.step_work.specs.Seen.{view_in}
use Rattle.step_work.proofs.WayLaws.{join_good, minus_good, no_way, join_stepped, minus_stepped}
use Rattle.step_work.proofs.reading.Reading.work.Goals as goal

pub join-requires : goal.join-requires
join-requires c = join_good c.args.self.now.goals.now c.args.cap (plain_step c.args.step.now) c.args.way.now
    c.in-Join.op c.in-Join.left c.in-Join.right c.in-Join-way.way (ap plain_step c.in-Join.is) c.in-Join-way.is c.requires

pub returns-in-Join-way : goal.returns-in-Join-way
returns-in-Join-way c = λ slots count.
    join_stepped c.args.self.now.goals.now c.args.cap (plain_step c.args.step.now) c.args.way.now c.args.self.now.changed.now slots
    (view_in c.args.self.now.goals.now count c.args.self.now.changed.now) c.args.self.now.events.now c.args.spot.now
    (noted c.args.pending.now) (noted c.join.new.pending) c.args.units c.in_ok-rest-in-Join-way.rest
    c.in-Join.op c.in-Join.left c.in-Join.right c.in-Join-way.way c.join.new.place (ap plain_step c.in-Join.is) c.in-Join-way.is
    c.in_ok-rest-in-Join-way.ensures

pub unreachable-requires : goal.unreachable-requires
unreachable-requires c = no_way c.args.self.now.goals.now c.args.cap (plain_step c.args.step.now) c.args.way.now _ _
    (ap plain_step c.in-Join.is) c.in-Plain.is (λ slots h. h) c.requires

pub unreachable-requires-in-Minus-way : goal.unreachable-requires-in-Minus-way
unreachable-requires-in-Minus-way c = no_way c.args.self.now.goals.now c.args.cap (plain_step c.args.step.now) c.args.way.now _ _
    (ap plain_step c.in-Join.is) c.in-Minus-way.is (λ slots h. h) c.requires

pub test-requires : goal.test-requires
test-requires c = minus_good c.args.self.now.goals.now c.args.cap (plain_step c.args.step.now) c.args.way.now
    c.in-Minus.joined c.in-Minus.before c.in-Minus.inner c.in-Minus.after c.in-Minus-way-2.way (ap plain_step c.in-Minus.is)
    c.in-Minus-way-2.is c.requires

pub returns-in-Minus-way-2 : goal.returns-in-Minus-way-2
returns-in-Minus-way-2 c = λ slots count.
    minus_stepped c.args.self.now.goals.now c.args.cap (plain_step c.args.step.now) c.args.way.now c.args.self.now.changed.now slots
    (view_in c.args.self.now.goals.now count c.args.self.now.changed.now) c.args.self.now.events.now c.args.spot.now
    (noted c.args.pending.now) (noted c.test.new.pending) c.args.units c.in_ok-rest-in-Minus-way-2.rest
    c.in-Minus.joined c.in-Minus.before c.in-Minus.inner c.in-Minus.after c.in-Minus-way-2.way c.test.new.place
    (ap plain_step c.in-Minus.is) c.in-Minus-way-2.is c.in_ok-rest-in-Minus-way-2.ensures

pub unreachable-requires-in-Plain-way : goal.unreachable-requires-in-Plain-way
unreachable-requires-in-Plain-way c = no_way c.args.self.now.goals.now c.args.cap (plain_step c.args.step.now) c.args.way.now _ _
    (ap plain_step c.in-Minus.is) c.in-Plain-way.is (λ slots h. h) c.requires

pub unreachable-requires-in-Join-way-2 : goal.unreachable-requires-in-Join-way-2
unreachable-requires-in-Join-way-2 c = no_way c.args.self.now.goals.now c.args.cap (plain_step c.args.step.now) c.args.way.now _ _
    (ap plain_step c.in-Minus.is) c.in-Join-way-2.is (λ slots h. h) c.requires
