use Rattle.change_meaning.specs.Caps.{caps_in}
use Rattle.revision.proofs.SweepLaws.{all_old, due_goals, swept_holds, swept_due, swept_ready}
use Rattle.revision.proofs.parts.Parts.sweep.Goals as goal

pub returns-clause-holds : goal.returns-clause-holds
returns-clause-holds c = λ b E h f.
    let me = c.args.self.now in
    let old = all_old me b E h in
    let follows = due_goals me b E h f in
    swept_holds me b c.args.bound E h c.purge.new.goals c.purge.new.supports
    (c.purge.ensures.marks (caps_in me.caps) old follows) (c.purge.ensures.counts (caps_in me.caps) old follows) c.purge.new.expiries

pub returns-clause-due : goal.returns-clause-due
returns-clause-due c = λ b E h f.
    let me = c.args.self.now in
    let old = all_old me b E h in
    let follows = due_goals me b E h f in
    swept_due me b c.args.bound E h c.purge.new.goals c.purge.new.supports
    (c.purge.ensures.marks (caps_in me.caps) old follows) (c.purge.ensures.counts (caps_in me.caps) old follows) c.purge.new.expiries
    (c.purge.ensures.follows (caps_in me.caps) old follows)

pub returns-clause-ready : goal.returns-clause-ready
returns-clause-ready c = λ ready.
    swept_ready c.args.self.now c.purge.new.goals c.purge.new.supports c.purge.new.expiries c.purge.ensures.plan ready
