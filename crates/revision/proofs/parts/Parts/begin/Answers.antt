use Rattle.std.proofs.Common.{refl}
use Rattle.support_table.specs.Supports.{count_of}
use Rattle.revision.specs.InHand.{hand}
use Rattle.revision.proofs.HoldLaws.{begun}
use Rattle.revision.proofs.PartLaws.{fresh_left, none_left}
use Rattle.revision.proofs.parts.Parts.begin.Goals as goal

pub returns-clause-works : goal.returns-clause-works
returns-clause-works c = λ b E F can ready.
    let me = c.args.self.now in
    begun (hand me) b E F c.args.changes.items can (hand me).view _ can.holds.rows
    (fresh_left me ready me.goals refl me.changed.items (count_of me.supports) c.start.result c.start.ensures 0)
    (none_left me ready me.goals refl me.changed.items (count_of me.supports) c.start.result c.start.ensures 0)
    c.clear.ensures

pub returns-clause-ready : goal.returns-clause-ready
returns-clause-ready c = λ r. record {
  ways = r.ways;
  planned = r.planned;
  indexed = r.indexed;
  stored = r.stored;
  listed = r.listed;
  few = r.few;
  none = r.none;
}
