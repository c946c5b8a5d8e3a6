use Rattle.std.proofs.Common.{refl, ap, ◌∙◌}
use Rattle.negation_witness.specs.Working.{place_left}
use Rattle.negation_witness.proofs.WorkLaws.{stays, still, row_made}
use Rattle.negation_witness.proofs.subtracting.MinusStep.next_rows.Goals as goal

pub returns-in-Stopped : goal.returns-in-Stopped
returns-in-Stopped c = let m = c.args.self.now in let k = rw c.in-Stopped.is at c.in_ok-begin_row.ensures in (
  stays m _ c.changed.place c.begin_row.new.place c.changed.pending c.begin_row.new.pending _ _ _ c.changed.invariant.made k.1 k.2 k.0,
  still m c.changed.place c.begin_row.new.place k.1 k.3,
)

pub returns-in-Over : goal.returns-in-Over
returns-in-Over c = let m = c.args.self.now in let k = rw c.in-Over.is at c.in_ok-begin_row.ensures in (
  stays m _ c.changed.place c.begin_row.new.place c.changed.pending c.begin_row.new.pending _ _ _ c.changed.invariant.made k.0 k.1 refl,
  ap (place_left m) k.0 ∙ k.2,
)

pub returns-in-None : goal.returns-in-None
returns-in-None c = let k = rw c.in-Started.is at c.in_ok-begin_row.ensures in
    let v = rw c.in-None.is at c.in_ok-visit_rows-in-Started.ensures in
    (row_made _ _ _ _ _ c.changed.units 0 c.changed.invariant.made k.0 k.1 v.0, v.1)

pub changed-preserved : goal.changed-preserved
changed-preserved c = let k = rw c.in-Started.is at c.in_ok-begin_row.ensures in
    let v = rw c.in-Some.is at c.in_ok-visit_rows-in-Started.ensures in
    record { made = row_made _ _ _ _ _ c.changed.units c.in-Some.rest c.changed.invariant.made k.0 k.1 v.0; over = v.1 }
