use Rattle.std.proofs.Common.{None}
use Rattle.negation_witness.specs.Working.{place_at}
use Rattle.negation_witness.proofs.WorkLaws.{if_ok, works_more, works_same}
use Rattle.negation_witness.proofs.subtracting.MinusStep.work.Goals as goal

pub returns-in_default : goal.returns-in_default
returns-in_default c = let h = rw c.in_default.is at c.in_ok-rest.ensures in
    works_same c.args.self.now c.args.place.now c.finish_row.new.place c.args.pending.now c.finish_row.new.pending c.args.units None h

pub returns : goal.returns
returns c = let m = c.args.self.now in let h = rw c.in-Some.is at c.in_ok-rest.ensures in
    if_ok c.next_rows.result _ _
    (λ r w. works_same m c.args.place.now c.next_rows.new.place c.args.pending.now c.next_rows.new.pending c.args.units r
    (works_more (place_at m c.args.place.now c.args.pending.now) (place_at m c.finish_row.new.place c.finish_row.new.pending)
    (place_at m c.next_rows.new.place c.next_rows.new.pending) c.args.units c.in-Some.rest r h.0 w))
    c.next_rows.ensures
