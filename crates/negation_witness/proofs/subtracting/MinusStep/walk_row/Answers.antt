use Rattle.std.proofs.Common.{refl, sym, ◌∙◌}
use Rattle.step_changes.specs.Notes.{noted}
use Rattle.negation_witness.specs.Looking.{rows_or_none}
use Rattle.negation_witness.specs.Working.{tests_of}
use Rattle.negation_witness.proofs.WorkLaws.{stops_here, ends_here}
use Rattle.negation_witness.proofs.subtracting.MinusStep.walk_row.Goals as goal

pub returns-then-is_some : goal.returns-then-is_some
returns-then-is_some c = let m = c.args.self.now in
    stops_here m c.args.place.now.at (tests_of m c.args.end (rows_or_none c.args.rows.now)) c.in_ok-rest.under (noted c.args.pending.now)
    (noted c.test_rows.new.pending) c.args.units c.in_ok-rest.rest c.in_ok-rest.ensures.made
    (sym c.is_some.ensures ∙ c.if-is_some.true) c.in_ok-rest.ensures.stops

pub returns : goal.returns
returns c = let m = c.args.self.now in
    let h = ends_here m c.args.place.now.at (tests_of m c.args.end (rows_or_none c.args.rows.now)) c.in_ok-rest.under
    (noted c.args.pending.now)
    (noted c.test_rows.new.pending) c.args.units c.in_ok-rest.rest c.in_ok-rest.ensures.made
    (sym c.is_some.ensures ∙ c.if-is_some.false) in (h.0, h.1, refl)
