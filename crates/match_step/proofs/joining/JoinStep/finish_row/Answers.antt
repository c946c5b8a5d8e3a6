use Rattle.std.proofs.Common.{ap, sym, ◌∙◌, List, Option, map}
use Rattle.ev_bind.specs.declared.rows.Row.{Row}
use Rattle.row_changes.specs.Visits.{signed}
use Rattle.match_step.specs.Left.{items_left}
use Rattle.match_step.specs.Rows.{join_at, row_at}
use Rattle.match_step.proofs.RowLaws.{some_under, work_from}
use Rattle.match_step.proofs.joining.JoinStep.finish_row.Goals as goal

pub returns : goal.returns
returns c =
    let j = c.args.self.now in let place = c.args.place.now in let u = c.in-Some.under in let p = c.args.pending.now in
    work_from j place.begun c.meet_row.new.place c.meet_row.new.pending
    (row_at j place.begun (map (signed u.sign) (items_left c.resume-matches.result)) p) (join_at j place p) c.args.units c.meet_row.result
    (ap (λ (l : List (Option Row)). row_at j place.begun (map (signed u.sign) l) p) c.resume-matches.ensures.items
    ∙ sym (some_under j place u p (sym c.in-Some.ensures.value)))
    (c.meet_row.ensures c.resume-matches.ensures.store)
