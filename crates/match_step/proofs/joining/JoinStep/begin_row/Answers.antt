use Rattle.std.proofs.Common.{◌+◌, map}
use Rattle.row_changes.specs.Visits.{signed}
use Rattle.match_step.specs.Joining.{view_of}
use Rattle.match_step.specs.Left.{items_left}
use Rattle.match_step.specs.Rows.{join_at, row_at, task_of}
use Rattle.match_step.proofs.RowLaws.{row_visits, begins, work_on}
use Rattle.match_step.proofs.joining.JoinStep.begin_row.Goals as goal

pub returns : goal.returns
returns c =
    let j = c.args.self.now in let place = c.args.place.now in let p = c.args.pending.now in let d = c.args.delta.now in
    let items = items_left c.in_ok-matches.matches in
    let own = row_visits (view_of j.goals.now j.way) (task_of c.args.side d) items c.in_ok-matches.ensures.items in
    work_on j (place.begun + 1) c.meet_row.new.place c.meet_row.new.pending (join_at j place p)
    (row_at j (place.begun + 1) (map (signed d.sign) items) p) c.args.units
    (begins j place (task_of c.args.side d) (map (signed d.sign) items) p c.requires.none c.requires.task own)
    c.requires.units c.meet_row.result (c.meet_row.ensures c.in_ok-matches.ensures.store)
