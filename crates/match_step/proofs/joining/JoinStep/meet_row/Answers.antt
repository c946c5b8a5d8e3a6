use Rattle.std.proofs.Common.{ap, sym, map}
use Rattle.row_changes.specs.Visits.{signed}
use Rattle.match_step.specs.Left.{items_left}
use Rattle.match_step.proofs.RowLaws.{row_over, row_stopped}
use Rattle.match_step.proofs.joining.JoinStep.meet_row.Goals as goal

pub returns-in-Some : goal.returns-in-Some
returns-in-Some c = λ over. let h = rw c.in-Some.is at c.in_ok-rest.ensures.works in
    row_over c.args.self.now c.args.place.now (map (signed c.args.sign) (items_left c.args.matches))
    (map (signed c.args.sign) (items_left c.meet.new.matches)) c.args.pending.now c.meet.new.pending c.args.units c.in-Some.rest
    c.requires h.0 h.1

pub returns-in-None : goal.returns-in-None
returns-in-None c = λ over. let h = rw c.in-None.is at c.in_ok-rest.ensures.works in
    let goals = c.args.self.now.goals.now in
    row_stopped c.args.self.now c.args.place.now.begun (record { sign = c.args.sign; mark = c.pause.result })
    (map (signed c.args.sign) (items_left c.args.matches)) (map (signed c.args.sign) (items_left c.meet.new.matches))
    c.args.pending.now c.meet.new.pending c.args.units h.0 h.1
    (ap (map (signed c.args.sign)) (sym (c.pause.ensures goals (c.in_ok-rest.ensures.store goals over))))
