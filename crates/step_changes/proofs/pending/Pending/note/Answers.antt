use Rattle.std.proofs.Common.{Some}
use Rattle.step_changes.specs.Notes.{noted, part}
use Rattle.step_changes.proofs.ChangeLaws.{note_law, on_ok}
use Rattle.step_changes.proofs.pending.Pending.note.Goals as goal

pub returns-clause-ok : goal.returns-clause-ok
returns-clause-ok c = λ s r. on_ok c.put.result _ _
    (note_law (noted c.args.self.now) c.args.sign c.args.row s r (part s (Some c.at.result)) (part s (Some c.in-Some.tally)) (noted c.put.new.self s r)
    (c.in-Some.ensures s) (c.at.ensures s)) (c.put.ensures.ok s r)
