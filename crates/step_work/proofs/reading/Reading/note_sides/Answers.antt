use Rattle.std.proofs.Common.{◌∙◌, ◌+◌, Some, ap}
use Rattle.row_changes.specs.Visits.{tally}
use Rattle.step_changes.specs.Notes.{noted}
use Rattle.step_work.specs.Seen.{rows_give}
use Rattle.step_work.proofs.NoteLaws.{on_ok, noted_more}
use Rattle.step_work.proofs.reading.Reading.note_sides.Goals as goal

pub returns : goal.returns
returns c = λ s r. on_ok c.note_same-2.result _ _
    (λ second. noted_more s r _ _ _ _ _
    (c.in_ok-note_same.ensures s r
    ∙ ap (λ rows. noted c.args.pending.now s r + tally s r (rows_give c.args.cap Some rows)) c.rows_at.ensures)
    (second
    ∙ ap (λ rows. noted c.note_same.new.pending s r + tally s r (rows_give c.args.cap Some rows)) c.rows_at-2.ensures))
    (c.note_same-2.ensures s r)
