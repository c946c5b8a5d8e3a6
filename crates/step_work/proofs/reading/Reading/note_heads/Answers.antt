use Rattle.std.proofs.Common.{◌∙◌, ◌+◌, Some, ap}
use Rattle.row_changes.specs.Visits.{tally}
use Rattle.step_changes.specs.Notes.{noted}
use Rattle.step_work.specs.Seen.{changed_rows, rows_give}
use Rattle.step_work.proofs.NoteLaws.{noted_next}
use Rattle.step_work.proofs.reading.Reading.note_heads.Goals as goal

pub loop-head-preserved : goal.loop-head-preserved
loop-head-preserved c = λ s r.
    noted_next (λ h. rows_give c.args.cap Some (changed_rows c.args.self.now.changed.now h)) s r
    c.args.heads.now c.loop-head.head-index 0 _ _ _ c.loop-head-test.true
    (c.in_ok-note_same.ensures s r
    ∙ ap (λ rows. noted c.loop-head.pending s r + tally s r (rows_give c.args.cap Some rows)) c.rows_at.ensures)
    (c.loop-head.invariant s r)
