use Rattle.std.proofs.Common.{◌≡◌, ◌+◌, Some, drop}
use Rattle.std.specs.List.{flat_map}
use Rattle.event_changes.specs.declared.changes.Sign.{Sign}
use Rattle.ev_bind.specs.declared.rows.Row.{Row}
use Rattle.row_changes.specs.Visits.{tally}
use Rattle.step_changes.specs.Notes.{noted}
use Rattle.step_work.specs.Seen.{changed_rows, rows_give}
use Rattle.step_work.proofs.reading.Reading.note_heads.Given as goal

abbrev pub invariant-loop-head : goal.invariant-loop-head
invariant-loop-head l = (s : Sign) (r : Row)
    → noted l.pending s r + tally s r (flat_map (λ h. rows_give l.cap Some (changed_rows l.self.changed.now h))
    (drop l.head-index l.heads))
    ≡ noted l.initial.pending s r + tally s r (flat_map (λ h. rows_give l.cap Some (changed_rows l.self.changed.now h)) l.heads)
