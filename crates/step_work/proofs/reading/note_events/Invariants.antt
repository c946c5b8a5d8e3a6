use Rattle.std.proofs.Common.{◌≡◌, ◌+◌, map, drop}
use Rattle.event_changes.specs.declared.changes.Sign.{Sign}
use Rattle.ev_bind.specs.declared.rows.Row.{Row}
use Rattle.row_changes.specs.Visits.{tally}
use Rattle.change_meaning.specs.Courses.{event_gives}
use Rattle.step_changes.specs.Notes.{noted}
use Rattle.step_work.proofs.reading.note_events.Given as goal

abbrev pub invariant-loop-change : goal.invariant-loop-change
invariant-loop-change l = (s : Sign) (r : Row)
    → noted l.pending s r + tally s r (map (event_gives l.cap l.name) (drop l.change-index l.events))
    ≡ noted l.initial.pending s r + tally s r (map (event_gives l.cap l.name) l.events)
