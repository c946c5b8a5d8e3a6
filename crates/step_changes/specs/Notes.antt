-- What is noted of the rows of a step.
--     noted p s r        how often the row comes, or goes
use Rattle.std.specs.Prelude.{ℕ, Bool, is_some, length, Option, Some, None}
use Rattle.std.specs.BTreeMap.{get}
use Rattle.event_changes.specs.declared.changes.Sign.{Sign}
use Rattle.event_changes.specs.declared.changes.Sign.TheVariants.{Plus, Minus}
use Rattle.ev_bind.specs.Rows.{row_cmp}
use Rattle.ev_bind.specs.declared.rows.Row.{Row}
use Rattle.step_changes.specs.declared.pending.Tally.{Tally}
use Rattle.step_changes.specs.declared.pending.Pending.{Pending}

-- the number of a sign
abbrev pub part : Sign → Option Tally → ℕ
part s None = 0
part Plus (Some t) = t.added
part Minus (Some t) = t.taken

unfoldable pub noted : Pending → Sign → Row → ℕ
noted p s r = part s (get row_cmp p.map r)

-- whether anything is noted of a row
unfoldable pub has_note : Pending → Row → Bool
has_note p r = is_some (get row_cmp p.map r)

-- so many rows have a note
unfoldable pub notes : Pending → ℕ
notes p = length p.map.entries
