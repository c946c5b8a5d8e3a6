-- Walks that may not be there.
use Rattle.std.specs.Prelude.{Option, Some, None, List, []}
use Rattle.ev_bind.specs.declared.rows.Row.{Row}
use Rattle.goal_store.specs.Walks.{rows_left}
use Rattle.goal_store.specs.declared.walks.RowsFrom.{RowsFrom}

-- the rows that a walk stands before
abbrev pub rows_or_none : Option RowsFrom → List Row
rows_or_none None = []
rows_or_none (Some w) = rows_left w
