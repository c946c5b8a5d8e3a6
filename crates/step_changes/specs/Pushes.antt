-- One more changed row behind others.
use Rattle.std.specs.Prelude.{◌≡◌, List, [], ◌∷◌, Option, Some, None}
use Rattle.std.specs.declared.cmp.Ordering.TheVariants.{Less}
use Rattle.event_changes.specs.declared.changes.Sign.{Sign}
use Rattle.ev_bind.specs.Rows.{row_cmp}
use Rattle.ev_bind.specs.declared.rows.Row.{Row}
use Rattle.row_changes.specs.Changes.{SignedRow}

-- the first of the two that is there
abbrev pub or_sign : Option Sign → Option Sign → Option Sign
or_sign None b = b
or_sign (Some s) b = Some s

-- all rows are below this one
abbrev pub AllUnder : Row → List SignedRow → Type 0
AllUnder k [] = Unit {0}
AllUnder k (d ∷ ds) = (row_cmp d.row k ≡ Less) × AllUnder k ds
