-- How the rows of a step change: which come, which go, and both as one list with signs. A row is in a list once, in order.
use Rattle.std.specs.Prelude.{◌≡◌, ℕ, ◌==◌, List, [], ◌∷◌, ◌++◌, map, nat_lt, Option, Some, None, if◌then◌else◌}
use Rattle.std.specs.Ordering.{is_eq}
use Rattle.ordered_lists.specs.Canon.{canon, has, Rising}
use Rattle.ordered_lists.specs.Members.{without}
use Rattle.event_changes.specs.declared.changes.Sign.{Sign}
use Rattle.event_changes.specs.declared.changes.Sign.TheVariants.{Plus, Minus}
use Rattle.ev_bind.specs.Rows.{row_cmp}
use Rattle.ev_bind.specs.declared.rows.Row.{Row}

-- the rows that are only after
abbrev pub fresh : (before after : List Row) → List Row
fresh before after = without row_cmp after before

-- the rows that are only before
abbrev pub dying : (before after : List Row) → List Row
dying before after = without row_cmp before after

-- the rows that are in one of the two and not in the other
abbrev pub changed : (before after : List Row) → List Row
changed before after = canon row_cmp (fresh before after ++ dying before after)

-- a row that has come or gone
pub record SignedRow : Type 0 where
  pub sign : Sign
  pub row : Row

-- what has happened to a changed row
abbrev pub signed_row : (after : List Row) → Row → SignedRow
signed_row after r = record { sign = if has row_cmp r after then Plus else Minus; row = r }

-- the changed rows in order, each with its sign
abbrev pub deltas : (before after : List Row) → List SignedRow
deltas before after = map (signed_row after) (changed before after)

abbrev pub delta_rows : List SignedRow → List Row
delta_rows ds = map (λ d. d.row) ds

-- what a list of changed rows says of a row
abbrev pub sign_in : Row → List SignedRow → Option Sign
sign_in r [] = None
sign_in r (d ∷ ds) = if is_eq (row_cmp r d.row) then Some d.sign else sign_in r ds

-- what happens to a row whose count goes from one number to another: it comes from 0, and goes to 0
abbrev pub change : ℕ → ℕ → Option Sign
change old new = if old == 0 then (if new == 0 then None else Some Plus) else (if new == 0 then Some Minus else None)

-- these are the rows that come and go where counts change so, in order
pub record IsChange (old new : Row → ℕ) (ds : List SignedRow) : Type 0 where
  pub in_order : Rising row_cmp (delta_rows ds)
  pub each : (r : Row) → sign_in r ds ≡ change (old r) (new r)

-- these rows are those with a count above 0, in order
pub record IsHeld (rows : List Row) (count : Row → ℕ) : Type 0 where
  pub rises : Rising row_cmp rows
  pub has : (r : Row) → has row_cmp r rows ≡ nat_lt 0 (count r)
