-- Two sets of rows, and their difference.
--     has_positive w r, has_negative w r      whether a row is in the first set, or in the second
--     has_difference w r                      whether it is in the first alone
use Rattle.std.specs.Prelude.{◌≡◌, Bool, true, false, not, ◌&&◌, if◌then◌else◌}
use Rattle.std.specs.Ordering.{is_eq}
use Rattle.ordered_lists.specs.Canon.{has}
use Rattle.ev_bind.specs.Rows.{row_cmp}
use Rattle.ev_bind.specs.declared.rows.Row.{Row}
use Rattle.support_table.specs.declared.supports.Change.{Change}
use Rattle.support_table.specs.declared.supports.Change.TheVariants.{Appeared, Vanished, Same}
use Rattle.negation_witness.specs.declared.witnesses.Witnesses.{Witnesses}

unfoldable pub has_positive : Witnesses → Row → Bool
has_positive w r = has row_cmp r w.positives.keys

unfoldable pub has_negative : Witnesses → Row → Bool
has_negative w r = has row_cmp r w.negatives.keys

abbrev pub has_difference : Witnesses → Row → Bool
has_difference w r = has_positive w r && not (has_negative w r)

-- whether a row is there after a change, where it was there or not
abbrev pub becomes : Change → Bool → Bool
becomes Appeared was = true
becomes Vanished was = false
becomes Same was = was

-- a row appears only where it isn't, and vanishes only where it is
abbrev pub MayBecome : Change → Bool → Type 0
MayBecome Appeared was = was ≡ false
MayBecome Vanished was = was ≡ true
MayBecome Same was = Unit {0}

-- a set has changed at one row
abbrev pub Becomes : Change → Row → (old new : Row → Bool) → Type 0
Becomes change row old new = (r : Row) → new r ≡ (if is_eq (row_cmp row r) then becomes change (old r) else old r)

-- what becomes of a row that was there or not, and is now or not
abbrev pub change_between : (before after : Bool) → Change
change_between false true = Appeared
change_between true false = Vanished
change_between true true = Same
change_between false false = Same
