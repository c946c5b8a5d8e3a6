-- What a sweep does to marks.
--     keeps_at caps b s r      whether a row of step s is kept at the bound; there is no limit past the end of the caps
--     swept k m                an old mark is dying where its row isn't kept
use Rattle.std.specs.Prelude.{ℕ, Bool, Option, Some, None, get_or, if◌then◌else◌}
use Rattle.ev_bind.specs.declared.rows.Row.{Row}
use Rattle.row_changes.specs.Kept.{kept}
use Rattle.row_changes.specs.declared.caps.CapList.{CapList}
use Rattle.row_changes.specs.declared.caps.Reach.TheVariants.{Free}
use Rattle.goal_store.specs.Marks.{was_old}
use Rattle.goal_store.specs.declared.marks.Mark.{Mark}
use Rattle.goal_store.specs.declared.marks.Mark.TheVariants.{Dying}

abbrev pub keeps_at : CapList → ℕ → ℕ → Row → Bool
keeps_at caps b s r = kept (get_or caps.cap.items s None) (get_or caps.reach.items s Free) b r.span

abbrev pub swept : Bool → Option Mark → Option Mark
swept k m = if k then m else (if was_old m then Some Dying else m)
