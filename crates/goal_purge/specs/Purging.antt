-- How far a purge has come.
use Rattle.std.specs.Prelude.{ℕ, ◌≡◌, ◌≤◌, ◌&&◌, Bool, false, not, if◌then◌else◌, Some}
use Rattle.ev_bind.specs.declared.rows.Row.{Row}
use Rattle.support_table.specs.Supports.{count_of}
use Rattle.support_table.specs.declared.kept.Supports.{Supports}
use Rattle.change_meaning.specs.Caps.{PlainCaps, keeps}
use Rattle.goal_store.specs.Goals.{mark_at}
use Rattle.goal_store.specs.Marks.{was_old}
use Rattle.goal_store.specs.declared.kept.GoalStore.{GoalStore}
use Rattle.goal_store.specs.declared.marks.Mark.TheVariants.{Dying}
use Rattle.goal_purge.specs.Expiring.{due, Follows}
use Rattle.goal_purge.specs.declared.expiries.Expiries.{Expiries}

-- no row goes at the bound
abbrev pub NoneDue : ℕ → Expiries → Type 0
NoneDue bound e = (d s : ℕ) (r : Row) → d ≤ bound → due e d s r ≡ false

-- whether a step has a row as an old one
abbrev pub has_old : GoalStore → ℕ → Row → Bool
has_old g s r = was_old (mark_at g s r)

-- some of the rows that g has and that aren't kept at the bound are dying now, and have no support; all else is as it was
pub record Purges (caps : PlainCaps) (bound : ℕ) (g : GoalStore) (u : Supports) (goals : GoalStore) (supports : Supports)
    (e : Expiries) : Type 0 where
  pub follows : Follows caps (has_old goals) e
  pub marks : (s : ℕ) (r : Row) → mark_at goals s r
      ≡ (if has_old g s r && not (has_old goals s r) then Some Dying else mark_at g s r)
  pub gone : (s : ℕ) (r : Row) → (has_old g s r && not (has_old goals s r) && keeps caps bound s r) ≡ false
  pub counts : (s : ℕ) (r : Row) → count_of supports s r
      ≡ (if has_old g s r && not (has_old goals s r) then 0 else count_of u s r)
