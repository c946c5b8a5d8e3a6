-- Which goals are old after a sweep.
use Rattle.std.proofs.Common.{ℕ, ◌≡◌, Bool, true, false, refl, sym, ap, ◌∙◌, Option, Some, None}
use Rattle.std.specs.Prelude.{if◌then◌else◌}
use Rattle.ev_bind.specs.declared.rows.Row.{Row}
use Rattle.row_changes.specs.declared.caps.CapList.{CapList}
use Rattle.goal_store.specs.Goals.{mark_at, AllOld, Settled}
use Rattle.goal_store.specs.Marks.{settled}
use Rattle.goal_store.specs.Sweeping.{keeps_at}
use Rattle.goal_store.specs.declared.kept.GoalStore.{GoalStore}
use Rattle.goal_store.specs.declared.marks.Mark.{Mark}
use Rattle.goal_store.specs.declared.marks.Mark.TheVariants.{Old, Fresh, Dying}

settled_twice : (m : Option Mark) → settled (settled m) ≡ settled m
settled_twice None = refl
settled_twice (Some Old) = refl
settled_twice (Some Fresh) = refl
settled_twice (Some Dying) = refl

-- goals that are settled are old
pub settled_old : (old new : GoalStore) → Settled old new → AllOld new
settled_old old new is s r = ap settled (is s r) ∙ settled_twice (mark_at old s r) ∙ sym (is s r)

left : (k : Bool) (m : Option Mark) → settled m ≡ m → settled (if k then m else None) ≡ (if k then m else None)
left true m old = old
left false m old = refl

-- old goals of which some are left are old
pub left_old : (old new : GoalStore) (caps : CapList) (bound : ℕ) → AllOld old
    → ((s : ℕ) (r : Row) → mark_at new s r ≡ (if keeps_at caps bound s r then mark_at old s r else None)) → AllOld new
left_old old new caps bound was is s r = ap settled (is s r) ∙ left (keeps_at caps bound s r) (mark_at old s r) (was s r) ∙ sym (is s r)
