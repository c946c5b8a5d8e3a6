-- The marks of the rows of a step in which nothing has happened yet.
use Rattle.std.specs.Prelude.{ℕ, ◌≡◌, ◌==◌, refl, Bool, true, false, not, nat_lt, if◌then◌else◌, Option, Some, None}
use Rattle.std.specs.Coded.{Coded-set, coded_option}
use Rattle.std.proofs.Common.{sym, ◌∙◌, arith}
use Rattle.std.proofs.lemmas.Bool.{true≢false}
use Rattle.std.proofs.lemmas.Bool.Decides.{nat_tests}
use Rattle.ev_bind.specs.declared.rows.Row.{Row}
use Rattle.row_changes.specs.Changes.{IsHeld}
use Rattle.goal_store.specs.Goals.{mark_at, seen, has_seen}
use Rattle.goal_store.specs.Marks.{seen_as}
use Rattle.goal_store.specs.contracts.marks.Mark as mark
use Rattle.goal_store.specs.declared.kept.GoalStore.{GoalStore}
use Rattle.goal_store.specs.declared.marks.Mark.{Mark}
use Rattle.goal_store.specs.declared.marks.Mark.TheVariants.{Old, Fresh, Dying}
use Rattle.goal_store.specs.declared.marks.When.TheVariants.{Before, After}
use Rattle.step_changes.specs.Marked.{mark_of}

above_none : (n : ℕ) → nat_lt 0 n ≡ not (n == 0)
above_none n = grind (arith, nat_tests)

-- what is seen alike from before and from after is old, or isn't held
seen_alike : (m : Option Mark) (b : Bool) → seen_as Before m ≡ not b → seen_as After m ≡ not b → m ≡ (if b then None else Some Old)
seen_alike None true e f = refl
seen_alike None false e f = absurd (true≢false (sym e))
seen_alike (Some Old) true e f = absurd (true≢false e)
seen_alike (Some Old) false e f = refl
seen_alike (Some Fresh) true e f = absurd (true≢false f)
seen_alike (Some Fresh) false e f = absurd (true≢false (sym e))
seen_alike (Some Dying) true e f = absurd (true≢false e)
seen_alike (Some Dying) false e f = absurd (true≢false (sym f))

pub mark_is : (goals : GoalStore) (n : ℕ) (count : Row → ℕ) → IsHeld (seen goals n Before) count → IsHeld (seen goals n After) count
    → (r : Row) → mark_at goals n r ≡ mark_of (count r)
mark_is goals n count b a r =
    seen_alike (mark_at goals n r) (count r == 0)
    (sym (has_seen goals n Before r) ∙ b.has r ∙ above_none (count r))
    (sym (has_seen goals n After r) ∙ a.has r ∙ above_none (count r))

-- two marks are the same in one way only
pub mark_set : (m k : Option Mark) → IsProp (m ≡ k)
mark_set m k = Coded-set (coded_option mark.the_row.coded) m k
