-- How the expiries follow the rows that come and go.
--     due_one .. d was      whether a row is among them under a bound, after one row has come or gone
--     due_all .. ds was     after many of the same step
--     due_step .. was       after those of all steps
--     due_steps .. was      after one row has come to some steps
--     due_under .. was      after the row under a number has come to the steps that have it
--     due_below .. n        where the rows under the numbers below n have come so
use Rattle.std.specs.Prelude.{ℕ, zero, suc, ◌==◌, ◌&&◌, ◌||◌, not, Bool, false, Option, Some, None, List, [], ◌∷◌}
use Rattle.std.specs.Ordering.{is_eq}
use Rattle.std.specs.declared.alloc.Global.{Global}
use Rattle.std.specs.declared.vec.Vec.{Vec}
use Rattle.event_changes.specs.declared.changes.Sign.{Sign}
use Rattle.event_changes.specs.declared.changes.Sign.TheVariants.{Plus, Minus}
use Rattle.ev_bind.specs.Rows.{row_cmp}
use Rattle.ev_bind.specs.declared.rows.Row.{Row}
use Rattle.row_changes.specs.Changes.{SignedRow}
use Rattle.row_changes.specs.declared.caps.Reach.{Reach}
use Rattle.change_meaning.specs.Caps.{PlainCaps}
use Rattle.goal_store.specs.Goals.{row_at}
use Rattle.goal_store.specs.declared.kept.GoalStore.{GoalStore}
use Rattle.goal_store.specs.declared.marks.Mark.{Mark}
use Rattle.goal_purge.specs.Expiring.{expires_at, has_goal}
use Rattle.step_changes.specs.declared.deltas.Delta.{Delta}
use Rattle.revision.specs.Lists.{rows_at}

-- what comes is there afterwards, and what goes isn't
abbrev pub follow : Sign → (this was : Bool) → Bool
follow Plus this was = this || was
follow Minus this was = not this && was

-- whether the row r of step s is there under the bound d, after a row of a step with this cap and reach has come or gone
abbrev pub due_one : Option ℕ → Reach → (step d s : ℕ) → Row → SignedRow → (was : Bool) → Bool
due_one cap reach step d s r x was = follow x.sign (s == step && (is_eq (row_cmp r x.row) && expires_at cap reach x.row.span d)) was

abbrev pub due_all : Option ℕ → Reach → (step d s : ℕ) → Row → List SignedRow → (was : Bool) → Bool
due_all cap reach step d s r [] was = was
due_all cap reach step d s r (x ∷ xs) was = due_all cap reach step d s r xs (due_one cap reach step d s r x was)

abbrev pub due_step : PlainCaps → List (Vec Delta Global) → (d s : ℕ) → Row → (was : Bool) → Bool
due_step caps lists d s r was = due_all (caps.cap s) (caps.reach s) s d s r (rows_at lists s) was

-- ---- the goals of a store come one after the other

-- whether the row r of step s is there under the bound d, after the row x has come to a step
abbrev pub due_come : PlainCaps → (x : Row) (step d s : ℕ) → Row → (was : Bool) → Bool
due_come caps x step d s r was =
    (s == step && (is_eq (row_cmp r x) && expires_at (caps.cap step) (caps.reach step) x.span d)) || was

abbrev pub due_steps : PlainCaps → Row → List (ℕ × Mark) → (d s : ℕ) → Row → (was : Bool) → Bool
due_steps caps x [] d s r was = was
due_steps caps x (m ∷ ms) d s r was = due_steps caps x ms d s r (due_come caps x m.0 d s r was)

-- whether there is a row and it is r
abbrev pub is_row : Option Row → Row → Bool
is_row None r = false
is_row (Some x) r = is_eq (row_cmp r x)

-- whether a step has the row r, and it goes at the bound d
abbrev pub goal_due : PlainCaps → GoalStore → (d s : ℕ) → Row → Bool
goal_due caps goals d s r = has_goal goals s r && expires_at (caps.cap s) (caps.reach s) r.span d

abbrev pub due_under : PlainCaps → GoalStore → (number d s : ℕ) → Row → (was : Bool) → Bool
due_under caps goals n d s r was = (is_row (row_at goals n) r && goal_due caps goals d s r) || was

-- whether the row r has a number below this one
abbrev pub is_below : GoalStore → ℕ → Row → Bool
is_below goals zero r = false
is_below goals (suc n) r = is_row (row_at goals n) r || is_below goals n r

abbrev pub due_below : PlainCaps → GoalStore → (number d s : ℕ) → Row → Bool
due_below caps goals n d s r = is_below goals n r && goal_due caps goals d s r
