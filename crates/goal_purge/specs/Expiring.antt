-- The bounds at which rows go.
--     expiry cap reach span      the first bound at which a row on this span isn't kept
--     due e d s r                step s has the row r there, under the bound d
--     Follows caps had e         exactly the rows that steps have stand in it, under their bounds
use Rattle.std.specs.Prelude.{ℕ, ◌≡◌, ◌+◌, ◌-◌, ◌^◌, ◌==◌, ◌&&◌, ◌||◌, Bool, false, not, max, nat_lt, if◌then◌else◌, Option, Some, None, length}
use Rattle.std.specs.Option.{is_some, option_map_or}
use Rattle.std.specs.Ordering.{nat_cmp, ordering_then, is_eq}
use Rattle.std.specs.declared.cmp.Ordering.{Ordering}
use Rattle.ordered_lists.specs.Canon.{has}
use Rattle.event_model.specs.Spans.{PlainSpan}
use Rattle.ev_bind.specs.Rows.{row_cmp}
use Rattle.ev_bind.specs.declared.rows.Row.{Row}
use Rattle.row_changes.specs.declared.caps.Reach.{Reach}
use Rattle.row_changes.specs.declared.caps.Reach.TheVariants.{NoUser, Limit, Free}
use Rattle.row_changes.specs.Kept.{under}
use Rattle.change_meaning.specs.Caps.{PlainCaps}
use Rattle.goal_store.specs.Goals.{mark_at}
use Rattle.goal_store.specs.declared.kept.GoalStore.{GoalStore}
use Rattle.goal_purge.specs.declared.expiries.Expiries.{Expiries}
use Rattle.goal_purge.specs.declared.expiries.Expiry.{Expiry}

-- the bound after this one; none after the last of 64 bits
abbrev pub next : ℕ → Option ℕ
next last = if nat_lt (last + 1) (2 ^ 64) then Some (last + 1) else None

-- the bound after the last at which a row on this span is kept that is no longer than the cap
abbrev pub after : Reach → PlainSpan → Option ℕ
after NoUser s = next s.end
after (Limit c) s = next (max (s.start + c) s.end)
after Free s = None

-- the first bound at which a row on this span isn't kept; none where each bound of 64 bits keeps it
abbrev pub expiry : Option ℕ → Reach → PlainSpan → Option ℕ
expiry cap reach s = if under cap (s.end - s.start) then after reach s else Some 0

-- whether that is this bound
abbrev pub expires_at : Option ℕ → Reach → PlainSpan → ℕ → Bool
expires_at cap reach s d = option_map_or (λ x. x == d) (expiry cap reach s) false

-- by bound, then as rows are in order, then by step
abbrev pub expiry_cmp : Expiry → Expiry → Ordering
expiry_cmp a b = ordering_then (nat_cmp a.bound b.bound) (ordering_then (row_cmp a.row b.row) (nat_cmp a.step b.step))

-- step s has the row r there, under the bound d
unfoldable pub due : Expiries → ℕ → ℕ → Row → Bool
due e d s r = has expiry_cmp (record { bound = d; row = r; step = s }) e.entries.keys

-- how many rows of steps stand there
abbrev pub entry_count : Expiries → ℕ
entry_count e = length e.entries.keys

-- whether a step has a row, with whatever mark
abbrev pub has_goal : GoalStore → ℕ → Row → Bool
has_goal g s r = is_some (mark_at g s r)

-- exactly the rows that steps have stand in it, under their bounds
abbrev pub Follows : PlainCaps → (ℕ → Row → Bool) → Expiries → Type 0
Follows caps had e =
    (d s : ℕ) (r : Row) → due e d s r ≡ (had s r && expires_at (caps.cap s) (caps.reach s) r.span d)

-- the rows of the steps, and also this one
abbrev pub with_row : ℕ → Row → (ℕ → Row → Bool) → ℕ → Row → Bool
with_row step row had s r = (s == step && is_eq (row_cmp r row)) || had s r

-- the rows of the steps without this one
abbrev pub without_row : ℕ → Row → (ℕ → Row → Bool) → ℕ → Row → Bool
without_row step row had s r = not (s == step && is_eq (row_cmp r row)) && had s r
