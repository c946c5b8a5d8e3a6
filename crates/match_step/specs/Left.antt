-- What a walk over the partners of a row has still to give.
--     items_left m        one item for each partner that is left
--     mark_left goals m   the same of a walk that was paused, over this store
--     GivesItem           a call of `next`
use Rattle.std.specs.Prelude.{◌≡◌, List, [], ◌∷◌, map, Option, Some, None, Result, IfSome, MatchOption, MatchResult}
use Rattle.std.specs.declared.alloc.AllocError.{AllocError}
use Rattle.event_changes.specs.declared.changes.Sign.{Sign}
use Rattle.ev_bind.specs.declared.rows.Row.{Row}
use Rattle.row_changes.specs.Visits.{At, signed}
use Rattle.change_meaning.specs.Caps.{fitting}
use Rattle.change_meaning.specs.JoinVisits.{meeting}
use Rattle.goal_store.specs.Goals.{rest}
use Rattle.goal_store.specs.Walks.{rows_left}
use Rattle.goal_store.specs.declared.cursors.Cursor.{Cursor}
use Rattle.goal_store.specs.declared.kept.GoalStore.{GoalStore}
use Rattle.goal_store.specs.declared.walks.RowsFrom.{RowsFrom}
use Rattle.step_changes.specs.Notes.{noted}
use Rattle.step_changes.specs.Tasks.{at_left}
use Rattle.step_changes.specs.declared.pending.Pending.{Pending}
use Rattle.match_step.specs.declared.matches.MatchMark.{MatchMark}
use Rattle.match_step.specs.declared.matches.Matches.{Matches}
use Rattle.match_step.specs.declared.seekers.Seeker.{Seeker}

abbrev pub rows_in : Option RowsFrom → List Row
rows_in None = []
rows_in (Some w) = rows_left w

abbrev pub rows_at : GoalStore → Option Cursor → List Row
rows_at goals None = []
rows_at goals (Some c) = rest goals c

-- what a partner gives: the joined row, where there is one and it fits
abbrev pub item : Seeker → Row → Option Row
item s partner = fitting s.cap (meeting s.op s.side s.row partner)

abbrev pub items_left : Matches → List (Option Row)
items_left m = map (item m.seeker) (rows_in m.walk)

abbrev pub mark_left : GoalStore → MatchMark → List (Option Row)
mark_left goals m = map (item m.seeker) (rows_at goals m.cursor)

-- the walk goes over this store
abbrev pub IsOver : GoalStore → Matches → Type 0
IsOver goals m = IfSome m.walk (λ w. w.store.now ≡ goals)

-- a call of `next` gives the first item that was left, or an error behind which nothing comes, or it is the end
abbrev pub GivesItem : Matches → Option (Result (Option Row) AllocError) → Matches → Type 0
GivesItem s r t = MatchOption r ((items_left s ≡ []) × (t ≡ s))
    (λ x. MatchResult x (λ i. items_left s ≡ i ∷ items_left t) (λ _. items_left t ≡ []))
    × ((goals : GoalStore) → IsOver goals s → IsOver goals t)

-- the visits of the partners that are left, and what is noted
abbrev pub meeting_at : Sign → Matches → Pending → At
meeting_at sign m p = at_left (map (signed sign) (items_left m)) (noted p)
