-- The marks of the rows of a step at its end.
--     mark_of n          of a row with this count, before anything has happened to it
--     shown c m          of a row to which this has happened, where its mark was m
use Rattle.std.specs.Prelude.{ℕ, ◌≡◌, ◌==◌, refl, Bool, true, false, nat_lt, not, if◌then◌else◌, Option, Some, None}
use Rattle.std.proofs.Common.{ap, sym, ◌∙◌, arith}
use Rattle.std.proofs.lemmas.Bool.Decides.{nat_tests}
use Rattle.event_changes.specs.declared.changes.Sign.{Sign}
use Rattle.event_changes.specs.declared.changes.Sign.TheVariants.{Plus, Minus}
use Rattle.ev_bind.specs.declared.rows.Row.{Row}
use Rattle.row_changes.specs.Changes.{change, IsHeld}
use Rattle.goal_store.specs.Marks.{seen_as}
use Rattle.goal_store.specs.Goals.{mark_at, seen, has_seen, seen_rises}
use Rattle.goal_store.specs.declared.kept.GoalStore.{GoalStore}
use Rattle.goal_store.specs.declared.marks.Mark.{Mark}
use Rattle.goal_store.specs.declared.marks.Mark.TheVariants.{Old, Fresh, Dying}
use Rattle.goal_store.specs.declared.marks.When.{When}
use Rattle.goal_store.specs.declared.marks.When.TheVariants.{Before, After}

abbrev pub mark_of : ℕ → Option Mark
mark_of n = if n == 0 then None else Some Old

abbrev pub shown : Option Sign → Option Mark → Option Mark
shown None m = m
shown (Some Plus) m = Some Fresh
shown (Some Minus) m = Some Dying

-- a row comes only where it isn't held, and goes only where it is old
abbrev pub MayShow : Option Sign → Option Mark → Type 0
MayShow None m = Unit {0}
MayShow (Some Plus) m = m ≡ None
MayShow (Some Minus) m = m ≡ Some Old

-- ---- laws

pub may_show : (old new : ℕ) → MayShow (change old new) (mark_of old)
may_show old new = at (old == 0) (new == 0)
  where
    at : (b d : Bool) → MayShow (if b then (if d then None else Some Plus) else (if d then Some Minus else None))
        (if b then None else Some Old)
    at true true = tt
    at true false = refl
    at false true = refl
    at false false = tt

lt_not : (n : ℕ) → nat_lt 0 n ≡ not (n == 0)
lt_not n = grind (arith, nat_tests)

-- from before, a row is seen where it had a count, and from after where it has one
abbrev pub count_in : When → (old new : ℕ) → ℕ
count_in Before old new = old
count_in After old new = new

seen_of : (when : When) (old new : ℕ) → seen_as when (shown (change old new) (mark_of old)) ≡ nat_lt 0 (count_in when old new)
seen_of Before old new = at (old == 0) (new == 0) ∙ sym (lt_not old)
  where
    at : (b d : Bool) → seen_as Before (shown (if b then (if d then None else Some Plus) else (if d then Some Minus else None))
        (if b then None else Some Old)) ≡ not b
    at true true = refl
    at true false = refl
    at false true = refl
    at false false = refl
seen_of After old new = at (old == 0) (new == 0) ∙ sym (lt_not new)
  where
    at : (b d : Bool) → seen_as After (shown (if b then (if d then None else Some Plus) else (if d then Some Minus else None))
        (if b then None else Some Old)) ≡ not d
    at true true = refl
    at true false = refl
    at false true = refl
    at false false = refl

module _ (goals : GoalStore) (step : ℕ) where
  -- what is seen of a step whose marks are these
  pub held_seen : (old new : Row → ℕ) → ((r : Row) → mark_at goals step r ≡ shown (change (old r) (new r)) (mark_of (old r)))
      → (when : When) → IsHeld (seen goals step when) (λ r. count_in when (old r) (new r))
  held_seen old new marks when = record {
    rises = seen_rises goals step when;
    has = λ r. has_seen goals step when r ∙ ap (seen_as when) (marks r) ∙ seen_of when (old r) (new r);
  }

  -- and of one in which nothing has happened
  pub held_old : (count : Row → ℕ) → ((r : Row) → mark_at goals step r ≡ mark_of (count r)) → (when : When)
      → IsHeld (seen goals step when) count
  held_old count marks when = record {
    rises = seen_rises goals step when;
    has = λ r. has_seen goals step when r ∙ ap (seen_as when) (marks r) ∙ at when (count r == 0) ∙ sym (lt_not (count r));
  }
    where
      at : (when : When) (b : Bool) → seen_as when (if b then None else Some Old) ≡ not b
      at Before true = refl
      at Before false = refl
      at After true = refl
      at After false = refl
