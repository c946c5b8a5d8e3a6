-- Visits: each looks at one partner of a changed row, or is the visit of the changed row itself.
--     tally s r vs      how often these visits give the row r with the sign s
--     At, Made          how far a step has come, and a stretch of its work
use Rattle.std.specs.Prelude.{◌≡◌, ℕ, Bool, true, false, ◌+◌, ◌&&◌, List, [], ◌∷◌, ◌++◌, length, Option, Some, None, if◌then◌else◌}
use Rattle.std.specs.Ordering.{is_eq}
use Rattle.event_changes.specs.declared.changes.Sign.{Sign}
use Rattle.event_changes.specs.declared.changes.Sign.TheVariants.{Plus, Minus}
use Rattle.ev_bind.specs.Rows.{row_cmp}
use Rattle.ev_bind.specs.declared.rows.Row.{Row}

-- what a visit gives: a support that comes or goes, or nothing
abbrev pub Visit : Type 0
Visit = Option (Sign × Row)

abbrev pub same_sign : Sign → Sign → Bool
same_sign Plus Plus = true
same_sign Plus Minus = false
same_sign Minus Plus = false
same_sign Minus Minus = true

abbrev pub hits : Sign → Row → Visit → ℕ
hits s r None = 0
hits s r (Some v) = if same_sign s v.0 && is_eq (row_cmp r v.1) then 1 else 0

-- how often visits give this
abbrev pub tally : Sign → Row → List Visit → ℕ
tally s r [] = 0
tally s r (v ∷ vs) = hits s r v + tally s r vs

abbrev pub signed : Sign → Option Row → Visit
signed s None = None
signed s (Some r) = Some (s, r)

-- how far a step has come: its visits to come, and how often each row with a sign was given
pub record At : Type 0 where
  pub left : List Visit
  pub noted : Sign → Row → ℕ

-- from the one to the other some visits were made, each of which took one of the units, and what they give was noted
pub record Made (p q : At) (units rest : ℕ) : Type 0 where
  pub made : List Visit
  pub left : p.left ≡ made ++ q.left
  pub number : length made + rest ≡ units
  pub noted : (s : Sign) (r : Row) → q.noted s r ≡ p.noted s r + tally s r made
