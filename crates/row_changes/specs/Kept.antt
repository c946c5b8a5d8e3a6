-- Which rows of a step may still count at a bound.
use Rattle.std.specs.Prelude.{ℕ, ◌-◌, Bool, true, false, ◌&&◌, ◌||◌, nat_le, Option, Some, None}
use Rattle.event_model.specs.Spans.{PlainSpan}
use Rattle.row_changes.specs.declared.caps.Reach.{Reach}
use Rattle.row_changes.specs.declared.caps.Reach.TheVariants.{NoUser, Limit, Free}

-- a length is no longer than a cap, where None is no limit
abbrev pub under : Option ℕ → ℕ → Bool
under None m = true
under (Some c) m = nat_le m c

-- a length is within a reach: none is where no step looks for partners
abbrev pub within : Reach → ℕ → Bool
within NoUser m = false
within (Limit c) m = nat_le m c
within Free m = true

-- a row is no longer than the cap, and it ends at the bound or later, or begins so late that a partner of a row within its reach
-- may still end there
abbrev pub kept : Option ℕ → Reach → ℕ → PlainSpan → Bool
kept cap reach b s = under cap (s.end - s.start) && (nat_le b s.end || within reach (b - s.start))
