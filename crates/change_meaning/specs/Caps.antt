-- Which rows of each step are kept at a bound, and how often they are supported.
use Rattle.std.specs.Prelude.{ℕ, ◌≡◌, Bool, true, nat_le, if◌then◌else◌, Option, Some, None, List, [], get_or}
use Rattle.std.specs.List.{filter}
use Rattle.event_model.specs.declared.events.Event.{Event}
use Rattle.ev_bind.specs.declared.rows.Row.{Row}
use Rattle.rule_ast.specs.PlainPlans.{PlainStep}
use Rattle.pattern_meaning.specs.RuleRows.{ticks}
use Rattle.step_meaning.specs.StepRows.{step_at, supports, step_rows, step_supports, times}
use Rattle.row_changes.specs.declared.caps.CapList.{CapList}
use Rattle.row_changes.specs.declared.caps.Reach.{Reach}
use Rattle.row_changes.specs.declared.caps.Reach.TheVariants.{Free}
use Rattle.row_changes.specs.Kept.{under, kept}

-- the cap and the reach of each step
pub record PlainCaps : Type 0 where
  pub cap : ℕ → Option ℕ
  pub reach : ℕ → Reach

-- no limits
abbrev pub no_caps : PlainCaps
no_caps = record { cap = λ i. None; reach = λ i. Free }

-- those of a list; there is no limit past its end
abbrev pub caps_in : CapList → PlainCaps
caps_in list = record { cap = λ i. get_or list.cap.items i None; reach = λ i. get_or list.reach.items i Free }

-- the row takes no more ticks than the cap
abbrev pub fits : Option ℕ → Row → Bool
fits cap r = under cap (ticks r)

-- a row, where it fits
abbrev pub fitting : Option ℕ → Option Row → Option Row
fitting cap None = None
fitting cap (Some r) = if fits cap r then Some r else None

-- the row ends at the bound or later
abbrev pub is_late : ℕ → Row → Bool
is_late b r = nat_le b r.span.end

-- whether a row of step i is kept at the bound
abbrev pub keeps : PlainCaps → ℕ → ℕ → Row → Bool
keeps caps b i r = kept (caps.cap i) (caps.reach i) b r.span

-- the kept rows of step i
abbrev pub kept_rows : List PlainStep → PlainCaps → ℕ → List Event → ℕ → List Row
kept_rows steps caps b events i = filter (keeps caps b i) (step_rows steps i events)

abbrev pub supports_or_none : List PlainStep → List Event → Option PlainStep → List Row
supports_or_none steps events None = []
supports_or_none steps events (Some s) = step_supports steps s events

-- the supports of the rows of step i, kept or not; there are none past the last step
abbrev pub supports_at : List PlainStep → List Event → ℕ → List Row
supports_at steps events i = supports_or_none steps events (step_at steps i)

-- how many supports a kept row of step i has; a row that isn't kept has none
abbrev pub kept_count : List PlainStep → PlainCaps → ℕ → List Event → ℕ → Row → ℕ
kept_count steps caps b events i r = if keeps caps b i r then times r (supports_at steps events i) else 0

-- no support is lost of a row that fits and ends at the bound or later: it has as many by the kept rows
abbrev pub NoLossOver : List PlainStep → PlainCaps → ℕ → List Event → Type 0
NoLossOver steps caps b events = (i : ℕ) (s : PlainStep) → step_at steps i ≡ Some s → (r : Row)
    → fits (caps.cap i) r ≡ true → is_late b r ≡ true
    → times r (step_supports steps s events) ≡ times r (supports events (kept_rows steps caps b events) s)
