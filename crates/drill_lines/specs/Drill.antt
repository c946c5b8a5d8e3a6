-- Lines made of a number.
use Rattle.std.specs.Prelude.{ℕ, zero, suc, ◌+◌, ◌-◌, ◌*◌, ◌%◌, ◌==◌, Bool, false, cond, pos, List, [], ◌∷◌, ◌++◌, Option, Some, None, slice_get, length, get_or}
use Rattle.std.specs.List.{list_any}
use Rattle.event_model.specs.Spans.{instant}
use Rattle.event_model.specs.declared.terms.Term.{Term}
use Rattle.event_model.specs.declared.terms.Term.TheVariants.{Num}
use Rattle.event_model.specs.declared.atoms.NameArity.{NameArity}
use Rattle.event_model.specs.declared.events.Event.{Event}
use Rattle.drill_lines.specs.declared.draws.TheConstants.{STATES}
use Rattle.drill_lines.specs.declared.lines.TheConstants.{REACH}

-- the state after a draw
abbrev pub drawn : ℕ → ℕ
drawn x = (75 * x + 74) % STATES

-- a line: an event that comes, the event of line j that is retracted, or a time that the bound is raised to
pub data Line : Type 0 where
  Comes : Event → Line
  Back : ℕ → Event → Line
  Rises : ℕ → Line

-- ---- events

-- arguments, and the state after their draws
pub record Arguments : Type 0 where
  pub args : List Term
  pub state : ℕ

abbrev pub one_number : Arguments → Arguments
one_number a = record { args = a.args ++ Num (pos (drawn a.state % 5)) ∷ []; state = drawn a.state }

-- so many numbers from 0 to 4, drawn from the left
abbrev pub numbers : ℕ → ℕ → Arguments
numbers zero x = record { args = []; state = x }
numbers (suc n) x = one_number (numbers n x)

-- an event, and the state after its draws
pub record Happening : Type 0 where
  pub event : Event
  pub state : ℕ

abbrev pub event_of : NameArity → ℕ → ℕ → Arguments → Happening
event_of kind number drift a = record {
  event = record { span = instant (number + drift); atom = record { name = kind.name; args = a.args } };
  state = a.state;
}

-- an event of this kind: its time is drawn, then its arguments
abbrev pub event_after : NameArity → ℕ → ℕ → Happening
event_after kind number x = event_of kind number (x % 8) (numbers kind.arity x)

-- the event of a line of this number: its kind is drawn, then its time, then its arguments
abbrev pub drawn_event : List NameArity → ℕ → ℕ → Happening
drawn_event kinds number x =
    event_after (get_or kinds (drawn x % length kinds) (record { name = []; arity = 0 })) number (drawn (drawn x))

-- ---- lines

-- a line, and the state after its draws
pub record Made : Type 0 where
  pub line : Line
  pub state : ℕ

abbrev pub comes : Happening → Made
comes h = record { line = Comes h.event; state = h.state }

-- the line that retracts the event of line j where there is one that can be retracted, else the line of an event
abbrev pub back_or_event : List NameArity → Option Event → ℕ → ℕ → ℕ → Made
back_or_event kinds (Some e) j number x = record { line = Back j e; state = x }
back_or_event kinds None j number x = comes (drawn_event kinds number x)

-- what the next line retracts, where this is the event that can be retracted of the line so many before the last: one draw in
-- eight chooses, by one draw more, one of the last lines
abbrev pub chosen : (ℕ → Option Event) → ℕ → Option Event
chosen opened x = cond (drawn x % 8 == 0) (opened (drawn (drawn x) % REACH)) None

-- the state after the choice
abbrev pub after_choice : ℕ → ℕ
after_choice x = cond (drawn x % 8 == 0) (drawn (drawn x)) (drawn x)

-- the line after so many lines
abbrev pub line_after : List NameArity → (ℕ → Option Event) → ℕ → ℕ → Made
line_after kinds opened count x = back_or_event kinds (chosen opened x) (count - drawn (drawn x) % REACH) (count + 1) (after_choice x)

abbrev pub event_that_comes : Option Line → Option Event
event_that_comes None = None
event_that_comes (Some (Comes e)) = Some e
event_that_comes (Some (Back j e)) = None
event_that_comes (Some (Rises t)) = None

abbrev pub is_back_of : ℕ → Line → Bool
is_back_of j (Comes e) = false
is_back_of j (Back i e) = i == j
is_back_of j (Rises t) = false

-- the event of line j, counted from 1, where it is one that comes and none of the lines retracts it
abbrev pub open_event : List Line → ℕ → Option Event
open_event lines zero = None
open_event lines (suc j) = cond (list_any (is_back_of (suc j)) lines) None (event_that_comes (slice_get lines j))

-- the line after these lines
abbrev pub next_line : List NameArity → List Line → ℕ → Made
next_line [] lines x = record { line = Rises (length lines + 1); state = x }
next_line (kind ∷ kinds) lines x = line_after (kind ∷ kinds) (λ back. open_event lines (length lines - back)) (length lines) x

-- lines, and the state after their draws
pub record Drilled : Type 0 where
  pub lines : List Line
  pub state : ℕ

abbrev pub with_line : List Line → Made → Drilled
with_line lines made = record { lines = lines ++ made.line ∷ []; state = made.state }

-- so many lines, from a seed
abbrev pub drilled : List NameArity → ℕ → ℕ → Drilled
drilled kinds seed zero = record { lines = []; state = seed % STATES }
drilled kinds seed (suc n) =
    with_line (drilled kinds seed n).lines (next_line kinds (drilled kinds seed n).lines (drilled kinds seed n).state)
