-- How made lines are written.
use Rattle.std.specs.Prelude.{ℕ, List, [], ◌∷◌, ◌++◌, decimal}
use Rattle.std.specs.List.{flat_map}
use Rattle.event_model.specs.Bytes.{feed, space, bang, plus, minus}
use Rattle.event_model.specs.Events.{time_of}
use Rattle.event_model.specs.Text.{atom_text}
use Rattle.event_model.specs.declared.atoms.NameArity.{NameArity}
use Rattle.event_model.specs.declared.events.Event.{Event}
use Rattle.drill_lines.specs.Drill.{Line, Comes, Back, Rises, drilled}

-- what stands behind the sign: the time once, and the atom
abbrev pub event_text : Event → List ℕ
event_text e = space ∷ decimal (time_of e) ++ space ∷ atom_text e.atom ++ feed ∷ []

abbrev pub line_text : Line → List ℕ
line_text (Comes e) = plus ∷ event_text e
line_text (Back j e) = minus ∷ event_text e
line_text (Rises t) = bang ∷ space ∷ decimal t ++ feed ∷ []

-- so many lines, from a seed, where events are of these names
abbrev pub drill_text : List NameArity → ℕ → ℕ → List ℕ
drill_text kinds seed n = flat_map line_text (drilled kinds seed n).lines
