-- The rows of an atom, of an event, and of a head.
use Rattle.std.specs.Prelude.{ℕ, suc, Bool, ◌&&◌, ◌==◌, Option, Some, None, List, [], ◌∷◌, map, length}
use Rattle.std.specs.List.{filter}
use Rattle.std.specs.Str.{bytes_eq}
use Rattle.ordered_lists.specs.Lists.{some_of}
use Rattle.ordered_lists.specs.Canon.{canon}
use Rattle.event_model.specs.Spans.{PlainSpan}
use Rattle.event_model.specs.Events.{span_of}
use Rattle.event_model.specs.declared.events.Event.{Event}
use Rattle.event_model.specs.declared.terms.Term.{Term}
use Rattle.event_model.specs.declared.atoms.Atom.{Atom}
use Rattle.event_model.specs.declared.atoms.PatAtom.{PatAtom}
use Rattle.event_model.specs.declared.atoms.NameArity.{NameArity}
use Rattle.ev_bind.specs.Bindings.{Pairs}
use Rattle.ev_bind.specs.Matching.{match_of_args, instance}
use Rattle.ev_bind.specs.Rows.{row_cmp}
use Rattle.ev_bind.specs.declared.rows.Row.{Row}

-- ---- rows

-- a list of rows as the set of its rows
abbrev pub rows_of : List Row → List Row
rows_of = canon row_cmp

abbrev pub spanned : Option PlainSpan → Option Pairs → Option Row
spanned None b = None
spanned (Some s) None = None
spanned (Some s) (Some b) = Some (record { binding = b; span = s })

-- a row of a name has its i-th argument, counted from 0, at slot i
abbrev pub numbered : ℕ → List Term → Pairs
numbered k [] = []
numbered k (t ∷ ts) = (k, t) ∷ numbered (suc k) ts

abbrev pub found : List Term → PlainSpan → Row
found args span = record { binding = numbered 0 args; span = span }

abbrev pub args_of : Row → List Term
args_of r = map (λ p. p.1) r.binding

-- the row of an atom, from a row of its name
abbrev pub matched : PatAtom → Row → List Row
matched p r = some_of (spanned (Some r.span) (match_of_args p.args (args_of r)))

-- ---- names

-- the name that an atom of a rule is of: its word with the number of its arguments
abbrev pub name_of : PatAtom → NameArity
name_of p = record { name = p.name; arity = length p.args }

abbrev pub is_of : NameArity → Atom → Bool
is_of n a = bytes_eq n.name a.name && (n.arity == length a.args)

-- the events of a name, each on its span
abbrev pub events_of : List Event → NameArity → List Row
events_of events n = map (λ e. found e.atom.args (span_of e)) (filter (λ e. is_of n e.atom) events)

abbrev pub head_row : PatAtom → Row → Row
head_row head r = found (map (λ p. instance p r.binding) head.args) r.span
