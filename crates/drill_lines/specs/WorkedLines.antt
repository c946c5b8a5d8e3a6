-- The lines of a small rule file, so that the definition can be compared to what one expects.
use Rattle.std.specs.Prelude.{◌≡◌, refl, ℕ, List, [], ◌∷◌, codes, pos}
use Rattle.event_model.specs.Spans.{instant}
use Rattle.event_model.specs.declared.operators.Op.TheVariants.{Seq}
use Rattle.event_model.specs.declared.terms.Term.TheVariants.{Num}
use Rattle.event_model.specs.declared.terms.Pat.TheVariants.{Any}
use Rattle.event_model.specs.declared.atoms.NameArity.{NameArity}
use Rattle.event_model.specs.declared.events.Event.{Event}
use Rattle.rule_ast.specs.Trees.{PlainStatement, Atom, Both, Clause}
use Rattle.drill_lines.specs.Drill.{Comes, Back, drilled}
use Rattle.drill_lines.specs.OpenNames.{open_names}

-- `ab <- a(_) SEQ b(_).`
abbrev ab : List PlainStatement
ab =
    Clause (record {
      head = record { name = codes "ab"; args = [] };
      body = Both Seq (Atom (record { name = codes "a"; args = Any ∷ [] })) (Atom (record { name = codes "b"; args = Any ∷ [] }));
      vars = [];
    }) ∷ []

abbrev a_and_b : List NameArity
a_and_b = record { name = codes "a"; arity = 1 } ∷ record { name = codes "b"; arity = 1 } ∷ []

abbrev event : List ℕ → ℕ → ℕ → Event
event name time argument = record { span = instant time; atom = record { name = name; args = Num (pos argument) ∷ [] } }

-- its events are of `a(_)` and `b(_)`
names : open_names ab ≡ a_and_b
names = refl

-- `+ 2 b(4)`, `+ 9 b(4)`, `- 2 b(4)` and `+ 8 a(1)`
four_lines : (drilled a_and_b 1 4).lines
    ≡ Comes (event (codes "b") 2 4) ∷ Comes (event (codes "b") 9 4) ∷ Back 1 (event (codes "b") 2 4) ∷ Comes (event (codes "a") 8 1) ∷ []
four_lines = refl
