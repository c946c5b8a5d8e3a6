-- Changes of events through a small plan, computed: the visits of its Minus and of its join, and what they give.
use Rattle.std.specs.Prelude.{ℕ, ◌≡◌, refl, Some, None, List, [], ◌∷◌}
use Rattle.event_model.specs.Spans.{instant}
use Rattle.event_model.specs.declared.events.Event.{Event}
use Rattle.event_model.specs.declared.operators.Op.TheVariants.{Seq}
use Rattle.event_model.specs.declared.atoms.PatAtom.{PatAtom}
use Rattle.event_model.specs.declared.atoms.NameArity.{NameArity}
use Rattle.event_changes.specs.Events.{event_changes}
use Rattle.event_changes.specs.declared.changes.Progress.TheVariants.{More, Done}
use Rattle.event_changes.specs.declared.changes.Sign.TheVariants as sign
use Rattle.ev_bind.specs.declared.rows.Row.{Row}
use Rattle.rule_ast.specs.PlainPlans.{PlainStep, Named, Leaf, Join, Minus, Head}
use Rattle.rule_ast.specs.Vars.{is_in}
use Rattle.pattern_meaning.specs.PatternRows.{found}
use Rattle.step_meaning.specs.PlanOf.{slots_that}
use Rattle.change_meaning.specs.Caps.{no_caps}
use Rattle.change_meaning.specs.Courses.{Course, course_of, given, visits}
use Rattle.change_meaning.specs.Keys.{slots_at}
use Rattle.change_meaning.specs.Turns.{answers}

-- a word is one letter, by its number: a is 97
abbrev word : ℕ → PatAtom
word c = record { name = c ∷ []; args = [] }

abbrev name : ℕ → NameArity
name c = record { name = c ∷ []; arity = 0 }

-- the steps of n <- NOT(c).[a,b].
abbrev steps : List PlainStep
steps =
    Named (name 97) [] ∷ (Named (name 98) [] ∷ (Named (name 99) [] ∷ (Leaf 0 (word 97) ∷ (Leaf 1 (word 98)
    ∷ (Join Seq 3 4 ∷ (Leaf 2 (word 99) ∷ (Minus 5 3 6 4 ∷ (Head 7 (word 110) ∷ (Named (name 110) (8 ∷ []) ∷ [])))))))))

abbrev event : ℕ → ℕ → Event
event time c = record { span = instant time; atom = record { name = c ∷ []; args = [] } }

abbrev on : ℕ → ℕ → Row
on start end = found [] (record { start = start; end = end })

-- a at 1, b at 3 and b at 5
abbrev without_c : List Event
without_c = event 1 97 ∷ (event 3 98 ∷ (event 5 98 ∷ []))

-- and c at 4
abbrev with_c : List Event
with_c = event 1 97 ∷ (event 3 98 ∷ (event 5 98 ∷ (event 4 99 ∷ [])))

-- and a at 2
abbrev with_a : List Event
with_a = event 1 97 ∷ (event 2 97 ∷ (event 3 98 ∷ (event 5 98 ∷ [])))

abbrev comes : Course
comes = course_of steps no_caps 0 without_c with_c

-- c comes: one visit of its own, one of the row up to 3, which ends before it, and one of the row up to 5, which goes
c_tests : visits None (slots_at steps) (Minus 5 3 6 4) comes ≡ None ∷ (None ∷ (Some (sign.Minus, on 1 5) ∷ []))
unfolding slots_that is_in
c_tests = refl

c_blocks : given None (slots_at steps) (Minus 5 3 6 4) comes (event_changes without_c with_c) ≡ Some (sign.Minus, on 1 5) ∷ []
unfolding slots_that is_in
c_blocks = refl

-- a cap of 3 ticks cuts it off
c_cut : visits (Some 3) (slots_at steps) (Minus 5 3 6 4) comes ≡ None ∷ (None ∷ (None ∷ []))
unfolding slots_that is_in
c_cut = refl

-- c goes: the row up to 5 comes back
c_restores : given None (slots_at steps) (Minus 5 3 6 4) (course_of steps no_caps 0 with_c without_c) (event_changes with_c without_c)
    ≡ Some (sign.Plus, on 1 5) ∷ []
unfolding slots_that is_in
c_restores = refl

-- a comes: one visit of its own, and one for each b behind it
a_joins : visits None (slots_at steps) (Join Seq 3 4) (course_of steps no_caps 0 without_c with_a)
    ≡ None ∷ (Some (sign.Plus, on 2 3) ∷ (Some (sign.Plus, on 2 5) ∷ []))
unfolding slots_that is_in
a_joins = refl

-- three visits, by turns of one unit
three_turns : answers 3 (1 ∷ (1 ∷ (1 ∷ []))) ≡ More ∷ (More ∷ (Done ∷ []))
three_turns = refl
