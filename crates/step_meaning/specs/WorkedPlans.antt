-- Plans of small rule files, computed. A word is one letter, by its number: a is 97.
use Rattle.std.specs.Prelude.{ℕ, ◌≡◌, refl, List, [], ◌∷◌, length}
use Rattle.event_model.specs.Spans.{instant}
use Rattle.event_model.specs.declared.events.Event.{Event}
use Rattle.event_model.specs.declared.operators.Op.TheVariants.{Seq}
use Rattle.event_model.specs.declared.operators.Edge.TheVariants.{Start, End}
use Rattle.event_model.specs.declared.atoms.PatAtom.{PatAtom}
use Rattle.event_model.specs.declared.atoms.NameArity.{NameArity}
use Rattle.ev_bind.specs.declared.rows.Row.{Row}
use Rattle.rule_ast.specs.Trees.{PlainPattern, Atom, Both, Not, PlainStatement, Clause}
use Rattle.rule_ast.specs.PlainPlans.{Named, Leaf, Join, Minus, Head, PlainPlan}
use Rattle.rule_ast.specs.Vars.{is_in}
use Rattle.rule_check.specs.Cycles.{rank_of}
use Rattle.pattern_meaning.specs.PatternRows.{found}
use Rattle.step_meaning.specs.StepRows.{step_rows, count, shown_detections}
use Rattle.step_meaning.specs.PlanOf.{index, slots_that, plan_steps, plan_of}

abbrev word : ℕ → PatAtom
word c = record { name = c ∷ []; args = [] }

abbrev name : ℕ → NameArity
name c = record { name = c ∷ []; arity = 0 }

abbrev rule : ℕ → PlainPattern → PlainStatement
rule c body = Clause (record { head = word c; body = body; vars = [] })

-- n <- NOT(c).[a,b].
abbrev without_c : List PlainStatement
without_c = rule 110 (Not (Atom (word 99)) (Atom (word 97)) (Atom (word 98))) ∷ []

abbrev plan_without_c : PlainPlan
plan_without_c = record {
  steps =
      Named (name 97) [] ∷ (Named (name 98) [] ∷ (Named (name 99) [] ∷ (Leaf 0 (word 97) ∷ (Leaf 1 (word 98)
      ∷ (Join Seq 3 4 ∷ (Leaf 2 (word 99) ∷ (Minus 5 3 6 4 ∷ (Head 7 (word 110) ∷ (Named (name 110) (8 ∷ []) ∷ [])))))))));
  indexes =
      index 3 [] End ∷ (index 4 [] Start ∷ (index 5 [] Start ∷ (index 5 [] End
      ∷ (index 3 [] Start ∷ (index 6 [] Start ∷ (index 4 [] End ∷ []))))));
  shown = 9 ∷ [];
}

-- ten steps, of which the Minus has joined 5, before 3, inner 6 and after 4
ten_steps : plan_of without_c ≡ plan_without_c
unfolding rank_of slots_that is_in
ten_steps = refl

-- ab <- a SEQ b.
seven_steps : length (plan_steps (rule 100 (Both Seq (Atom (word 97)) (Atom (word 98))) ∷ [])) ≡ 7
unfolding rank_of
seven_steps = refl

abbrev event : ℕ → ℕ → Event
event time c = record { span = instant time; atom = record { name = c ∷ []; args = [] } }

abbrev on : ℕ → ℕ → Row
on start end = found [] (record { start = start; end = end })

-- a at 1, b at 3, b at 5, c at 4: the Minus keeps the row up to 3 alone
minus_rows : step_rows (plan_steps without_c) 7 (event 1 97 ∷ (event 3 98 ∷ (event 4 99 ∷ (event 5 98 ∷ [])))) ≡ on 1 3 ∷ []
unfolding rank_of
minus_rows = refl

-- and the shown step gives it out
shown : shown_detections plan_without_c (event 1 97 ∷ (event 3 98 ∷ (event 4 99 ∷ (event 5 98 ∷ []))))
    ≡ record { span = record { start = 1; end = 3 }; atom = record { name = 110 ∷ []; args = [] } } ∷ []
shown = refl

-- e <- a. e <- b. Where both are present at 4, and e itself, its row has three supports
abbrev either_way : List PlainStatement
either_way = rule 101 (Atom (word 97)) ∷ (rule 101 (Atom (word 98)) ∷ [])

three_supports :
    count (plan_steps either_way) (Named (name 101) (3 ∷ (5 ∷ []))) (on 4 4) (event 4 97 ∷ (event 4 98 ∷ (event 4 101 ∷ []))) ≡ 3
unfolding rank_of
three_supports = refl
