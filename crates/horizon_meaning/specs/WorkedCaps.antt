-- Caps and reaches of small plans, computed. A word is one letter, by its number: a is 97.
use Rattle.std.specs.Prelude.{ℕ, ◌≡◌, refl, Some, None, List, [], ◌∷◌}
use Rattle.event_model.specs.declared.operators.Op.TheVariants.{Seq, Meets}
use Rattle.event_model.specs.declared.atoms.PatAtom.{PatAtom}
use Rattle.rule_ast.specs.Trees.{PlainPattern, PlainStatement, Clause}
use Rattle.rule_ast.specs.Trees as tree
use Rattle.rule_ast.specs.Vars.{is_in}
use Rattle.row_changes.specs.declared.caps.Reach.{Reach}
use Rattle.row_changes.specs.declared.caps.Reach.TheVariants.{NoUser, Limit, Free}
use Rattle.rule_check.specs.Cycles.{rank_of}
use Rattle.step_meaning.specs.PlanOf.{plan_of, slots_that}
use Rattle.horizon_meaning.specs.Lengths.{Length}
use Rattle.horizon_meaning.specs.Caps.{Hold, holds}

abbrev word : ℕ → PatAtom
word c = record { name = c ∷ []; args = [] }

abbrev rule : ℕ → PlainPattern → List PlainStatement
rule c body = Clause (record { head = word c; body = body; vars = [] }) ∷ []

abbrev hold : Length → Reach → Hold
hold cap reach = record { cap = cap; reach = reach }

-- w <- (a SEQ b) WITHIN 4.
abbrev in_four : List PlainStatement
in_four = rule 119 (tree.Within (tree.Both Seq (tree.Atom (word 97)) (tree.Atom (word 98))) 4)

-- names and leaves of a and b, Join, Within, Head, name of w
in_four_holds : holds (plan_of in_four)
    ≡ hold (Some 4) NoUser ∷ hold (Some 4) NoUser ∷ hold (Some 4) (Limit 4) ∷ hold (Some 4) (Limit 4) ∷ hold (Some 4) NoUser
    ∷ hold (Some 4) NoUser ∷ hold (Some 4) NoUser ∷ hold None NoUser ∷ []
unfolding rank_of slots_that is_in
in_four_holds = refl

-- m <- (a WITHIN 3) MEETS (b WITHIN 5).
abbrev meeting : List PlainStatement
meeting = rule 109 (tree.Both Meets (tree.Within (tree.Atom (word 97)) 3) (tree.Within (tree.Atom (word 98)) 5))

-- names of a and b, Leaf and Within of a, Leaf and Within of b, Join, Head, name of m: the join is no longer than 8
meeting_holds : holds (plan_of meeting)
    ≡ hold (Some 3) NoUser ∷ hold (Some 5) NoUser ∷ hold (Some 3) NoUser ∷ hold (Some 3) (Limit 8) ∷ hold (Some 5) NoUser
    ∷ hold (Some 5) (Limit 8) ∷ hold (Some 8) NoUser ∷ hold (Some 8) NoUser ∷ hold None NoUser ∷ []
unfolding rank_of slots_that is_in
meeting_holds = refl

-- s <- a SEQ b. Nothing can be let go but events that nothing looks for.
abbrev unbounded : List PlainStatement
unbounded = rule 115 (tree.Both Seq (tree.Atom (word 97)) (tree.Atom (word 98)))

unbounded_holds : holds (plan_of unbounded)
    ≡ hold None NoUser ∷ hold None NoUser ∷ hold None Free ∷ hold None Free ∷ hold None NoUser ∷ hold None NoUser
    ∷ hold None NoUser ∷ []
unfolding rank_of slots_that is_in
unbounded_holds = refl
