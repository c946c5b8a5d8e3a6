-- Rows of small rule files with variables, computed. A word is one letter, by its number: a is 97.
use Rattle.std.specs.Prelude.{ℕ, ℤ, pos, ◌≡◌, [], ◌∷◌}
use Rattle.event_model.specs.Spans.{instant}
use Rattle.event_model.specs.declared.events.Event.{Event}
use Rattle.event_model.specs.TermOrder.{nums}
use Rattle.event_model.specs.declared.operators.Op.TheVariants.{Seq, And}
use Rattle.event_model.specs.declared.terms.Term.TheVariants as made
use Rattle.event_model.specs.declared.terms.Pat.TheVariants as pat
use Rattle.ev_bind.specs.Matching.{pairs_of-Var, instance-Var, instance-Num}
use Rattle.ev_bind.specs.declared.rows.Row.{Row}
use Rattle.rule_ast.specs.declared.conditions.Calc.TheVariants.{Mul}
use Rattle.rule_ast.specs.declared.conditions.Cmp.TheVariants.{Gt}
use Rattle.rule_ast.specs.Trees.{PlainPattern, Value, Calculate, Compare, Atom, Both, Where, PlainRule}
use Rattle.pattern_meaning.specs.PatternRows.{found}
use Rattle.pattern_meaning.specs.RuleRows.{name_rows}

abbrev leaf : ℕ → ℕ → PlainPattern
leaf c slot = Atom (record { name = c ∷ []; args = pat.Var slot ∷ [] })

abbrev rule : ℕ → PlainPattern → PlainRule
rule c body = record { head = record { name = c ∷ []; args = [] }; body = body; vars = (88 ∷ []) ∷ ((89 ∷ []) ∷ []) }

abbrev event : ℕ → ℕ → ℤ → Event
event time c n = record { span = instant time; atom = record { name = c ∷ []; args = made.Num n ∷ [] } }

abbrev on : ℕ → ℕ → Row
on start end = found [] (record { start = start; end = end })

-- d <- a(X) AND a(X). One event stands in both places.
in_both_places :
    name_rows (rule 100 (Both And (leaf 97 0) (leaf 97 0)) ∷ []) (event 4 97 (pos 1) ∷ []) (record { name = 100 ∷ []; arity = 0 })
    ≡ on 4 4 ∷ []
in_both_places = simp (pairs_of-Var, nums)

-- (a(X) SEQ b(Y)) WHERE X * Y > 0
abbrev product : PlainPattern
product =
    Where (Both Seq (leaf 97 0) (leaf 98 1)) (Compare Gt (Calculate Mul (Value (pat.Var 0)) (Value (pat.Var 1))) (Value (pat.Num (pos 0))))

positive_product :
    name_rows (rule 103 product ∷ []) (event 1 97 (pos 3) ∷ (event 2 98 (pos 2) ∷ [])) (record { name = 103 ∷ []; arity = 0 }) ≡ on 1 2 ∷ []
positive_product = simp (pairs_of-Var, instance-Var, instance-Num, nums, made.outs-Num)

-- a product that isn't an i64 is undefined, and so not greater than 0
undefined_product :
    name_rows (rule 103 product ∷ []) (event 1 97 (pos 9223372036854775807) ∷ (event 2 98 (pos 2) ∷ []))
    (record { name = 103 ∷ []; arity = 0 })
    ≡ []
undefined_product = simp (pairs_of-Var, instance-Var, instance-Num, nums, made.outs-Num)
