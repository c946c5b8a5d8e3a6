-- Which variables the rows of patterns bind.
use Rattle.std.specs.Prelude.{ℕ, ◌≡◌, true, is_some, List, ◌++◌, length}
use Rattle.std.specs.List.{list_all}
use Rattle.ordered_lists.specs.Lists.{Each}
use Rattle.event_model.specs.declared.operators.Op.TheVariants.{Seq}
use Rattle.event_model.specs.declared.atoms.NameArity.{NameArity}
use Rattle.ev_bind.specs.Bindings.{value_at}
use Rattle.ev_bind.specs.declared.rows.Row.{Row}
use Rattle.rule_ast.specs.Trees.{PlainPattern, Atom, Both, Either, Where, Exact, Within, Not, PlainRule}
use Rattle.rule_ast.specs.Vars.{vars, is_in}
use Rattle.term_eval.specs.Values.{binds, binds_argument}
use Rattle.pattern_meaning.specs.PatternRows.{numbered, args_of}
use Rattle.pattern_meaning.specs.RuleRows.{joined_rows, rows}

-- the slots of the binding are these
abbrev pub BindsExactly : List ℕ → Row → Type 0
BindsExactly slots row = (slot : ℕ) → is_some (value_at row.binding slot) ≡ is_in slot slots

-- each row of the pattern binds exactly the pattern's variables
abbrev pub AreRowsBound : (NameArity → List Row) → PlainPattern → Type 0
AreRowsBound named p = Each (BindsExactly (vars p)) (rows named p)

-- each condition is tested on rows that bind all of its variables
abbrev pub AreConditionsBound : (NameArity → List Row) → PlainPattern → Type 0
AreConditionsBound named (Atom a) = Unit {0}
AreConditionsBound named (Both op l r) = AreConditionsBound named l × AreConditionsBound named r
AreConditionsBound named (Either l r) = AreConditionsBound named l × AreConditionsBound named r
AreConditionsBound named (Where p c) = AreConditionsBound named p × Each (λ row. binds row.binding c ≡ true) (rows named p)
AreConditionsBound named (Exact p q) = AreConditionsBound named p
AreConditionsBound named (Within p q) = AreConditionsBound named p
AreConditionsBound named (Not i b a) =
    AreConditionsBound named i × AreConditionsBound named b × AreConditionsBound named a

-- the chains that a NOT takes away bind no variable besides those of its start and end patterns
abbrev pub AreChainsBound : (NameArity → List Row) → PlainPattern → Type 0
AreChainsBound named (Atom a) = Unit {0}
AreChainsBound named (Both op l r) = AreChainsBound named l × AreChainsBound named r
AreChainsBound named (Either l r) = AreChainsBound named l × AreChainsBound named r
AreChainsBound named (Where p c) = AreChainsBound named p
AreChainsBound named (Exact p q) = AreChainsBound named p
AreChainsBound named (Within p q) = AreChainsBound named p
AreChainsBound named (Not i b a) =
    AreChainsBound named i
    × AreChainsBound named b
    × AreChainsBound named a
    × Each (BindsExactly (vars b ++ vars a)) (joined_rows Seq (joined_rows Seq (rows named b) (rows named i)) (rows named a))

-- each row of the body binds all variables of the head
abbrev pub IsHeadBoundBy : (NameArity → List Row) → PlainRule → Type 0
IsHeadBoundBy named r = Each (λ row. list_all (binds_argument row.binding) r.head.args ≡ true) (rows named r.body)

-- where the names have these rows, no condition and no head of the rule reads a variable that a row doesn't bind
pub record IsBoundBy (named : NameArity → List Row) (r : PlainRule) : Type 0 where
  pub body : AreRowsBound named r.body
  pub conditions : AreConditionsBound named r.body
  pub chains : AreChainsBound named r.body
  pub head : IsHeadBoundBy named r

-- a row of a name: as many arguments as the name has, at the slots from 0 on
abbrev pub IsRowOfName : NameArity → Row → Type 0
IsRowOfName n row = (row.binding ≡ numbered 0 (args_of row)) × (length (args_of row) ≡ n.arity)
