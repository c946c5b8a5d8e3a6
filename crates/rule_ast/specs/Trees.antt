-- Rules as plain data: what definitions and proofs speak of, without boxes and growing parts.
use Rattle.std.specs.Prelude.{ℕ, List}
use Rattle.event_model.specs.declared.operators.Op.{Op}
use Rattle.event_model.specs.declared.terms.Pat.{Pat}
use Rattle.event_model.specs.declared.atoms.PatAtom.{PatAtom}
use Rattle.event_model.specs.declared.atoms.NameArity.{NameArity}
use Rattle.rule_ast.specs.declared.conditions.Calc.{Calc}
use Rattle.rule_ast.specs.declared.conditions.Cmp.{Cmp}

pub data PlainCond : Type 0 where
  Value : Pat → PlainCond
  Calculate : Calc → PlainCond → PlainCond → PlainCond
  Compare : Cmp → PlainCond → PlainCond → PlainCond
  AndAlso : PlainCond → PlainCond → PlainCond
  OrElse : PlainCond → PlainCond → PlainCond
  Negate : PlainCond → PlainCond

pub data PlainPattern : Type 0 where
  Atom : PatAtom → PlainPattern
  Both : Op → PlainPattern → PlainPattern → PlainPattern
  Either : PlainPattern → PlainPattern → PlainPattern
  Where : PlainPattern → PlainCond → PlainPattern
  Exact : PlainPattern → ℕ → PlainPattern
  Within : PlainPattern → ℕ → PlainPattern
  Not : (inner before after : PlainPattern) → PlainPattern

pub record PlainRule : Type 0 where
  pub head : PatAtom
  pub body : PlainPattern
  pub vars : List (List ℕ)

pub data PlainStatement : Type 0 where
  Clause : PlainRule → PlainStatement
  Show : List NameArity → PlainStatement
