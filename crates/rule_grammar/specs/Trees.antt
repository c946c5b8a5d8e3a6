-- Trees of the grammar's rules. Redundant brackets stand in them, and what groups to the left stands so.
use Rattle.std.specs.Prelude.{ℕ, List}
use Rattle.event_model.specs.declared.operators.Op.{Op}
use Rattle.rule_ast.specs.declared.conditions.Cmp.{Cmp}

-- a term that is one word: digits; `-` and digits; `-` and the limit of numbers; a name; a text
pub data Literal : Type 0 where
  Digits : ℕ → Literal
  Minus : ℕ → Literal
  Least : Literal
  Symbol : List ℕ → Literal
  Quoted : List ℕ → Literal

-- a term, where other things, such as variables, may stand for terms; arguments: term { , term }
mutual
  pub data Term (W : Type 0) : Type 0 where
    Leaf : W → Term W
    Lone : Literal → Term W
    Compound : List ℕ → Arguments W → Term W

  pub data Arguments (W : Type 0) : Type 0 where
    First : Term W → Arguments W
    Next : Arguments W → Term W → Arguments W

-- what may stand for a term in an atom of a pattern: a variable, or `_`
pub data Wanted : Type 0 where
  Variable : List ℕ → Wanted
  Anything : Wanted

-- head term: variable, or term without variables
pub data HeadTerm : Type 0 where
  Leading : List ℕ → HeadTerm
  Fixed : Term ⊥ → HeadTerm

pub data HeadTerms : Type 0 where
  FirstTerm : HeadTerm → HeadTerms
  NextTerm : HeadTerms → HeadTerm → HeadTerms

-- head: name, or name ( head terms )
pub data Heading : Type 0 where
  Plainly : List ℕ → Heading
  Applied : List ℕ → HeadTerms → Heading

pub data Adding : Type 0 where
  Added : Adding
  Taken : Adding

pub data Scaling : Type 0 where
  Times : Scaling
  Over : Scaling
  Modulo : Scaling

-- condition: all { | all }; all: negation { & negation }; negation: ! negation, or comparison;
-- comparison: sum [ comparing sum ]; sum: product { + or - product }; product: unit { * or / or % unit };
-- unit: term without `_`, or ( condition )
mutual
  pub data Condition : Type 0 where
    OneAll : All → Condition
    MoreAll : Condition → All → Condition

  pub data All : Type 0 where
    OneNegation : Negation → All
    MoreNegation : All → Negation → All

  pub data Negation : Type 0 where
    Negated : Negation → Negation
    Compared : Comparison → Negation

  pub data Comparison : Type 0 where
    OneSum : Sum → Comparison
    TwoSums : Sum → Cmp → Sum → Comparison

  pub data Sum : Type 0 where
    OneProduct : Product → Sum
    MoreProduct : Sum → Adding → Product → Sum

  pub data Product : Type 0 where
    OneUnit : Unit' → Product
    MoreUnit : Product → Scaling → Unit' → Product

  pub data Unit' : Type 0 where
    Value : Term (List ℕ) → Unit'
    Grouped : Condition → Unit'

-- what stands between two parts: an operator of spans, or OR
pub data Joint : Type 0 where
  Joined : Op → Joint
  Otherwise : Joint

-- pattern: chain { WHERE condition }; chain: part { joint part };
-- part: atom; NOT ( pattern ) .[ pattern , pattern ]; or ( pattern ) { bound }
mutual
  pub data Tree : Type 0 where
    Plain : Chain → Tree
    Filtered : Tree → Condition → Tree

  pub data Chain : Type 0 where
    One : Part → Chain
    More : Chain → Joint → Part → Chain

  pub data Part : Type 0 where
    Bare : List ℕ → Part
    Atom : List ℕ → Arguments Wanted → Part
    Without : (inner before after : Tree) → Part
    Rounded : Round → Part

  pub data Round : Type 0 where
    Bracketed : Tree → Round
    Exactly : Round → ℕ → Round
    AtMost : Round → ℕ → Round

-- item: name / number; items: item { , item }
pub data Items : Type 0 where
  OneItem : List ℕ → ℕ → Items
  MoreItem : Items → List ℕ → ℕ → Items

-- statement: head <- pattern end; or show items end
pub data Statement : Type 0 where
  Clause : Heading → Tree → Statement
  Shown : Items → Statement

-- file: { statement }
pub data Statements : Type 0 where
  Empty : Statements
  Then : Statements → Statement → Statements
