-- The canonical tree of what a rule file says: brackets stand only where a tighter level is wanted.
use Rattle.std.specs.Prelude.{ℕ, ℤ, pos, negsuc, ◌+◌, ◌==◌, cond, List, [], map, get_or, Option, Some, None}
use Rattle.std.specs.List.{fold}
use Rattle.event_model.specs.declared.terms.Pat.{Pat, out-Pat}
use Rattle.event_model.specs.declared.terms.Pat.TheOpen.{Pat-F}
use Rattle.event_model.specs.declared.terms.Pat.TheOpen.Pat-F.{Var, Any, Num, Sym, Text, Comp}
use Rattle.event_model.specs.declared.terms.Pat.TheFolds.{fold-Pat}
use Rattle.event_model.specs.declared.atoms.PatAtom.{PatAtom}
use Rattle.event_model.specs.declared.atoms.NameArity.{NameArity}
use Rattle.rule_ast.specs.declared.conditions.Calc.{Calc}
use Rattle.rule_lexer.specs.declared.tokens.TheConstants.{NUMBER_LIMIT}
use Rattle.rule_ast.specs.declared.conditions.Calc.TheVariants.{Add, Sub, Mul, Div, Rem}
use Rattle.rule_ast.specs.declared.conditions.Cmp.{Cmp}
use Rattle.rule_ast.specs.Trees as plain
use Rattle.rule_ast.specs.Trees.{PlainCond, PlainPattern, PlainStatement}
use Rattle.rule_grammar.specs.Trees.{Literal, Literal.Digits, Literal.Minus, Literal.Least, Literal.Symbol, Literal.Quoted, Term, Term.Leaf, Term.Lone, Term.Compound, Arguments, Arguments.First, Arguments.Next}
use Rattle.rule_grammar.specs.Trees.{Wanted, Wanted.Variable, Wanted.Anything, HeadTerm, HeadTerm.Leading, HeadTerm.Fixed, HeadTerms, HeadTerms.FirstTerm, HeadTerms.NextTerm, Heading, Heading.Plainly, Heading.Applied}
use Rattle.rule_grammar.specs.Trees.{Adding, Adding.Added, Adding.Taken, Scaling, Scaling.Times, Scaling.Over, Scaling.Modulo, Joint, Joint.Joined, Joint.Otherwise}
use Rattle.rule_grammar.specs.Trees.{Condition, Condition.OneAll, Condition.MoreAll, All, All.OneNegation, All.MoreNegation, Negation, Negation.Negated, Negation.Compared, Comparison, Comparison.OneSum, Comparison.TwoSums, Sum, Sum.OneProduct, Sum.MoreProduct, Product, Product.OneUnit, Product.MoreUnit, Unit', Unit'.Value, Unit'.Grouped}
use Rattle.rule_grammar.specs.Trees.{Tree, Tree.Plain, Tree.Filtered, Chain, Chain.One, Chain.More, Part, Part.Bare, Part.Atom, Part.Without, Part.Rounded, Round, Round.Bracketed, Round.Exactly, Round.AtMost}
use Rattle.rule_grammar.specs.Trees.{Items, Items.OneItem, Items.MoreItem, Statement, Statement.Clause, Statement.Shown, Statements, Statements.Empty, Statements.Then}

-- ---- terms

-- a number: `-` stands before those below 0, and the least has a word of its own
abbrev pub number_form : ℤ → Literal
number_form (pos n) = Digits n
number_form (negsuc n) = cond (n + 1 == NUMBER_LIMIT) Least (Minus (n + 1))

-- one more argument behind those so far, if there are any
abbrev pub and_argument : {W : Type 0} → Option (Arguments W) → Term W → Option (Arguments W)
and_argument None a = Some (First a)
and_argument (Some as') a = Some (Next as' a)

abbrev pub arguments_form : {W : Type 0} → List (Term W) → Option (Arguments W)
arguments_form as' = fold and_argument None as'

-- a name without arguments is a symbol
abbrev pub compound_form : {W : Type 0} → List ℕ → Option (Arguments W) → Term W
compound_form name None = Lone (Symbol name)
compound_form name (Some as') = Compound name as'

abbrev pub term_step : {W : Type 0} → (ℕ → Term W) → Term W → Pat-F (Term W) → Term W
term_step slot_form any_form (Var slot) = slot_form slot
term_step slot_form any_form Any = any_form
term_step slot_form any_form (Num n) = Lone (number_form n)
term_step slot_form any_form (Sym name) = Lone (Symbol name)
term_step slot_form any_form (Text text) = Lone (Quoted text)
term_step slot_form any_form (Comp name args) = compound_form name (arguments_form args)

-- a term, by what slots and `_` become
unfoldable pub term_form : {W : Type 0} → (ℕ → Term W) → Term W → Pat → Term W
term_form {W} slot_form any_form = fold-Pat (Term W) (term_step slot_form any_form)

-- the name of a slot
abbrev pub name_at : List (List ℕ) → ℕ → List ℕ
name_at names slot = get_or names slot []

-- what stands where a tree has no such term
abbrev pub zero_term : {W : Type 0} → Term W
zero_term = Lone (Digits 0)

-- an argument of an atom, an operand of a condition, and a term without variables
abbrev pub argument_form : List (List ℕ) → Pat → Term Wanted
argument_form names p = term_form (λ slot. Leaf (Variable (name_at names slot))) (Leaf Anything) p

abbrev pub operand_form : List (List ℕ) → Pat → Term (List ℕ)
operand_form names p = term_form (λ slot. Leaf (name_at names slot)) zero_term p

abbrev pub ground_form : Pat → Term ⊥
ground_form p = term_form (λ slot. zero_term) zero_term p

-- ---- heads

abbrev pub head_term_step : List (List ℕ) → Pat → Pat-F Pat → HeadTerm
head_term_step names p (Var slot) = Leading (name_at names slot)
head_term_step names p x = Fixed (ground_form p)

abbrev pub head_term_form : List (List ℕ) → Pat → HeadTerm
head_term_form names p = head_term_step names p (out-Pat p)

abbrev pub and_head_term : Option HeadTerms → HeadTerm → Option HeadTerms
and_head_term None a = Some (FirstTerm a)
and_head_term (Some as') a = Some (NextTerm as' a)

abbrev pub applied_form : List ℕ → Option HeadTerms → Heading
applied_form name None = Plainly name
applied_form name (Some as') = Applied name as'

abbrev pub heading_form : List (List ℕ) → PatAtom → Heading
heading_form names a = applied_form a.name (fold and_head_term None (map (head_term_form names) a.args))

-- ---- conditions

-- a condition at the tightest level that it has without a bracket
pub data ConditionForm : Type 0 where
  OfUnit : Unit' → ConditionForm
  OfProduct : Product → ConditionForm
  OfSum : Sum → ConditionForm
  OfComparison : Comparison → ConditionForm
  OfNegation : Negation → ConditionForm
  OfAll : All → ConditionForm
  OfCondition : Condition → ConditionForm

-- it at each level: at a tighter one a bracket stands round it
abbrev pub as_condition : ConditionForm → Condition
as_condition (OfUnit u) = OneAll (OneNegation (Compared (OneSum (OneProduct (OneUnit u)))))
as_condition (OfProduct p) = OneAll (OneNegation (Compared (OneSum (OneProduct p))))
as_condition (OfSum s) = OneAll (OneNegation (Compared (OneSum s)))
as_condition (OfComparison c) = OneAll (OneNegation (Compared c))
as_condition (OfNegation n) = OneAll (OneNegation n)
as_condition (OfAll a) = OneAll a
as_condition (OfCondition c) = c

abbrev pub as_unit : ConditionForm → Unit'
as_unit (OfUnit u) = u
as_unit x = Grouped (as_condition x)

abbrev pub as_product : ConditionForm → Product
as_product (OfProduct p) = p
as_product x = OneUnit (as_unit x)

abbrev pub as_sum : ConditionForm → Sum
as_sum (OfSum s) = s
as_sum x = OneProduct (as_product x)

abbrev pub as_comparison : ConditionForm → Comparison
as_comparison (OfComparison c) = c
as_comparison x = OneSum (as_sum x)

abbrev pub as_negation : ConditionForm → Negation
as_negation (OfNegation n) = n
as_negation x = Compared (as_comparison x)

abbrev pub as_all : ConditionForm → All
as_all (OfAll a) = a
as_all x = OneNegation (as_negation x)

-- each kind of condition, of its operands
abbrev pub scaled : Scaling → ConditionForm → ConditionForm → ConditionForm
scaled op l r = OfProduct (MoreUnit (as_product l) op (as_unit r))

abbrev pub added : Adding → ConditionForm → ConditionForm → ConditionForm
added op l r = OfSum (MoreProduct (as_sum l) op (as_product r))

abbrev pub compared : Cmp → ConditionForm → ConditionForm → ConditionForm
compared cmp l r = OfComparison (TwoSums (as_sum l) cmp (as_sum r))

abbrev pub negated : ConditionForm → ConditionForm
negated c = OfNegation (Negated (as_negation c))

abbrev pub both : ConditionForm → ConditionForm → ConditionForm
both l r = OfAll (MoreNegation (as_all l) (as_negation r))

abbrev pub either : ConditionForm → ConditionForm → ConditionForm
either l r = OfCondition (MoreAll (as_condition l) (as_all r))

abbrev pub calculated : Calc → ConditionForm → ConditionForm → ConditionForm
calculated Add l r = added Added l r
calculated Sub l r = added Taken l r
calculated Mul l r = scaled Times l r
calculated Div l r = scaled Over l r
calculated Rem l r = scaled Modulo l r

abbrev pub condition_form : List (List ℕ) → PlainCond → ConditionForm
condition_form names (plain.Value p) = OfUnit (Value (operand_form names p))
condition_form names (plain.Calculate calc l r) = calculated calc (condition_form names l) (condition_form names r)
condition_form names (plain.Compare cmp l r) = compared cmp (condition_form names l) (condition_form names r)
condition_form names (plain.AndAlso l r) = both (condition_form names l) (condition_form names r)
condition_form names (plain.OrElse l r) = either (condition_form names l) (condition_form names r)
condition_form names (plain.Negate c) = negated (condition_form names c)

-- ---- patterns

-- a pattern at the tightest level that it has without a bracket
pub data PatternForm : Type 0 where
  OfRound : Round → PatternForm
  OfPart : Part → PatternForm
  OfChain : Chain → PatternForm
  OfTree : Tree → PatternForm

-- it at each level: at a tighter one a bracket stands round it
abbrev pub as_tree : PatternForm → Tree
as_tree (OfRound r) = Plain (One (Rounded r))
as_tree (OfPart p) = Plain (One p)
as_tree (OfChain c) = Plain c
as_tree (OfTree t) = t

abbrev pub as_round : PatternForm → Round
as_round (OfRound r) = r
as_round x = Bracketed (as_tree x)

abbrev pub as_part : PatternForm → Part
as_part (OfPart p) = p
as_part x = Rounded (as_round x)

abbrev pub as_chain : PatternForm → Chain
as_chain (OfChain c) = c
as_chain x = One (as_part x)

-- each kind of pattern, of its operands
abbrev pub joined : Joint → PatternForm → PatternForm → PatternForm
joined j l r = OfChain (More (as_chain l) j (as_part r))

abbrev pub filtered : PatternForm → ConditionForm → PatternForm
filtered p c = OfTree (Filtered (as_tree p) (as_condition c))

abbrev pub exactly : PatternForm → ℕ → PatternForm
exactly p q = OfRound (Exactly (as_round p) q)

abbrev pub at_most : PatternForm → ℕ → PatternForm
at_most p q = OfRound (AtMost (as_round p) q)

abbrev pub without : PatternForm → PatternForm → PatternForm → PatternForm
without i b a = OfPart (Without (as_tree i) (as_tree b) (as_tree a))

abbrev pub atom_part : List ℕ → Option (Arguments Wanted) → Part
atom_part name None = Bare name
atom_part name (Some as') = Atom name as'

abbrev pub atom_form : List (List ℕ) → PatAtom → Part
atom_form names a = atom_part a.name (arguments_form (map (argument_form names) a.args))

abbrev pub pattern_form : List (List ℕ) → PlainPattern → PatternForm
pattern_form names (plain.Atom a) = OfPart (atom_form names a)
pattern_form names (plain.Both op l r) = joined (Joined op) (pattern_form names l) (pattern_form names r)
pattern_form names (plain.Either l r) = joined Otherwise (pattern_form names l) (pattern_form names r)
pattern_form names (plain.Where p c) = filtered (pattern_form names p) (condition_form names c)
pattern_form names (plain.Exact p q) = exactly (pattern_form names p) q
pattern_form names (plain.Within p q) = at_most (pattern_form names p) q
pattern_form names (plain.Not i b a) = without (pattern_form names i) (pattern_form names b) (pattern_form names a)

-- ---- statements

abbrev pub and_item : Option Items → NameArity → Option Items
and_item None n = Some (OneItem n.name n.arity)
and_item (Some is) n = Some (MoreItem is n.name n.arity)

-- no tree shows nothing
abbrev pub shown_form : Option Items → Items
shown_form None = OneItem [] 0
shown_form (Some is) = is

abbrev pub statement_form : PlainStatement → Statement
statement_form (plain.Clause r) = Clause (heading_form r.vars r.head) (as_tree (pattern_form r.vars r.body))
statement_form (plain.Show names) = Shown (shown_form (fold and_item None names))

abbrev pub and_statement : Statements → PlainStatement → Statements
and_statement ss s = Then ss (statement_form s)

abbrev pub text_form : List PlainStatement → Statements
text_form statements = fold and_statement Empty statements
