-- What a text says: brackets are gone, and variables have their numbers in the order of first occurrence.
use Rattle.std.specs.Prelude.{ℕ, pos, ◌-ℤ◌, ◌+◌, cond, List, [], ◌∷◌, ◌++◌}
use Rattle.std.specs.Str.{bytes_eq}
use Rattle.event_model.specs.declared.terms.Pat.{Pat}
use Rattle.event_model.specs.declared.terms.Pat.TheVariants as pat
use Rattle.event_model.specs.declared.atoms.PatAtom.{PatAtom}
use Rattle.event_model.specs.declared.atoms.NameArity.{NameArity}
use Rattle.rule_ast.specs.declared.conditions.Calc.{Calc}
use Rattle.rule_ast.specs.declared.conditions.Calc.TheVariants.{Add, Sub, Mul, Div, Rem}
use Rattle.rule_ast.specs.Trees as plain
use Rattle.rule_ast.specs.Trees.{PlainCond, PlainPattern, PlainRule, PlainStatement}
use Rattle.rule_grammar.specs.Trees.{Literal, Literal.Digits, Literal.Minus, Literal.Least, Literal.Symbol, Literal.Quoted, Term, Term.Leaf, Term.Lone, Term.Compound, Arguments, Arguments.First, Arguments.Next}
use Rattle.rule_grammar.specs.Trees.{Wanted, Wanted.Variable, Wanted.Anything, HeadTerm, HeadTerm.Leading, HeadTerm.Fixed, HeadTerms, HeadTerms.FirstTerm, HeadTerms.NextTerm, Heading, Heading.Plainly, Heading.Applied}
use Rattle.rule_grammar.specs.Trees.{Adding, Adding.Added, Adding.Taken, Scaling, Scaling.Times, Scaling.Over, Scaling.Modulo, Joint, Joint.Joined, Joint.Otherwise}
use Rattle.rule_grammar.specs.Trees.{Condition, Condition.OneAll, Condition.MoreAll, All, All.OneNegation, All.MoreNegation, Negation, Negation.Negated, Negation.Compared, Comparison, Comparison.OneSum, Comparison.TwoSums, Sum, Sum.OneProduct, Sum.MoreProduct, Product, Product.OneUnit, Product.MoreUnit, Unit', Unit'.Value, Unit'.Grouped}
use Rattle.rule_grammar.specs.Trees.{Tree, Tree.Plain, Tree.Filtered, Chain, Chain.One, Chain.More, Part, Part.Bare, Part.Atom, Part.Without, Part.Rounded, Round, Round.Bracketed, Round.Exactly, Round.AtMost}
use Rattle.rule_grammar.specs.Trees.{Items, Items.OneItem, Items.MoreItem, Statement, Statement.Clause, Statement.Shown, Statements, Statements.Empty, Statements.Then}
use Rattle.rule_lexer.specs.declared.tokens.TheConstants.{NUMBER_LIMIT}
use Rattle.rule_grammar.specs.Marks.{nothing_counted, count_all}
use Rattle.rule_grammar.specs.Tokens.{statement}

-- the place of a name in a list, from 0
abbrev pub slot_of : List (List ℕ) → List ℕ → ℕ
slot_of [] name = 0
slot_of (n ∷ names) name = cond (bytes_eq name n) 0 (slot_of names name + 1)

abbrev pub variable : List (List ℕ) → List ℕ → Pat
variable names name = pat.Var (slot_of names name)

abbrev pub wanted_value : List (List ℕ) → Wanted → Pat
wanted_value names (Variable name) = variable names name
wanted_value names Anything = pat.Any

abbrev pub never_value : ⊥ → Pat
never_value h = absurd h

abbrev pub literal_value : Literal → Pat
literal_value (Digits n) = pat.Num (pos n)
literal_value (Minus n) = pat.Num (pos 0 -ℤ pos n)
literal_value Least = pat.Num (pos 0 -ℤ pos NUMBER_LIMIT)
literal_value (Symbol name) = pat.Sym name
literal_value (Quoted text) = pat.Text text

-- `leaf` is the value of what stands for a term
abbrev mutual
  pub term_value : {W : Type 0} → (W → Pat) → Term W → Pat
  term_value leaf (Leaf w) = leaf w
  term_value leaf (Lone l) = literal_value l
  term_value leaf (Compound name as') = pat.Comp name (arguments_value leaf as')

  pub arguments_value : {W : Type 0} → (W → Pat) → Arguments W → List Pat
  arguments_value leaf (First a) = term_value leaf a ∷ []
  arguments_value leaf (Next as' a) = arguments_value leaf as' ++ term_value leaf a ∷ []

abbrev pub head_term_value : List (List ℕ) → HeadTerm → Pat
head_term_value names (Leading name) = variable names name
head_term_value names (Fixed a) = term_value never_value a

abbrev pub head_terms_value : List (List ℕ) → HeadTerms → List Pat
head_terms_value names (FirstTerm a) = head_term_value names a ∷ []
head_terms_value names (NextTerm as' a) = head_terms_value names as' ++ head_term_value names a ∷ []

abbrev pub heading_value : List (List ℕ) → Heading → PatAtom
heading_value names (Plainly name) = record { name = name; args = [] }
heading_value names (Applied name as') = record { name = name; args = head_terms_value names as' }

abbrev pub adding_value : Adding → Calc
adding_value Added = Add
adding_value Taken = Sub

abbrev pub scaling_value : Scaling → Calc
scaling_value Times = Mul
scaling_value Over = Div
scaling_value Modulo = Rem

abbrev mutual
  pub condition_value : List (List ℕ) → Condition → PlainCond
  condition_value names (OneAll a) = all_value names a
  condition_value names (MoreAll c a) = plain.OrElse (condition_value names c) (all_value names a)

  pub all_value : List (List ℕ) → All → PlainCond
  all_value names (OneNegation n) = negation_value names n
  all_value names (MoreNegation a n) = plain.AndAlso (all_value names a) (negation_value names n)

  pub negation_value : List (List ℕ) → Negation → PlainCond
  negation_value names (Negated n) = plain.Negate (negation_value names n)
  negation_value names (Compared c) = comparison_value names c

  pub comparison_value : List (List ℕ) → Comparison → PlainCond
  comparison_value names (OneSum s) = sum_value names s
  comparison_value names (TwoSums l cmp r) = plain.Compare cmp (sum_value names l) (sum_value names r)

  pub sum_value : List (List ℕ) → Sum → PlainCond
  sum_value names (OneProduct p) = product_value names p
  sum_value names (MoreProduct s op p) = plain.Calculate (adding_value op) (sum_value names s) (product_value names p)

  pub product_value : List (List ℕ) → Product → PlainCond
  product_value names (OneUnit u) = unit_value names u
  product_value names (MoreUnit p op u) = plain.Calculate (scaling_value op) (product_value names p) (unit_value names u)

  pub unit_value : List (List ℕ) → Unit' → PlainCond
  unit_value names (Value a) = plain.Value (term_value (variable names) a)
  unit_value names (Grouped c) = condition_value names c

abbrev pub joined_value : Joint → PlainPattern → PlainPattern → PlainPattern
joined_value (Joined op) l r = plain.Both op l r
joined_value Otherwise l r = plain.Either l r

abbrev mutual
  pub tree_value : List (List ℕ) → Tree → PlainPattern
  tree_value names (Plain c) = chain_value names c
  tree_value names (Filtered p c) = plain.Where (tree_value names p) (condition_value names c)

  pub chain_value : List (List ℕ) → Chain → PlainPattern
  chain_value names (One p) = part_value names p
  chain_value names (More c j p) = joined_value j (chain_value names c) (part_value names p)

  pub part_value : List (List ℕ) → Part → PlainPattern
  part_value names (Bare name) = plain.Atom (record { name = name; args = [] })
  part_value names (Atom name as') = plain.Atom (record { name = name; args = arguments_value (wanted_value names) as' })
  part_value names (Without i b a) = plain.Not (tree_value names i) (tree_value names b) (tree_value names a)
  part_value names (Rounded r) = round_value names r

  pub round_value : List (List ℕ) → Round → PlainPattern
  round_value names (Bracketed p) = tree_value names p
  round_value names (Exactly r q) = plain.Exact (round_value names r) q
  round_value names (AtMost r q) = plain.Within (round_value names r) q

abbrev pub items_value : Items → List NameArity
items_value (OneItem name n) = record { name = name; arity = n } ∷ []
items_value (MoreItem is name n) = items_value is ++ record { name = name; arity = n } ∷ []

-- the variables of a statement, each once, in the order of first occurrence
abbrev pub names_of : Statement → List (List ℕ)
names_of s = (count_all nothing_counted (statement 1 s [])).names

abbrev pub statement_value : Statement → PlainStatement
statement_value (Clause h p) =
    let names = names_of (Clause h p) in
    plain.Clause (record { head = heading_value names h; body = tree_value names p; vars = names })
statement_value (Shown is) = plain.Show (items_value is)

abbrev pub text_value : Statements → List PlainStatement
text_value Empty = []
text_value (Then ss s) = text_value ss ++ statement_value s ∷ []
