-- The tokens of each tree, with their roles, and then rest.
use Rattle.std.specs.Prelude.{ℕ, ◌+◌, List, [], ◌∷◌}
use Rattle.rule_lexer.specs.declared.terminals.Terminal.{Terminal}
use Rattle.rule_lexer.specs.declared.terminals.Terminal.TheVariants as t
use Rattle.rule_grammar.specs.Trees.{Literal, Literal.Digits, Literal.Minus, Literal.Least, Literal.Symbol, Literal.Quoted, Term, Term.Leaf, Term.Lone, Term.Compound, Arguments, Arguments.First, Arguments.Next}
use Rattle.rule_grammar.specs.Trees.{Wanted, Wanted.Variable, Wanted.Anything, HeadTerm, HeadTerm.Leading, HeadTerm.Fixed, HeadTerms, HeadTerms.FirstTerm, HeadTerms.NextTerm, Heading, Heading.Plainly, Heading.Applied}
use Rattle.rule_grammar.specs.Trees.{Adding, Adding.Added, Adding.Taken, Scaling, Scaling.Times, Scaling.Over, Scaling.Modulo, Joint, Joint.Joined, Joint.Otherwise}
use Rattle.rule_grammar.specs.Trees.{Condition, Condition.OneAll, Condition.MoreAll, All, All.OneNegation, All.MoreNegation, Negation, Negation.Negated, Negation.Compared, Comparison, Comparison.OneSum, Comparison.TwoSums, Sum, Sum.OneProduct, Sum.MoreProduct, Product, Product.OneUnit, Product.MoreUnit, Unit', Unit'.Value, Unit'.Grouped}
use Rattle.rule_grammar.specs.Trees.{Tree, Tree.Plain, Tree.Filtered, Chain, Chain.One, Chain.More, Part, Part.Bare, Part.Atom, Part.Without, Part.Rounded, Round, Round.Bracketed, Round.Exactly, Round.AtMost}
use Rattle.rule_grammar.specs.Trees.{Items, Items.OneItem, Items.MoreItem, Statement, Statement.Clause, Statement.Shown, Statements, Statements.Empty, Statements.Then}
use Rattle.rule_grammar.specs.Marks.{Role, Marked}
use Rattle.rule_grammar.specs.Marks.{Role.Quiet, Role.Starts, Role.Single, Role.Binary, Role.Nests, Role.Deepens, Role.Counts, Role.Lists, Role.Lasts, Role.HasArity}

-- a token that counts as nothing
abbrev pub quiet : Terminal → List Marked → List Marked
quiet x rest = (Quiet, x) ∷ rest

abbrev pub binary : Terminal → List Marked → List Marked
binary x rest = (Binary, x) ∷ rest

abbrev pub a_part : Terminal → List Marked → List Marked
a_part x rest = (Single, x) ∷ rest

-- the first token of a term has a role of its own
abbrev pub literal : Role → Literal → List Marked → List Marked
literal r (Digits n) rest = (r, t.Number n) ∷ rest
literal r (Minus n) rest = (r, t.Minus) ∷ quiet (t.Number n) rest
literal r Least rest = (r, t.Minus) ∷ quiet t.Huge rest
literal r (Symbol name) rest = (r, t.Name name) ∷ rest
literal r (Quoted text) rest = (r, t.Text text) ∷ rest

abbrev pub count_of : {W : Type 0} → Arguments W → ℕ
count_of (First a) = 1
count_of (Next as' a) = count_of as' + 1

-- terms at some depth; `spell` is the token of what stands for a term
abbrev mutual
  pub term : {W : Type 0} → (W → Terminal) → Role → ℕ → Term W → List Marked → List Marked
  term spell r d (Leaf w) rest = (r, spell w) ∷ rest
  term spell r d (Lone l) rest = literal r l rest
  term spell r d (Compound name as') rest = (r, t.Name name) ∷ (Deepens (d + 1), t.Open) ∷ arguments spell (d + 1) as' (quiet t.Close rest)

  pub arguments : {W : Type 0} → (W → Terminal) → ℕ → Arguments W → List Marked → List Marked
  arguments spell d (First a) rest = term spell Quiet d a rest
  arguments spell d (Next as' a) rest = arguments spell d as' ((Counts (count_of as' + 1), t.Comma) ∷ term spell Quiet d a rest)

abbrev pub wanted : Wanted → Terminal
wanted (Variable name) = t.Var name
wanted Anything = t.Wild

abbrev pub never : ⊥ → Terminal
never h = absurd h

abbrev pub head_term : HeadTerm → List Marked → List Marked
head_term (Leading name) rest = quiet (t.Var name) rest
head_term (Fixed a) rest = term never Quiet 1 a rest

abbrev pub count_of_terms : HeadTerms → ℕ
count_of_terms (FirstTerm a) = 1
count_of_terms (NextTerm as' a) = count_of_terms as' + 1

abbrev pub head_terms : HeadTerms → List Marked → List Marked
head_terms (FirstTerm a) rest = head_term a rest
head_terms (NextTerm as' a) rest = head_terms as' ((Counts (count_of_terms as' + 1), t.Comma) ∷ head_term a rest)

-- the head of the n-th statement
abbrev pub heading : ℕ → Heading → List Marked → List Marked
heading n (Plainly name) rest = (Starts n, t.Name name) ∷ rest
heading n (Applied name as') rest = (Starts n, t.Name name) ∷ quiet t.Open (head_terms as' (quiet t.Close rest))

abbrev pub adding : Adding → Terminal
adding Added = t.Plus
adding Taken = t.Minus

abbrev pub scaling : Scaling → Terminal
scaling Times = t.Star
scaling Over = t.Slash
scaling Modulo = t.Percent

abbrev pub joint : Joint → Terminal
joint (Joined op) = t.Op op
joint Otherwise = t.Or

-- conditions inside of d open brackets
abbrev mutual
  pub condition : ℕ → Condition → List Marked → List Marked
  condition d (OneAll a) rest = all d a rest
  condition d (MoreAll c a) rest = condition d c (binary t.Either (all d a rest))

  pub all : ℕ → All → List Marked → List Marked
  all d (OneNegation n) rest = negation d n rest
  all d (MoreNegation a n) rest = all d a (binary t.Both (negation d n rest))

  pub negation : ℕ → Negation → List Marked → List Marked
  negation d (Negated n) rest = a_part t.Bang (negation d n rest)
  negation d (Compared c) rest = comparison d c rest

  pub comparison : ℕ → Comparison → List Marked → List Marked
  comparison d (OneSum s) rest = sum d s rest
  comparison d (TwoSums l cmp r) rest = sum d l (binary (t.Compare cmp) (sum d r rest))

  pub sum : ℕ → Sum → List Marked → List Marked
  sum d (OneProduct p) rest = product d p rest
  sum d (MoreProduct s op p) rest = sum d s (binary (adding op) (product d p rest))

  pub product : ℕ → Product → List Marked → List Marked
  product d (OneUnit u) rest = unit d u rest
  product d (MoreUnit p op u) rest = product d p (binary (scaling op) (unit d u rest))

  pub unit : ℕ → Unit' → List Marked → List Marked
  unit d (Value a) rest = term t.Var Single 1 a rest
  unit d (Grouped c) rest = (Nests (d + 1), t.Open) ∷ condition (d + 1) c (quiet t.Close rest)

-- patterns inside of d open brackets
abbrev mutual
  pub tree : ℕ → Tree → List Marked → List Marked
  tree d (Plain c) rest = chain d c rest
  tree d (Filtered p c) rest = tree d p (binary t.Where (condition d c rest))

  pub chain : ℕ → Chain → List Marked → List Marked
  chain d (One p) rest = part d p rest
  chain d (More c j p) rest = chain d c (binary (joint j) (part d p rest))

  pub part : ℕ → Part → List Marked → List Marked
  part d (Bare name) rest = a_part (t.Name name) rest
  part d (Atom name as') rest = a_part (t.Name name) (quiet t.Open (arguments wanted 1 as' (quiet t.Close rest)))
  part d (Without i b a) rest =
      a_part t.Not ((Nests (d + 1), t.Open) ∷ tree (d + 1) i (quiet t.Close
      ((Nests (d + 1), t.Limits) ∷ tree (d + 1) b (quiet t.Comma (tree (d + 1) a (quiet t.Square rest))))))
  part d (Rounded r) rest = round d r rest

  pub round : ℕ → Round → List Marked → List Marked
  round d (Bracketed p) rest = (Nests (d + 1), t.Open) ∷ tree (d + 1) p (quiet t.Close rest)
  round d (Exactly r q) rest = round d r (a_part t.Length ((Lasts q, t.Number q) ∷ rest))
  round d (AtMost r q) rest = round d r (binary t.Within ((Lasts q, t.Number q) ∷ rest))

abbrev pub items : Items → List Marked → List Marked
items (OneItem name n) rest = quiet (t.Name name) (quiet t.Slash ((HasArity n, t.Number n) ∷ rest))
items (MoreItem is name n) rest = items is ((Lists, t.Comma) ∷ quiet (t.Name name) (quiet t.Slash ((HasArity n, t.Number n) ∷ rest)))

-- the n-th statement
abbrev pub statement : ℕ → Statement → List Marked → List Marked
statement n (Clause h p) rest = heading n h (quiet t.Arrow (tree 0 p (quiet t.End rest)))
statement n (Shown is) rest = (Starts n, t.Show) ∷ items is (quiet t.End rest)

abbrev pub number_of : Statements → ℕ
number_of Empty = 0
number_of (Then ss s) = number_of ss + 1

abbrev pub statements : Statements → List Marked → List Marked
statements Empty rest = rest
statements (Then ss s) rest = statements ss (statement (number_of ss + 1) s rest)

-- a text of the grammar
abbrev pub text : Statements → List Marked
text ss = statements ss []

-- the tokens without their roles
abbrev pub bare : List Marked → List Terminal
bare [] = []
bare (m ∷ ms) = m.1 ∷ bare ms
