-- What is left of a tree without its redundant brackets, at the tightest level that it has without one.
use Rattle.std.specs.Prelude.{pos, ◌-ℤ◌}
use Rattle.rule_grammar.specs.Trees.{Literal, Literal.Minus, Term, Term.Leaf, Term.Lone, Term.Compound, Arguments, Arguments.First, Arguments.Next}
use Rattle.rule_grammar.specs.Trees.{HeadTerm, HeadTerm.Leading, HeadTerm.Fixed, HeadTerms, HeadTerms.FirstTerm, HeadTerms.NextTerm, Heading, Heading.Plainly, Heading.Applied}
use Rattle.rule_grammar.specs.Trees.{Condition, Condition.OneAll, Condition.MoreAll, All, All.OneNegation, All.MoreNegation, Negation, Negation.Negated, Negation.Compared, Comparison, Comparison.OneSum, Comparison.TwoSums, Sum, Sum.OneProduct, Sum.MoreProduct, Product, Product.OneUnit, Product.MoreUnit, Unit', Unit'.Value, Unit'.Grouped}
use Rattle.rule_grammar.specs.Trees.{Tree, Tree.Plain, Tree.Filtered, Chain, Chain.One, Chain.More, Part, Part.Bare, Part.Atom, Part.Without, Part.Rounded, Round, Round.Bracketed, Round.Exactly, Round.AtMost}
use Rattle.rule_grammar.specs.Trees.{Statement, Statement.Clause, Statement.Shown, Statements, Statements.Empty, Statements.Then}
use Rattle.rule_writer.specs.Forms.{number_form}
use Rattle.rule_writer.specs.Forms.{ConditionForm, ConditionForm.OfUnit, scaled, added, compared, negated, both, either}
use Rattle.rule_writer.specs.Forms.{PatternForm, PatternForm.OfPart, as_tree, joined, filtered, exactly, at_most, without}

abbrev pub normal_literal : Literal → Literal
normal_literal (Minus n) = number_form (pos 0 -ℤ pos n)
normal_literal l = l

abbrev mutual
  pub normal_term : {W : Type 0} → Term W → Term W
  normal_term (Leaf w) = Leaf w
  normal_term (Lone l) = Lone (normal_literal l)
  normal_term (Compound name as') = Compound name (normal_arguments as')

  pub normal_arguments : {W : Type 0} → Arguments W → Arguments W
  normal_arguments (First a) = First (normal_term a)
  normal_arguments (Next as' a) = Next (normal_arguments as') (normal_term a)

abbrev pub normal_head : HeadTerm → HeadTerm
normal_head (Leading name) = Leading name
normal_head (Fixed a) = Fixed (normal_term a)

abbrev pub normal_heads : HeadTerms → HeadTerms
normal_heads (FirstTerm a) = FirstTerm (normal_head a)
normal_heads (NextTerm as' a) = NextTerm (normal_heads as') (normal_head a)

abbrev pub normal_heading : Heading → Heading
normal_heading (Plainly name) = Plainly name
normal_heading (Applied name as') = Applied name (normal_heads as')

abbrev mutual
  pub strip_condition : Condition → ConditionForm
  strip_condition (OneAll a) = strip_all a
  strip_condition (MoreAll c a) = either (strip_condition c) (strip_all a)

  pub strip_all : All → ConditionForm
  strip_all (OneNegation n) = strip_negation n
  strip_all (MoreNegation a n) = both (strip_all a) (strip_negation n)

  pub strip_negation : Negation → ConditionForm
  strip_negation (Negated n) = negated (strip_negation n)
  strip_negation (Compared c) = strip_comparison c

  pub strip_comparison : Comparison → ConditionForm
  strip_comparison (OneSum s) = strip_sum s
  strip_comparison (TwoSums l cmp r) = compared cmp (strip_sum l) (strip_sum r)

  pub strip_sum : Sum → ConditionForm
  strip_sum (OneProduct p) = strip_product p
  strip_sum (MoreProduct s op p) = added op (strip_sum s) (strip_product p)

  pub strip_product : Product → ConditionForm
  strip_product (OneUnit u) = strip_unit u
  strip_product (MoreUnit p op u) = scaled op (strip_product p) (strip_unit u)

  pub strip_unit : Unit' → ConditionForm
  strip_unit (Value a) = OfUnit (Value (normal_term a))
  strip_unit (Grouped c) = strip_condition c

abbrev mutual
  pub strip_tree : Tree → PatternForm
  strip_tree (Plain c) = strip_chain c
  strip_tree (Filtered p c) = filtered (strip_tree p) (strip_condition c)

  pub strip_chain : Chain → PatternForm
  strip_chain (One p) = strip_part p
  strip_chain (More c j p) = joined j (strip_chain c) (strip_part p)

  pub strip_part : Part → PatternForm
  strip_part (Bare name) = OfPart (Bare name)
  strip_part (Atom name as') = OfPart (Atom name (normal_arguments as'))
  strip_part (Without i b a) = without (strip_tree i) (strip_tree b) (strip_tree a)
  strip_part (Rounded r) = strip_round r

  pub strip_round : Round → PatternForm
  strip_round (Bracketed p) = strip_tree p
  strip_round (Exactly r q) = exactly (strip_round r) q
  strip_round (AtMost r q) = at_most (strip_round r) q

abbrev pub strip_statement : Statement → Statement
strip_statement (Clause h p) = Clause (normal_heading h) (as_tree (strip_tree p))
strip_statement (Shown is) = Shown is

abbrev pub strip_text : Statements → Statements
strip_text Empty = Empty
strip_text (Then ss s) = Then (strip_text ss) (strip_statement s)
