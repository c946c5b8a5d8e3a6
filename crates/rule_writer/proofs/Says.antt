-- What is left of a tree without its redundant brackets says what the tree says.
use Rattle.std.proofs.Common.{◌≡◌, ℕ, ◌+◌, ◌^◌, ℤ, pos, negsuc, ◌-ℤ◌, Bool, true, false, cond, ◌==◌, List, [], ◌∷◌, ◌++◌, refl, ap, ap₂, ◌∙◌, arith, ◌-◌}
use Rattle.std.proofs.lemmas.Bool.{eqb-true}
use Rattle.std.proofs.lemmas.Int.{ints}
use Rattle.event_model.specs.declared.terms.Pat.{Pat}
use Rattle.event_model.specs.declared.terms.Pat.TheVariants as pat
use Rattle.rule_ast.specs.Trees as plain
use Rattle.rule_ast.specs.Trees.{PlainCond, PlainPattern}
use Rattle.rule_grammar.specs.Trees.{Literal, Literal.Digits, Literal.Minus, Literal.Least, Literal.Symbol, Literal.Quoted, Term, Term.Leaf, Term.Lone, Term.Compound, Arguments, Arguments.First, Arguments.Next}
use Rattle.rule_grammar.specs.Trees.{HeadTerm, HeadTerm.Leading, HeadTerm.Fixed, HeadTerms, HeadTerms.FirstTerm, HeadTerms.NextTerm, Heading, Heading.Plainly, Heading.Applied}
use Rattle.rule_grammar.specs.Trees.{Condition, Condition.OneAll, Condition.MoreAll, All, All.OneNegation, All.MoreNegation, Negation, Negation.Negated, Negation.Compared, Comparison, Comparison.OneSum, Comparison.TwoSums, Sum, Sum.OneProduct, Sum.MoreProduct, Product, Product.OneUnit, Product.MoreUnit, Unit', Unit'.Value, Unit'.Grouped}
use Rattle.rule_grammar.specs.Trees.{Tree, Tree.Plain, Tree.Filtered, Chain, Chain.One, Chain.More, Part, Part.Bare, Part.Atom, Part.Without, Part.Rounded, Round, Round.Bracketed, Round.Exactly, Round.AtMost}
use Rattle.rule_grammar.specs.Values.{variable, wanted_value, never_value, literal_value, term_value, arguments_value, head_term_value, head_terms_value, heading_value, adding_value, scaling_value, condition_value, all_value, negation_value, comparison_value, sum_value, product_value, unit_value, joined_value, tree_value, chain_value, part_value, round_value}
use Rattle.rule_writer.specs.Forms.{number_form}
use Rattle.rule_writer.specs.Forms.{ConditionForm, ConditionForm.OfUnit, ConditionForm.OfProduct, ConditionForm.OfSum, ConditionForm.OfComparison, ConditionForm.OfNegation, ConditionForm.OfAll, as_condition, as_unit, as_product, as_sum, as_comparison, as_negation, as_all}
use Rattle.rule_writer.specs.Forms.{PatternForm, PatternForm.OfRound, PatternForm.OfPart, PatternForm.OfChain, as_tree, as_round, as_part, as_chain}
use Rattle.rule_writer.proofs.Stripped.{normal_literal, normal_term, normal_arguments, normal_head, normal_heads, normal_heading, strip_condition, strip_all, strip_negation, strip_comparison, strip_sum, strip_product, strip_unit, strip_tree, strip_chain, strip_part, strip_round}

pub below_zero : (n : ℕ) → pos 0 -ℤ pos (n + 1) ≡ negsuc n
below_zero n = omega (arith, ints)

says_number : (z : ℤ) → literal_value (number_form z) ≡ pat.Num z
says_number (pos n) = refl
says_number (negsuc n) = at (n + 1 == 2 ^ 63) refl
  where
    at : (b : Bool) → (n + 1 == 2 ^ 63) ≡ b → literal_value (cond b Least (Minus (n + 1))) ≡ pat.Num (negsuc n)
    at true e = let m : n + 1 ≡ 2 ^ 63 = eqb-true (n + 1) (2 ^ 63) e in let k : 2 ^ 63 - 1 ≡ n = omega arith in ap (λ i. pat.Num (negsuc i)) k
    at false e = ap pat.Num (below_zero n)

says_literal : (l : Literal) → literal_value (normal_literal l) ≡ literal_value l
says_literal (Digits n) = refl
says_literal (Minus n) = says_number (pos 0 -ℤ pos n)
says_literal Least = refl
says_literal (Symbol name) = refl
says_literal (Quoted text) = refl

mutual
  says_term : {W : Type 0} (leaf : W → Pat) (a : Term W) → term_value leaf (normal_term a) ≡ term_value leaf a
  says_term leaf (Leaf w) = refl
  says_term leaf (Lone l) = says_literal l
  says_term leaf (Compound name as') = ap (pat.Comp name) (says_arguments leaf as')

  says_arguments : {W : Type 0} (leaf : W → Pat) (as' : Arguments W) → arguments_value leaf (normal_arguments as') ≡ arguments_value leaf as'
  says_arguments leaf (First a) = ap (λ x. x ∷ []) (says_term leaf a)
  says_arguments leaf (Next as' a) = ap₂ (λ xs x. xs ++ x ∷ []) (says_arguments leaf as') (says_term leaf a)

says_head : (names : List (List ℕ)) (a : HeadTerm) → head_term_value names (normal_head a) ≡ head_term_value names a
says_head names (Leading name) = refl
says_head names (Fixed a) = says_term never_value a

says_heads : (names : List (List ℕ)) (as' : HeadTerms) → head_terms_value names (normal_heads as') ≡ head_terms_value names as'
says_heads names (FirstTerm a) = ap (λ x. x ∷ []) (says_head names a)
says_heads names (NextTerm as' a) = ap₂ (λ xs x. xs ++ x ∷ []) (says_heads names as') (says_head names a)

pub says_heading : (names : List (List ℕ)) (h : Heading) → heading_value names (normal_heading h) ≡ heading_value names h
says_heading names (Plainly name) = refl
says_heading names (Applied name as') = ap (λ x. record { name = name; args = x }) (says_heads names as')

-- a form says the same at each level

abbrev value_of : List (List ℕ) → ConditionForm → PlainCond
value_of names x = condition_value names (as_condition x)

unit_says : (names : List (List ℕ)) (x : ConditionForm) → unit_value names (as_unit x) ≡ value_of names x
unit_says names (OfUnit u) = refl
unit_says names x = refl

product_says : (names : List (List ℕ)) (x : ConditionForm) → product_value names (as_product x) ≡ value_of names x
product_says names (OfProduct p) = refl
product_says names x = unit_says names x

sum_says : (names : List (List ℕ)) (x : ConditionForm) → sum_value names (as_sum x) ≡ value_of names x
sum_says names (OfSum s) = refl
sum_says names x = product_says names x

comparison_says : (names : List (List ℕ)) (x : ConditionForm) → comparison_value names (as_comparison x) ≡ value_of names x
comparison_says names (OfComparison c) = refl
comparison_says names x = sum_says names x

negation_says : (names : List (List ℕ)) (x : ConditionForm) → negation_value names (as_negation x) ≡ value_of names x
negation_says names (OfNegation n) = refl
negation_says names x = comparison_says names x

all_says : (names : List (List ℕ)) (x : ConditionForm) → all_value names (as_all x) ≡ value_of names x
all_says names (OfAll a) = refl
all_says names x = negation_says names x

mutual
  pub says_condition : (names : List (List ℕ)) (c : Condition) → value_of names (strip_condition c) ≡ condition_value names c
  says_condition names (OneAll a) = says_all names a
  says_condition names (MoreAll c a) = ap₂ plain.OrElse (says_condition names c) (all_says names (strip_all a) ∙ says_all names a)

  says_all : (names : List (List ℕ)) (a : All) → value_of names (strip_all a) ≡ all_value names a
  says_all names (OneNegation n) = says_negation names n
  says_all names (MoreNegation a n) = ap₂ plain.AndAlso (all_says names (strip_all a) ∙ says_all names a) (negation_says names (strip_negation n) ∙ says_negation names n)

  says_negation : (names : List (List ℕ)) (n : Negation) → value_of names (strip_negation n) ≡ negation_value names n
  says_negation names (Negated n) = ap plain.Negate (negation_says names (strip_negation n) ∙ says_negation names n)
  says_negation names (Compared c) = says_comparison names c

  says_comparison : (names : List (List ℕ)) (c : Comparison) → value_of names (strip_comparison c) ≡ comparison_value names c
  says_comparison names (OneSum s) = says_sum names s
  says_comparison names (TwoSums l cmp r) = ap₂ (plain.Compare cmp) (sum_says names (strip_sum l) ∙ says_sum names l) (sum_says names (strip_sum r) ∙ says_sum names r)

  says_sum : (names : List (List ℕ)) (s : Sum) → value_of names (strip_sum s) ≡ sum_value names s
  says_sum names (OneProduct p) = says_product names p
  says_sum names (MoreProduct s op p) =
      ap₂ (plain.Calculate (adding_value op)) (sum_says names (strip_sum s) ∙ says_sum names s) (product_says names (strip_product p) ∙ says_product names p)

  says_product : (names : List (List ℕ)) (p : Product) → value_of names (strip_product p) ≡ product_value names p
  says_product names (OneUnit u) = says_unit names u
  says_product names (MoreUnit p op u) =
      ap₂ (plain.Calculate (scaling_value op)) (product_says names (strip_product p) ∙ says_product names p) (unit_says names (strip_unit u) ∙ says_unit names u)

  says_unit : (names : List (List ℕ)) (u : Unit') → value_of names (strip_unit u) ≡ unit_value names u
  says_unit names (Value a) = ap plain.Value (says_term (variable names) a)
  says_unit names (Grouped c) = says_condition names c

abbrev pattern_of : List (List ℕ) → PatternForm → PlainPattern
pattern_of names x = tree_value names (as_tree x)

round_says : (names : List (List ℕ)) (x : PatternForm) → round_value names (as_round x) ≡ pattern_of names x
round_says names (OfRound r) = refl
round_says names x = refl

part_says : (names : List (List ℕ)) (x : PatternForm) → part_value names (as_part x) ≡ pattern_of names x
part_says names (OfPart p) = refl
part_says names x = round_says names x

chain_says : (names : List (List ℕ)) (x : PatternForm) → chain_value names (as_chain x) ≡ pattern_of names x
chain_says names (OfChain c) = refl
chain_says names x = part_says names x

not_of : {i j b c a d : PlainPattern} → i ≡ j → b ≡ c → a ≡ d → plain.Not i b a ≡ plain.Not j c d
not_of p q r = cc

mutual
  pub says_tree : (names : List (List ℕ)) (p : Tree) → pattern_of names (strip_tree p) ≡ tree_value names p
  says_tree names (Plain c) = says_chain names c
  says_tree names (Filtered p c) = ap₂ plain.Where (says_tree names p) (says_condition names c)

  says_chain : (names : List (List ℕ)) (c : Chain) → pattern_of names (strip_chain c) ≡ chain_value names c
  says_chain names (One p) = says_part names p
  says_chain names (More c j p) = ap₂ (joined_value j) (chain_says names (strip_chain c) ∙ says_chain names c) (part_says names (strip_part p) ∙ says_part names p)

  says_part : (names : List (List ℕ)) (p : Part) → pattern_of names (strip_part p) ≡ part_value names p
  says_part names (Bare name) = refl
  says_part names (Atom name as') = ap (λ x. plain.Atom (record { name = name; args = x })) (says_arguments (wanted_value names) as')
  says_part names (Without i b a) =
      not_of (says_tree names i) (says_tree names b) (says_tree names a)
  says_part names (Rounded r) = says_round names r

  says_round : (names : List (List ℕ)) (r : Round) → pattern_of names (strip_round r) ≡ round_value names r
  says_round names (Bracketed p) = says_tree names p
  says_round names (Exactly r q) = ap (λ x. plain.Exact x q) (round_says names (strip_round r) ∙ says_round names r)
  says_round names (AtMost r q) = ap (λ x. plain.Within x q) (round_says names (strip_round r) ∙ says_round names r)
