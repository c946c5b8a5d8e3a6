-- Between the tokens of a text stands what keeps them apart.
use Rattle.std.proofs.Common.{◌≡◌, ℕ, ◌+◌, ◌^◌, ◌<◌, Bool, true, false, not, List, [], ◌∷◌, ◌++◌, map, decimal, refl, sym, ap, subst, arith}
use Rattle.std.specs.Char.{is_ascii_digit, is_ascii_lowercase, is_ascii_uppercase}
use Rattle.std.proofs.lemmas.Bool.{and_parts, ltb-true, false≢true}
use Rattle.std.proofs.lemmas.Bool.Decides.{nat_tests}
use Rattle.std.proofs.lemmas.Fmt.{decimal_by_steps}
use Rattle.rule_ast.specs.declared.conditions.Cmp.{Cmp}
use Rattle.rule_ast.specs.declared.conditions.Cmp.TheVariants as cmp
use Rattle.rule_lexer.specs.Sorts.{is_word, begins}
use Rattle.rule_lexer.specs.declared.terminals.Terminal.{Terminal}
use Rattle.rule_lexer.specs.declared.terminals.Terminal.TheVariants as t
use Rattle.rule_lexer.specs.Writing.{is_proper, is_equal_sign, may_precede, Parted}
use Rattle.rule_grammar.specs.Trees.{Literal, Literal.Digits, Literal.Minus, Literal.Least, Literal.Symbol, Literal.Quoted, Term, Term.Leaf, Term.Lone, Term.Compound, Arguments, Arguments.First, Arguments.Next}
use Rattle.rule_grammar.specs.Trees.{Wanted, Wanted.Variable, Wanted.Anything, HeadTerm, HeadTerm.Leading, HeadTerm.Fixed, HeadTerms, HeadTerms.FirstTerm, HeadTerms.NextTerm, Heading, Heading.Plainly, Heading.Applied}
use Rattle.rule_grammar.specs.Trees.{Adding, Adding.Added, Adding.Taken, Scaling, Scaling.Times, Scaling.Over, Scaling.Modulo, Joint, Joint.Joined, Joint.Otherwise}
use Rattle.rule_grammar.specs.Trees.{Condition, Condition.OneAll, Condition.MoreAll, All, All.OneNegation, All.MoreNegation, Negation, Negation.Negated, Negation.Compared, Comparison, Comparison.OneSum, Comparison.TwoSums, Sum, Sum.OneProduct, Sum.MoreProduct, Product, Product.OneUnit, Product.MoreUnit, Unit', Unit'.Value, Unit'.Grouped}
use Rattle.rule_grammar.specs.Trees.{Tree, Tree.Plain, Tree.Filtered, Chain, Chain.One, Chain.More, Part, Part.Bare, Part.Atom, Part.Without, Part.Rounded, Round, Round.Bracketed, Round.Exactly, Round.AtMost}
use Rattle.rule_grammar.specs.Trees.{Items, Items.OneItem, Items.MoreItem, Statement, Statement.Clause, Statement.Shown, Statements, Statements.Empty, Statements.Then}
use Rattle.rule_grammar.specs.Marks.{Role, Marked}
use Rattle.rule_grammar.specs.Marks.{Role.Quiet, Role.Starts, Role.Single, Role.Nests, Role.Deepens, Role.Counts, Role.Lists, Role.Lasts, Role.HasArity}
use Rattle.rule_grammar.specs.Tokens.{quiet, binary, a_part, literal, count_of, term, arguments, wanted, never, head_term, count_of_terms, head_terms, heading, adding, scaling, joint, condition, all, negation, comparison, sum, product, unit, tree, chain, part, round, items, statement, number_of, statements, text}
use Rattle.rule_lexer.proofs.Stands.{begins-append}
use Rattle.rule_writer.specs.Canonical.{alone, by_token, piece_of, bytes_of}
use Rattle.rule_writer.proofs.Fewer.{IsProper}

-- proper tokens are kept apart
abbrev pub Fine : List Marked → Type 0
Fine ms = IsProper ms → Parted (map piece_of ms) ≡ true

-- a word or a number may stand before the tokens
abbrev Stops : List Marked → Type 0
Stops ms = begins is_word (bytes_of ms) ≡ false

-- a token of the role has no blank for its role
record NoBlank (r : Role) : Type 0 where
  piece : (x : Terminal) → piece_of (r, x) ≡ by_token x

in_quiet : NoBlank Quiet
in_quiet = record { piece = λ x. refl }

in_single : NoBlank Single
in_single = record { piece = λ x. refl }

lone : (r : Role) (x : Terminal) (ms : List Marked) → piece_of (r, x) ≡ alone x → (IsProper ((r, x) ∷ ms) → may_precede x (bytes_of ms) ≡ true) → Fine ms → Fine ((r, x) ∷ ms)
lone r x ms e p f h =
    let a = and_parts (is_proper x) _ h in
    subst (λ q. Parted (q ∷ map piece_of ms) ≡ true) (sym e) (rw (a.0, p h, f a.1) refl)

no_digit : (bs : List ℕ) → begins is_word bs ≡ false → begins is_ascii_digit bs ≡ false
no_digit [] h = refl
no_digit (b ∷ bs) h = grind (arith, nat_tests, h)

a_name : (r : Role) → NoBlank r → (word : List ℕ) (ms : List Marked) → Stops ms → Fine ms → Fine ((r, t.Name word) ∷ ms)
a_name r a word ms s f = lone r (t.Name word) ms (a.piece (t.Name word)) (λ h. ap not s) f

a_variable : (r : Role) → NoBlank r → (word : List ℕ) (ms : List Marked) → Stops ms → Fine ms → Fine ((r, t.Var word) ∷ ms)
a_variable r a word ms s f = lone r (t.Var word) ms (a.piece (t.Var word)) (λ h. ap not s) f

a_text : (r : Role) → NoBlank r → (bytes : List ℕ) (ms : List Marked) → Fine ms → Fine ((r, t.Text bytes) ∷ ms)
a_text r a bytes ms f = lone r (t.Text bytes) ms (a.piece (t.Text bytes)) (λ h. refl) f

a_number : (r : Role) → NoBlank r → (n : ℕ) (ms : List Marked) → Stops ms → Fine ms → Fine ((r, t.Number n) ∷ ms)
a_number r a n ms s f = lone r (t.Number n) ms (a.piece (t.Number n)) (λ h. ap not (no_digit (bytes_of ms) s)) f

a_minus : (r : Role) → NoBlank r → (ms : List Marked) → Fine ms → Fine ((r, t.Minus) ∷ ms)
a_minus r a ms f = lone r t.Minus ms (a.piece t.Minus) (λ h. refl) f

fine_literal : (r : Role) → NoBlank r → (l : Literal) (ms : List Marked) → Stops ms → Fine ms → Fine (literal r l ms)
fine_literal r a (Digits n) ms s f = a_number r a n ms s f
fine_literal r a (Minus n) ms s f = a_minus r a (quiet (t.Number n) ms) (a_number Quiet in_quiet n ms s f)
fine_literal r a Least ms s f = a_minus r a (quiet t.Huge ms) (lone Quiet t.Huge ms refl (λ h. ap not (no_digit (bytes_of ms) s)) f)
fine_literal r a (Symbol name) ms s f = a_name r a name ms s f
fine_literal r a (Quoted bytes) ms s f = a_text r a bytes ms f

-- what stands for a term
record Leaves {W : Type 0} (spell : W → Terminal) : Type 0 where
  leaf : (w : W) (r : Role) → NoBlank r → (ms : List Marked) → Stops ms → Fine ms → Fine ((r, spell w) ∷ ms)

mutual
  fine_term : {W : Type 0} (spell : W → Terminal) → Leaves spell → (r : Role) → NoBlank r → (d : ℕ) (x : Term W) (ms : List Marked) → Stops ms → Fine ms → Fine (term spell r d x ms)
  fine_term spell w r a d (Leaf x) ms s f = w.leaf x r a ms s f
  fine_term spell w r a d (Lone l) ms s f = fine_literal r a l ms s f
  fine_term spell w r a d (Compound name as') ms s f =
      a_name r a name ((Deepens (d + 1), t.Open) ∷ arguments spell (d + 1) as' (quiet t.Close ms)) refl (fine_arguments spell w (d + 1) as' (quiet t.Close ms) refl f)

  fine_arguments : {W : Type 0} (spell : W → Terminal) → Leaves spell → (d : ℕ) (as' : Arguments W) (ms : List Marked) → Stops ms → Fine ms → Fine (arguments spell d as' ms)
  fine_arguments spell w d (First a) ms s f = fine_term spell w Quiet in_quiet d a ms s f
  fine_arguments spell w d (Next as' a) ms s f =
      fine_arguments spell w d as' ((Counts (count_of as' + 1), t.Comma) ∷ term spell Quiet d a ms) refl (fine_term spell w Quiet in_quiet d a ms s f)

wanted_leaves : Leaves wanted
wanted_leaves = record { leaf = at }
  where
    at : (w : Wanted) (r : Role) → NoBlank r → (ms : List Marked) → Stops ms → Fine ms → Fine ((r, wanted w) ∷ ms)
    at (Variable name) r a ms s f = a_variable r a name ms s f
    at Anything r a ms s f = lone r t.Wild ms (a.piece t.Wild) (λ h. ap not s) f

variable_leaves : Leaves t.Var
variable_leaves = record { leaf = λ w r a ms s f. a_variable r a w ms s f }

no_leaves : Leaves never
no_leaves = record { leaf = λ w r a ms s f. absurd w }

-- ---- heads

fine_head : (a : HeadTerm) (ms : List Marked) → Stops ms → Fine ms → Fine (head_term a ms)
fine_head (Leading name) ms s f = a_variable Quiet in_quiet name ms s f
fine_head (Fixed a) ms s f = fine_term never no_leaves Quiet in_quiet 1 a ms s f

fine_heads : (as' : HeadTerms) (ms : List Marked) → Stops ms → Fine ms → Fine (head_terms as' ms)
fine_heads (FirstTerm a) ms s f = fine_head a ms s f
fine_heads (NextTerm as' a) ms s f = fine_heads as' ((Counts (count_of_terms as' + 1), t.Comma) ∷ head_term a ms) refl (fine_head a ms s f)

in_starts : (n : ℕ) → NoBlank (Starts n)
in_starts n = record { piece = λ x. refl }

fine_heading : (n : ℕ) (h : Heading) (ms : List Marked) → Stops ms → Fine ms → Fine (heading n h ms)
fine_heading n (Plainly name) ms s f = a_name (Starts n) (in_starts n) name ms s f
fine_heading n (Applied name as') ms s f =
    a_name (Starts n) (in_starts n) name (quiet t.Open (head_terms as' (quiet t.Close ms))) refl (fine_heads as' (quiet t.Close ms) refl f)

-- ---- conditions: none begins with `=`, which would make `!=` of the sign before it

no_equal : (p : ℕ → Bool) → ((b : ℕ) → p b ≡ true → is_equal_sign b ≡ false) → (word rest : List ℕ) → begins p word ≡ true → begins is_equal_sign (word ++ rest) ≡ false
no_equal p n [] rest h = absurd (false≢true h)
no_equal p n (b ∷ word) rest h = n b h

one_digit : (n : ℕ) → n < 10 → is_ascii_digit (48 + n) ≡ true
one_digit n h = grind (arith, nat_tests)

decimal_begins : (n : ℕ) → is_proper (t.Number n) ≡ true → begins is_ascii_digit (decimal n) ≡ true
decimal_begins n h =
    let low : n < 2 ^ 63 = ltb-true n (2 ^ 63) h in
    decimal_by_steps (λ n ds. begins is_ascii_digit ds ≡ true) one_digit (λ n ds l b. begins-append is_ascii_digit ds _ b) n (omega arith)

lower_no_equal : (b : ℕ) → is_ascii_lowercase b ≡ true → is_equal_sign b ≡ false
lower_no_equal b h = grind (arith, nat_tests, h)

upper_no_equal : (b : ℕ) → is_ascii_uppercase b ≡ true → is_equal_sign b ≡ false
upper_no_equal b h = grind (arith, nat_tests, h)

digit_no_equal : (b : ℕ) → is_ascii_digit b ≡ true → is_equal_sign b ≡ false
digit_no_equal b h = grind (arith, nat_tests, h)

-- tokens that don't begin with `=`
abbrev Differs : List Marked → Type 0
Differs ms = IsProper ms → begins is_equal_sign (bytes_of ms) ≡ false

name_differs : (word : List ℕ) (ms : List Marked) → Differs ((Single, t.Name word) ∷ ms)
name_differs word ms h = no_equal is_ascii_lowercase lower_no_equal word _ (and_parts (begins is_ascii_lowercase word) _ (and_parts (is_proper (t.Name word)) _ h).0).0

unit_differs : (d : ℕ) (u : Unit') (ms : List Marked) → Differs (unit d u ms)
unit_differs d (Value (Leaf name)) ms h = no_equal is_ascii_uppercase upper_no_equal name _ (and_parts (begins is_ascii_uppercase name) _ (and_parts (is_proper (t.Var name)) _ h).0).0
unit_differs d (Value (Lone (Digits n))) ms h = no_equal is_ascii_digit digit_no_equal (decimal n) _ (decimal_begins n (and_parts (is_proper (t.Number n)) _ h).0)
unit_differs d (Value (Lone (Minus n))) ms h = refl
unit_differs d (Value (Lone Least)) ms h = refl
unit_differs d (Value (Lone (Symbol name))) ms h = name_differs name ms h
unit_differs d (Value (Lone (Quoted bytes))) ms h = refl
unit_differs d (Value (Compound name as')) ms h = name_differs name ((Deepens 2, t.Open) ∷ arguments t.Var 2 as' (quiet t.Close ms)) h
unit_differs d (Grouped c) ms h = refl

product_differs : (d : ℕ) (p : Product) (ms : List Marked) → Differs (product d p ms)
product_differs d (OneUnit u) ms h = unit_differs d u ms h
product_differs d (MoreUnit p op u) ms h = product_differs d p (binary (scaling op) (unit d u ms)) h

sum_differs : (d : ℕ) (s : Sum) (ms : List Marked) → Differs (sum d s ms)
sum_differs d (OneProduct p) ms h = product_differs d p ms h
sum_differs d (MoreProduct s op p) ms h = sum_differs d s (binary (adding op) (product d p ms)) h

negation_differs : (d : ℕ) (n : Negation) (ms : List Marked) → Differs (negation d n ms)
negation_differs d (Negated n) ms h = refl
negation_differs d (Compared (OneSum s)) ms h = sum_differs d s ms h
negation_differs d (Compared (TwoSums l cmp r)) ms h = sum_differs d l (binary (t.Compare cmp) (sum d r ms)) h

fine_comparing : (c : Cmp) (ms : List Marked) → Fine ms → Fine (binary (t.Compare c) ms)
fine_comparing cmp.Eq ms f = f
fine_comparing cmp.Ne ms f = f
fine_comparing cmp.Lt ms f = f
fine_comparing cmp.Le ms f = f
fine_comparing cmp.Gt ms f = f
fine_comparing cmp.Ge ms f = f

fine_adding : (op : Adding) (ms : List Marked) → Fine ms → Fine (binary (adding op) ms)
fine_adding Added ms f = f
fine_adding Taken ms f = f

fine_scaling : (op : Scaling) (ms : List Marked) → Fine ms → Fine (binary (scaling op) ms)
fine_scaling Times ms f = f
fine_scaling Over ms f = f
fine_scaling Modulo ms f = f

mutual
  fine_condition : (d : ℕ) (c : Condition) (ms : List Marked) → Stops ms → Fine ms → Fine (condition d c ms)
  fine_condition d (OneAll a) ms s f = fine_all d a ms s f
  fine_condition d (MoreAll c a) ms s f = fine_condition d c (binary t.Either (all d a ms)) refl (fine_all d a ms s f)

  fine_all : (d : ℕ) (a : All) (ms : List Marked) → Stops ms → Fine ms → Fine (all d a ms)
  fine_all d (OneNegation n) ms s f = fine_negation d n ms s f
  fine_all d (MoreNegation a n) ms s f = fine_all d a (binary t.Both (negation d n ms)) refl (fine_negation d n ms s f)

  fine_negation : (d : ℕ) (n : Negation) (ms : List Marked) → Stops ms → Fine ms → Fine (negation d n ms)
  fine_negation d (Negated n) ms s f = lone Single t.Bang (negation d n ms) refl (λ h. ap not (negation_differs d n ms h)) (fine_negation d n ms s f)
  fine_negation d (Compared c) ms s f = fine_comparison d c ms s f

  fine_comparison : (d : ℕ) (c : Comparison) (ms : List Marked) → Stops ms → Fine ms → Fine (comparison d c ms)
  fine_comparison d (OneSum x) ms s f = fine_sum d x ms s f
  fine_comparison d (TwoSums l cmp r) ms s f = fine_sum d l (binary (t.Compare cmp) (sum d r ms)) refl (fine_comparing cmp (sum d r ms) (fine_sum d r ms s f))

  fine_sum : (d : ℕ) (x : Sum) (ms : List Marked) → Stops ms → Fine ms → Fine (sum d x ms)
  fine_sum d (OneProduct p) ms s f = fine_product d p ms s f
  fine_sum d (MoreProduct x op p) ms s f = fine_sum d x (binary (adding op) (product d p ms)) refl (fine_adding op (product d p ms) (fine_product d p ms s f))

  fine_product : (d : ℕ) (p : Product) (ms : List Marked) → Stops ms → Fine ms → Fine (product d p ms)
  fine_product d (OneUnit u) ms s f = fine_unit d u ms s f
  fine_product d (MoreUnit p op u) ms s f = fine_product d p (binary (scaling op) (unit d u ms)) refl (fine_scaling op (unit d u ms) (fine_unit d u ms s f))

  fine_unit : (d : ℕ) (u : Unit') (ms : List Marked) → Stops ms → Fine ms → Fine (unit d u ms)
  fine_unit d (Value a) ms s f = fine_term t.Var variable_leaves Single in_single 1 a ms s f
  fine_unit d (Grouped c) ms s f = fine_condition (d + 1) c (quiet t.Close ms) refl f

-- ---- patterns

fine_joint : (j : Joint) (ms : List Marked) → Fine ms → Fine (binary (joint j) ms)
fine_joint (Joined op) ms f = f
fine_joint Otherwise ms f = f

-- a length behind a stop or a word
fine_length : (q : ℕ) (ms : List Marked) → Stops ms → Fine ms → Fine ((Lasts q, t.Number q) ∷ ms)
fine_length q ms s f = a_number (Lasts q) (record { piece = λ x. refl }) q ms s f

mutual
  fine_tree : (d : ℕ) (p : Tree) (ms : List Marked) → Stops ms → Fine ms → Fine (tree d p ms)
  fine_tree d (Plain c) ms s f = fine_chain d c ms s f
  fine_tree d (Filtered p c) ms s f = fine_tree d p (binary t.Where (condition d c ms)) refl (fine_condition d c ms s f)

  fine_chain : (d : ℕ) (c : Chain) (ms : List Marked) → Stops ms → Fine ms → Fine (chain d c ms)
  fine_chain d (One p) ms s f = fine_part d p ms s f
  fine_chain d (More c j p) ms s f = fine_chain d c (binary (joint j) (part d p ms)) refl (fine_joint j (part d p ms) (fine_part d p ms s f))

  fine_part : (d : ℕ) (p : Part) (ms : List Marked) → Stops ms → Fine ms → Fine (part d p ms)
  fine_part d (Bare name) ms s f = a_name Single in_single name ms s f
  fine_part d (Atom name as') ms s f =
      a_name Single in_single name (quiet t.Open (arguments wanted 1 as' (quiet t.Close ms))) refl (fine_arguments wanted wanted_leaves 1 as' (quiet t.Close ms) refl f)
  fine_part d (Without i b a) ms s f =
      fine_tree (d + 1) i (quiet t.Close ((Nests (d + 1), t.Limits) ∷ tree (d + 1) b (quiet t.Comma (tree (d + 1) a (quiet t.Square ms))))) refl
      (fine_tree (d + 1) b (quiet t.Comma (tree (d + 1) a (quiet t.Square ms))) refl
      (fine_tree (d + 1) a (quiet t.Square ms) refl f))
  fine_part d (Rounded r) ms s f = fine_round d r ms s f

  fine_round : (d : ℕ) (r : Round) (ms : List Marked) → Stops ms → Fine ms → Fine (round d r ms)
  fine_round d (Bracketed p) ms s f = fine_tree (d + 1) p (quiet t.Close ms) refl f
  fine_round d (Exactly r q) ms s f =
      fine_round d r (a_part t.Length ((Lasts q, t.Number q) ∷ ms)) refl
      (lone Single t.Length ((Lasts q, t.Number q) ∷ ms) refl (λ h. begins-append is_ascii_digit (decimal q) _ (decimal_begins q (and_parts (is_proper (t.Number q)) _ h).0)) (fine_length q ms s f))
  fine_round d (AtMost r q) ms s f = fine_round d r (binary t.Within ((Lasts q, t.Number q) ∷ ms)) refl (fine_length q ms s f)

-- ---- statements

fine_item : (name : List ℕ) (n : ℕ) (ms : List Marked) → Stops ms → Fine ms → Fine (quiet (t.Name name) (quiet t.Slash ((HasArity n, t.Number n) ∷ ms)))
fine_item name n ms s f = a_name Quiet in_quiet name (quiet t.Slash ((HasArity n, t.Number n) ∷ ms)) refl (a_number (HasArity n) (record { piece = λ x. refl }) n ms s f)

fine_items : (is : Items) (ms : List Marked) → Stops ms → Fine ms → Fine (items is ms)
fine_items (OneItem name n) ms s f = fine_item name n ms s f
fine_items (MoreItem is name n) ms s f =
    fine_items is ((Lists, t.Comma) ∷ quiet (t.Name name) (quiet t.Slash ((HasArity n, t.Number n) ∷ ms))) refl (fine_item name n ms s f)

fine_statement : (n : ℕ) (x : Statement) (ms : List Marked) → Fine ms → Fine (statement n x ms)
fine_statement n (Clause h p) ms f = fine_heading n h (quiet t.Arrow (tree 0 p (quiet t.End ms))) refl (fine_tree 0 p (quiet t.End ms) refl f)
fine_statement n (Shown is) ms f = fine_items is (quiet t.End ms) refl f

fine_statements : (ss : Statements) (ms : List Marked) → Fine ms → Fine (statements ss ms)
fine_statements Empty ms f = f
fine_statements (Then ss x) ms f = fine_statements ss (statement (number_of ss + 1) x ms) (fine_statement (number_of ss + 1) x ms f)

pub text_parted : (ss : Statements) → IsProper (text ss) → Parted (map piece_of (text ss)) ≡ true
text_parted ss = fine_statements ss [] (λ h. refl)
