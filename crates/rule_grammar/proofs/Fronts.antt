-- The tokens of a tree stand before rest, and none of them begins a statement.
use Rattle.std.proofs.Common.{◌≡◌, ℕ, ◌+◌, List, [], ◌∷◌, ◌++◌, refl, sym, ap, ◌∙◌, append_assoc}
use Rattle.rule_lexer.specs.declared.terminals.Terminal.{Terminal}
use Rattle.rule_lexer.specs.declared.terminals.Terminal.TheVariants as t
use Rattle.rule_grammar.specs.Trees.{Literal, Literal.Digits, Literal.Minus, Literal.Least, Literal.Symbol, Literal.Quoted, Term, Term.Leaf, Term.Lone, Term.Compound, Arguments, Arguments.First, Arguments.Next}
use Rattle.rule_grammar.specs.Trees.{HeadTerm, HeadTerm.Leading, HeadTerm.Fixed, HeadTerms, HeadTerms.FirstTerm, HeadTerms.NextTerm, Heading.Plainly, Heading.Applied}
use Rattle.rule_grammar.specs.Trees.{Condition, Condition.OneAll, Condition.MoreAll, All, All.OneNegation, All.MoreNegation, Negation, Negation.Negated, Negation.Compared, Comparison, Comparison.OneSum, Comparison.TwoSums, Sum, Sum.OneProduct, Sum.MoreProduct, Product, Product.OneUnit, Product.MoreUnit, Unit', Unit'.Value, Unit'.Grouped}
use Rattle.rule_grammar.specs.Trees.{Tree, Tree.Plain, Tree.Filtered, Chain, Chain.One, Chain.More, Part, Part.Bare, Part.Atom, Part.Without, Part.Rounded, Round, Round.Bracketed, Round.Exactly, Round.AtMost}
use Rattle.rule_grammar.specs.Trees.{Items, Items.OneItem, Items.MoreItem, Statement, Statement.Clause, Statement.Shown}
use Rattle.rule_grammar.specs.Marks.{Role, Marked}
use Rattle.rule_grammar.specs.Marks.{Role.Quiet, Role.Starts, Role.Single, Role.Binary, Role.Nests, Role.Deepens, Role.Counts, Role.Lists, Role.Lasts, Role.HasArity}
use Rattle.rule_grammar.specs.Tokens.{quiet, literal, count_of, term, arguments, wanted, never, head_term, count_of_terms, head_terms, adding, scaling, joint, condition, all, negation, comparison, sum, product, unit, tree, chain, part, round, items, statement, text}

abbrev pub IsInner : Role → Type 0
IsInner (Starts n) = ⊥
IsInner r = Unit {0}

abbrev pub AllInner : List Marked → Type 0
AllInner [] = Unit {0}
AllInner (m ∷ ms) = IsInner m.0 × AllInner ms

pub record Puts (f : List Marked → List Marked) : Type 0 where
  pub front : List Marked
  pub inner : AllInner front
  pub same : (rest : List Marked) → f rest ≡ front ++ rest

inner-append : (xs ys : List Marked) → AllInner xs → AllInner ys → AllInner (xs ++ ys)
inner-append [] ys h k = k
inner-append (x ∷ xs) ys h k = (h.0, inner-append xs ys h.1 k)

nothing : Puts (λ rest. rest)
nothing = record { front = []; inner = tt; same = λ rest. refl }

token : (m : Marked) → IsInner m.0 → {f : List Marked → List Marked} → Puts f → Puts (λ rest. m ∷ f rest)
token m i p = record { front = m ∷ p.front; inner = (i, p.inner); same = λ rest. ap (λ xs. m ∷ xs) (p.same rest) }

before : {f g : List Marked → List Marked} → Puts f → Puts g → Puts (λ rest. f (g rest))
before {f} {g} p q = record {
  front = p.front ++ q.front;
  inner = inner-append p.front q.front p.inner q.inner;
  same = λ rest. ap f (q.same rest) ∙ p.same (q.front ++ rest) ∙ sym (append_assoc p.front q.front rest);
}

last : (m : Marked) → IsInner m.0 → Puts (λ rest. m ∷ rest)
last m i = token m i nothing

literal_puts : (r : Role) → IsInner r → (l : Literal) → Puts (literal r l)
literal_puts r i (Digits n) = last (r, t.Number n) i
literal_puts r i (Minus n) = token (r, t.Minus) i (last (Quiet, t.Number n) tt)
literal_puts r i Least = token (r, t.Minus) i (last (Quiet, t.Huge) tt)
literal_puts r i (Symbol name) = last (r, t.Name name) i
literal_puts r i (Quoted text) = last (r, t.Text text) i

mutual
  term_puts : {W : Type 0} (spell : W → Terminal) (r : Role) → IsInner r → (d : ℕ) (a : Term W) → Puts (term spell r d a)
  term_puts spell r i d (Leaf w) = last (r, spell w) i
  term_puts spell r i d (Lone l) = literal_puts r i l
  term_puts spell r i d (Compound name as') = token (r, t.Name name) i (token (Deepens (d + 1), t.Open) tt (before (arguments_put spell (d + 1) as') (last (Quiet, t.Close) tt)))

  arguments_put : {W : Type 0} (spell : W → Terminal) (d : ℕ) (as' : Arguments W) → Puts (arguments spell d as')
  arguments_put spell d (First a) = term_puts spell Quiet tt d a
  arguments_put spell d (Next as' a) = before (arguments_put spell d as') (token (Counts (count_of as' + 1), t.Comma) tt (term_puts spell Quiet tt d a))

head_term_puts : (a : HeadTerm) → Puts (head_term a)
head_term_puts (Leading name) = last (Quiet, t.Var name) tt
head_term_puts (Fixed a) = term_puts never Quiet tt 1 a

head_terms_put : (as' : HeadTerms) → Puts (head_terms as')
head_terms_put (FirstTerm a) = head_term_puts a
head_terms_put (NextTerm as' a) = before (head_terms_put as') (token (Counts (count_of_terms as' + 1), t.Comma) tt (head_term_puts a))

mutual
  condition_puts : (d : ℕ) (c : Condition) → Puts (condition d c)
  condition_puts d (OneAll a) = all_puts d a
  condition_puts d (MoreAll c a) = before (condition_puts d c) (token (Binary, t.Either) tt (all_puts d a))

  all_puts : (d : ℕ) (a : All) → Puts (all d a)
  all_puts d (OneNegation n) = negation_puts d n
  all_puts d (MoreNegation a n) = before (all_puts d a) (token (Binary, t.Both) tt (negation_puts d n))

  negation_puts : (d : ℕ) (n : Negation) → Puts (negation d n)
  negation_puts d (Negated n) = token (Single, t.Bang) tt (negation_puts d n)
  negation_puts d (Compared c) = comparison_puts d c

  comparison_puts : (d : ℕ) (c : Comparison) → Puts (comparison d c)
  comparison_puts d (OneSum s) = sum_puts d s
  comparison_puts d (TwoSums l cmp r) = before (sum_puts d l) (token (Binary, t.Compare cmp) tt (sum_puts d r))

  sum_puts : (d : ℕ) (s : Sum) → Puts (sum d s)
  sum_puts d (OneProduct p) = product_puts d p
  sum_puts d (MoreProduct s op p) = before (sum_puts d s) (token (Binary, adding op) tt (product_puts d p))

  product_puts : (d : ℕ) (p : Product) → Puts (product d p)
  product_puts d (OneUnit u) = unit_puts d u
  product_puts d (MoreUnit p op u) = before (product_puts d p) (token (Binary, scaling op) tt (unit_puts d u))

  unit_puts : (d : ℕ) (u : Unit') → Puts (unit d u)
  unit_puts d (Value a) = term_puts t.Var Single tt 1 a
  unit_puts d (Grouped c) = token (Nests (d + 1), t.Open) tt (before (condition_puts (d + 1) c) (last (Quiet, t.Close) tt))

mutual
  tree_puts : (d : ℕ) (p : Tree) → Puts (tree d p)
  tree_puts d (Plain c) = chain_puts d c
  tree_puts d (Filtered p c) = before (tree_puts d p) (token (Binary, t.Where) tt (condition_puts d c))

  chain_puts : (d : ℕ) (c : Chain) → Puts (chain d c)
  chain_puts d (One p) = part_puts d p
  chain_puts d (More c j p) = before (chain_puts d c) (token (Binary, joint j) tt (part_puts d p))

  part_puts : (d : ℕ) (p : Part) → Puts (part d p)
  part_puts d (Bare name) = last (Single, t.Name name) tt
  part_puts d (Atom name as') = token (Single, t.Name name) tt (token (Quiet, t.Open) tt (before (arguments_put wanted 1 as') (last (Quiet, t.Close) tt)))
  part_puts d (Without i b a) =
      token (Single, t.Not) tt (token (Nests (d + 1), t.Open) tt (before (tree_puts (d + 1) i) (token (Quiet, t.Close) tt
      (token (Nests (d + 1), t.Limits) tt (before (tree_puts (d + 1) b) (token (Quiet, t.Comma) tt (before (tree_puts (d + 1) a) (last (Quiet, t.Square) tt))))))))
  part_puts d (Rounded r) = round_puts d r

  round_puts : (d : ℕ) (r : Round) → Puts (round d r)
  round_puts d (Bracketed p) = token (Nests (d + 1), t.Open) tt (before (tree_puts (d + 1) p) (last (Quiet, t.Close) tt))
  round_puts d (Exactly r q) = before (round_puts d r) (token (Single, t.Length) tt (last (Lasts q, t.Number q) tt))
  round_puts d (AtMost r q) = before (round_puts d r) (token (Binary, t.Within) tt (last (Lasts q, t.Number q) tt))

items_put : (is : Items) → Puts (items is)
items_put (OneItem name n) = token (Quiet, t.Name name) tt (token (Quiet, t.Slash) tt (last (HasArity n, t.Number n) tt))
items_put (MoreItem is name n) = before (items_put is) (token (Lists, t.Comma) tt (token (Quiet, t.Name name) tt (token (Quiet, t.Slash) tt (last (HasArity n, t.Number n) tt))))

abbrev pub IsNoVariable : Terminal → Type 0
IsNoVariable (t.Var name) = ⊥
IsNoVariable x = Unit {0}

-- a statement's first token alone tells its number, and is no variable
pub record Begins (f : ℕ → List Marked → List Marked) : Type 0 where
  pub first : Terminal
  pub no_variable : IsNoVariable first
  pub onward : List Marked → List Marked
  pub puts : Puts onward
  pub same : (n : ℕ) (rest : List Marked) → f n rest ≡ (Starts n, first) ∷ onward rest

body_puts : (p : Tree) → Puts (λ rest. quiet t.Arrow (tree 0 p (quiet t.End rest)))
body_puts p = token (Quiet, t.Arrow) tt (before (tree_puts 0 p) (last (Quiet, t.End) tt))

pub statement_begins : (s : Statement) → Begins (λ n rest. statement n s rest)
statement_begins (Clause (Plainly name) p) = record { first = t.Name name; no_variable = tt; onward = λ rest. quiet t.Arrow (tree 0 p (quiet t.End rest)); puts = body_puts p; same = λ n rest. refl }
statement_begins (Clause (Applied name as') p) = record {
  first = t.Name name;
  no_variable = tt;
  onward = λ rest. quiet t.Open (head_terms as' (quiet t.Close (quiet t.Arrow (tree 0 p (quiet t.End rest)))));
  puts = token (Quiet, t.Open) tt (before (head_terms_put as') (token (Quiet, t.Close) tt (body_puts p)));
  same = λ n rest. refl;
}
statement_begins (Shown is) = record { first = t.Show; no_variable = tt; onward = λ rest. items is (quiet t.End rest); puts = before (items_put is) (last (Quiet, t.End) tt); same = λ n rest. refl }
