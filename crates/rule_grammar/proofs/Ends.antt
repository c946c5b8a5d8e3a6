-- Each state can be completed to a text.
use Rattle.std.proofs.Common.{◌≡◌, ℕ, ◌+◌, List, [], ◌∷◌, refl, ap, ◌∙◌}
use Rattle.rule_lexer.specs.declared.terminals.Terminal.{Terminal}
use Rattle.rule_lexer.specs.declared.terminals.Terminal.TheVariants as t
use Rattle.rule_grammar.specs.Trees.{Literal.Digits, Literal.Minus, Literal.Symbol, Term, Term.Lone, Term.Compound, Arguments}
use Rattle.rule_grammar.specs.Trees.{HeadTerm, HeadTerm.Fixed, HeadTerms, Heading, Heading.Plainly, Heading.Applied}
use Rattle.rule_grammar.specs.Trees.{Condition, Condition.OneAll, Condition.MoreAll, All, All.OneNegation, All.MoreNegation, Negation, Negation.Negated, Negation.Compared, Comparison.OneSum, Comparison.TwoSums, Sum, Sum.OneProduct, Sum.MoreProduct, Product, Product.OneUnit, Product.MoreUnit, Unit', Unit'.Value, Unit'.Grouped}
use Rattle.rule_grammar.specs.Trees.{Tree, Tree.Plain, Tree.Filtered, Chain.One, Part, Part.Bare, Part.Atom, Part.Without, Part.Rounded, Round.Bracketed, Round.Exactly, Round.AtMost}
use Rattle.rule_grammar.specs.Trees.{Items, Statement.Clause, Statement.Shown, Statements, Statements.Then}
use Rattle.rule_grammar.specs.Marks.{Marked}
use Rattle.rule_grammar.specs.Marks.{Role.Quiet, Role.Single, Role.Nests, Role.Lasts, Role.HasArity}
use Rattle.rule_grammar.specs.Tokens.{quiet, a_part, term, arguments, wanted, never, head_term, head_terms, heading, condition, all, negation, sum, product, unit, tree, part, items, number_of, statements, text}
use Rattle.rule_grammar.specs.Lists.{Before, put_term, Nest, Nest.Outside, Nest.Inside, ListState, ListState.WantTerm, ListState.WantDigits, ListState.HaveName, ListState.HaveTerms, level, before, nest, list_so_far}
use Rattle.rule_grammar.specs.Machine.{ChainHead, TermsHead, ItemsHead, put, put_head, put_item}
use Rattle.rule_grammar.specs.Machine.{Stack, Stack.Body, Stack.InRound, Stack.InNot, Stack.InBefore, Stack.InAfter, Where', Where'.InWhere, Where'.InGroup, OrHead, OrHead.FirstAll, OrHead.NextAll, AndHead, AndHead.FirstNegation, AndHead.NextNegation, NotHead, NotHead.NoBang, NotHead.Bang, CompareHead, CompareHead.FirstSum, CompareHead.SecondSum, SumHead, SumHead.FirstProduct, SumHead.NextProduct, ProductHead, ProductHead.FirstUnit, ProductHead.NextUnit}
use Rattle.rule_grammar.specs.Machine.{State, State.Between, State.HeadName, State.WantHeadTerm, State.HeadMinus, State.HeadWord, State.HaveHeadTerms, State.InHead, State.HaveHead, State.WantItem, State.ItemName, State.ItemSlash, State.HaveItems, State.WantPart, State.AtomName, State.InAtom, State.WantOpen, State.WantLimits, State.HavePart, State.HaveRound, State.WantExact, State.WantMost, State.WantNegation, State.WantUnit, State.UnitMinus, State.UnitName, State.InOperand, State.HaveProduct}
use Rattle.rule_grammar.specs.Machine.{depth, where_depth, or_depth, and_depth, not_depth, compare_depth, sum_depth, product_depth, first_unit, chain_head, terms_head, items_head, begun, stack, where_head, or_head, and_head, not_head, compare_head, sum_head, product_head, atom_place, operand_place, head_place, so_far}
use Rattle.rule_grammar.proofs.Keeps.{put_reads, put_head_reads, put_item_reads, put_term_reads}

-- some tokens make a text of what was read
pub record Ends (was : List Marked → List Marked) : Type 0 where
  pub more : List Marked
  pub whole : Statements
  pub same : was more ≡ text whole

ends_along : {was was' : List Marked → List Marked} → ((ms : List Marked) → was ms ≡ was' ms) → Ends was' → Ends was
ends_along e h = record { more = h.more; whole = h.whole; same = e h.more ∙ h.same }

-- by a token more
ends_by : {was was' : List Marked → List Marked} (m : Marked) → ((ms : List Marked) → was (m ∷ ms) ≡ was' ms) → Ends was' → Ends was
ends_by m e h = record { more = m ∷ h.more; whole = h.whole; same = e h.more ∙ h.same }

-- Lists of arguments, where each list in its place can be completed.

nest_ends : {W O : Type 0} (spell : W → Terminal) (base : ℕ) (out : O → List Marked → List Marked)
    → ((o : O) (as' : Arguments W) → Ends (λ ms. out o (arguments spell base as' (quiet t.Close ms))))
    → (n : Nest W O) (as' : Arguments W) → Ends (λ ms. nest spell base out n (arguments spell (level base n) as' ms))
nest_ends spell base out f (Outside o) as' = ends_by (Quiet, t.Close) (λ ms. refl) (f o as')
nest_ends spell base out f (Inside n b name) as' =
    ends_by (Quiet, t.Close) (λ ms. ap (nest spell base out n) (put_term_reads spell (level base n) b (Compound name as') ms)) (nest_ends spell base out f n (put_term b (Compound name as')))

term_ends : {W O : Type 0} (spell : W → Terminal) (base : ℕ) (out : O → List Marked → List Marked)
    → ((o : O) (as' : Arguments W) → Ends (λ ms. out o (arguments spell base as' (quiet t.Close ms))))
    → (n : Nest W O) (b : Before W) (a : Term W) → Ends (λ ms. nest spell base out n (before spell (level base n) b (term spell Quiet (level base n) a ms)))
term_ends spell base out f n b a = ends_along (λ ms. ap (nest spell base out n) (put_term_reads spell (level base n) b a ms)) (nest_ends spell base out f n (put_term b a))

list_ends : {W O : Type 0} (spell : W → Terminal) (base : ℕ) (out : O → List Marked → List Marked)
    → ((o : O) (as' : Arguments W) → Ends (λ ms. out o (arguments spell base as' (quiet t.Close ms))))
    → (s : ListState W O) → Ends (list_so_far spell base out s)
list_ends spell base out f (WantTerm n b) = ends_by (Quiet, t.Number 0) (λ ms. refl) (term_ends spell base out f n b (Lone (Digits 0)))
list_ends spell base out f (WantDigits n b) = ends_by (Quiet, t.Number 0) (λ ms. refl) (term_ends spell base out f n b (Lone (Minus 0)))
list_ends spell base out f (HaveName n b name) = ends_along (λ ms. refl) (term_ends spell base out f n b (Lone (Symbol name)))
list_ends spell base out f (HaveTerms n as') = nest_ends spell base out f n as'

-- Patterns and conditions.

stack_ends : (k : Stack) (p : Tree) → Ends (λ ms. stack k (tree (depth k) p ms))
stack_ends (Body ss h) p = record { more = quiet t.End []; whole = Then ss (Clause h p); same = refl }
stack_ends (InRound h k) p =
    ends_by (Quiet, t.Close) (λ ms. ap (stack k) (put_reads (depth k) h (Rounded (Bracketed p)) ms)) (stack_ends k (Plain (put h (Rounded (Bracketed p)))))
stack_ends (InNot h k) p =
    let bare : Tree = Plain (One (Bare (97 ∷ []))) in
    let rest : List Marked → List Marked = λ ms. (Nests (depth k + 1), t.Limits) ∷ tree (depth k + 1) bare (quiet t.Comma (tree (depth k + 1) bare (quiet t.Square ms))) in
    let e = stack_ends k (Plain (put h (Without p bare bare))) in
    record { more = quiet t.Close (rest e.more); whole = e.whole; same = ap (stack k) (put_reads (depth k) h (Without p bare bare) e.more) ∙ e.same }
stack_ends (InBefore h i k) p =
    let bare : Tree = Plain (One (Bare (97 ∷ []))) in
    let e = stack_ends k (Plain (put h (Without i p bare))) in
    record { more = quiet t.Comma (tree (depth k + 1) bare (quiet t.Square e.more)); whole = e.whole; same = ap (stack k) (put_reads (depth k) h (Without i p bare) e.more) ∙ e.same }
stack_ends (InAfter h i b k) p = ends_by (Quiet, t.Square) (λ ms. ap (stack k) (put_reads (depth k) h (Without i b p) ms)) (stack_ends k (Plain (put h (Without i b p))))

part_ends : (h : ChainHead) (k : Stack) (p : Part) → Ends (λ ms. stack k (chain_head (depth k) h (part (depth k) p ms)))
part_ends h k p = ends_along (λ ms. ap (stack k) (put_reads (depth k) h p ms)) (stack_ends k (Plain (put h p)))

mutual
  where_ends : (w : Where') (c : Condition) → Ends (λ ms. where_head w (condition (where_depth w) c ms))
  where_ends (InWhere p k) c = stack_ends k (Filtered p c)
  where_ends (InGroup h) c = ends_by (Quiet, t.Close) (λ ms. refl) (product_ends h (Grouped c))

  or_ends : (o : OrHead) (a : All) → Ends (λ ms. or_head o (all (or_depth o) a ms))
  or_ends (FirstAll w) a = where_ends w (OneAll a)
  or_ends (NextAll w c) a = where_ends w (MoreAll c a)

  and_ends : (h : AndHead) (n : Negation) → Ends (λ ms. and_head h (negation (and_depth h) n ms))
  and_ends (FirstNegation o) n = or_ends o (OneNegation n)
  and_ends (NextNegation o a) n = or_ends o (MoreNegation a n)

  not_ends : (h : NotHead) (n : Negation) → Ends (λ ms. not_head h (negation (not_depth h) n ms))
  not_ends (NoBang a) n = and_ends a n
  not_ends (Bang h) n = not_ends h (Negated n)

  compare_ends : (h : CompareHead) (s : Sum) → Ends (λ ms. compare_head h (sum (compare_depth h) s ms))
  compare_ends (FirstSum n) s = not_ends n (Compared (OneSum s))
  compare_ends (SecondSum n l cmp) s = not_ends n (Compared (TwoSums l cmp s))

  sum_ends : (h : SumHead) (p : Product) → Ends (λ ms. sum_head h (product (sum_depth h) p ms))
  sum_ends (FirstProduct c) p = compare_ends c (OneProduct p)
  sum_ends (NextProduct c s op) p = compare_ends c (MoreProduct s op p)

  product_ends : (h : ProductHead) (u : Unit') → Ends (λ ms. product_head h (unit (product_depth h) u ms))
  product_ends (FirstUnit s) u = sum_ends s (OneUnit u)
  product_ends (NextUnit s p op) u = sum_ends s (MoreUnit p op u)

number_ends : (h : ProductHead) → Ends (product_head h)
number_ends h = ends_by (Single, t.Number 0) (λ ms. refl) (product_ends h (Value (Lone (Digits 0))))

heading_ends : (ss : Statements) (h : Heading) → Ends (λ ms. statements ss (heading (number_of ss + 1) h ms))
heading_ends ss h = record { more = quiet t.Arrow (a_part (t.Name (97 ∷ [])) (quiet t.End [])); whole = Then ss (Clause h (Plain (One (Bare (97 ∷ []))))); same = refl }

terms_ends : (ss : Statements) (name : List ℕ) (as' : HeadTerms) → Ends (λ ms. begun ss (t.Name name) (quiet t.Open (head_terms as' ms)))
terms_ends ss name as' = ends_by (Quiet, t.Close) (λ ms. refl) (heading_ends ss (Applied name as'))

head_term_ends : (ss : Statements) (name : List ℕ) (h : TermsHead) (a : HeadTerm) → Ends (λ ms. begun ss (t.Name name) (quiet t.Open (terms_head h (head_term a ms))))
head_term_ends ss name h a = ends_along (λ ms. ap (λ ns. begun ss (t.Name name) (quiet t.Open ns)) (put_head_reads h a ms)) (terms_ends ss name (put_head h a))

items_ends : (ss : Statements) (is : Items) → Ends (λ ms. begun ss t.Show (items is ms))
items_ends ss is = record { more = quiet t.End []; whole = Then ss (Shown is); same = refl }

item_ends : (ss : Statements) (h : ItemsHead) (name : List ℕ) → Ends (λ ms. begun ss t.Show (items_head h (quiet (t.Name name) (quiet t.Slash ms))))
item_ends ss h name = ends_by (HasArity 0, t.Number 0) (λ ms. ap (begun ss t.Show) (put_item_reads h name 0 ms)) (items_ends ss (put_item h name 0))

pub ends : (s : State) → Ends (so_far s)
ends (Between ss) = record { more = []; whole = ss; same = refl }
ends (HeadName ss name) = heading_ends ss (Plainly name)
ends (WantHeadTerm ss name h) = ends_by (Quiet, t.Number 0) (λ ms. refl) (head_term_ends ss name h (Fixed (Lone (Digits 0))))
ends (HeadMinus ss name h) = ends_by (Quiet, t.Number 0) (λ ms. refl) (head_term_ends ss name h (Fixed (Lone (Minus 0))))
ends (HeadWord ss name h w) = head_term_ends ss name h (Fixed (Lone (Symbol w)))
ends (HaveHeadTerms ss name as') = terms_ends ss name as'
ends (InHead s) = list_ends never 2 head_place (λ o as'. head_term_ends o.0 o.1 o.2 (Fixed (Compound o.3 as'))) s
ends (HaveHead ss h) = heading_ends ss h
ends (WantItem ss h) = ends_by (Quiet, t.Name (97 ∷ [])) (λ ms. refl) (ends_by (Quiet, t.Slash) (λ ms. refl) (item_ends ss h (97 ∷ [])))
ends (ItemName ss h name) = ends_by (Quiet, t.Slash) (λ ms. refl) (item_ends ss h name)
ends (ItemSlash ss h name) = item_ends ss h name
ends (HaveItems ss is) = items_ends ss is
ends (WantPart h k) = ends_by (Single, t.Name (97 ∷ [])) (λ ms. refl) (part_ends h k (Bare (97 ∷ [])))
ends (AtomName h k name) = part_ends h k (Bare name)
ends (InAtom s) = list_ends wanted 1 atom_place (λ o as'. part_ends o.0 o.1 (Atom o.2 as')) s
ends (WantOpen h k) = ends_by (Nests (depth k + 1), t.Open) (λ ms. refl) (ends_by (Single, t.Name (97 ∷ [])) (λ ms. refl) (stack_ends (InNot h k) (Plain (One (Bare (97 ∷ []))))))
ends (WantLimits h i k) = ends_by (Nests (depth k + 1), t.Limits) (λ ms. refl) (ends_by (Single, t.Name (97 ∷ [])) (λ ms. refl) (stack_ends (InBefore h i k) (Plain (One (Bare (97 ∷ []))))))
ends (HavePart c k) = stack_ends k (Plain c)
ends (HaveRound h r k) = part_ends h k (Rounded r)
ends (WantExact h r k) = ends_by (Lasts 0, t.Number 0) (λ ms. refl) (part_ends h k (Rounded (Exactly r 0)))
ends (WantMost h r k) = ends_by (Lasts 0, t.Number 0) (λ ms. refl) (part_ends h k (Rounded (AtMost r 0)))
ends (WantNegation n) = number_ends (first_unit (FirstSum n))
ends (WantUnit h) = number_ends h
ends (UnitMinus h) = ends_by (Quiet, t.Number 0) (λ ms. refl) (product_ends h (Value (Lone (Minus 0))))
ends (UnitName h name) = product_ends h (Value (Lone (Symbol name)))
ends (InOperand s) = list_ends t.Var 2 operand_place (λ o as'. product_ends o.0 (Value (Compound o.1 as'))) s
ends (HaveProduct h p) = sum_ends h p
