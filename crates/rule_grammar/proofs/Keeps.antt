-- A step keeps all that was read.
use Rattle.std.proofs.Common.{◌≡◌, ℕ, ◌+◌, List, ◌∷◌, Option, Some, None, MatchOption, refl, ap, ◌∙◌}
use Rattle.rule_lexer.specs.declared.terminals.Terminal.{Terminal}
use Rattle.rule_lexer.specs.declared.terminals.Terminal.TheVariants as t
use Rattle.rule_grammar.specs.Trees.{Literal.Digits, Literal.Minus, Literal.Least, Literal.Symbol, Literal.Quoted, Term, Term.Leaf, Term.Lone, Term.Compound, Arguments}
use Rattle.rule_grammar.specs.Trees.{Wanted, HeadTerm, HeadTerm.Leading, HeadTerm.Fixed, HeadTerms}
use Rattle.rule_grammar.specs.Trees.{Condition, All, Negation, Negation.Negated, Negation.Compared, Comparison, Sum, Product, Product.OneUnit, Product.MoreUnit, Unit', Unit'.Value, Unit'.Grouped}
use Rattle.rule_grammar.specs.Trees.{Tree, Tree.Plain, Tree.Filtered, Chain, Part, Part.Bare, Part.Atom, Part.Without, Part.Rounded}
use Rattle.rule_grammar.specs.Trees.{Statements}
use Rattle.rule_grammar.specs.Marks.{Marked}
use Rattle.rule_grammar.specs.Marks.{Role.Quiet, Role.Counts, Role.HasArity}
use Rattle.rule_grammar.specs.Tokens.{quiet, count_of, term, arguments, wanted, never, head_term, head_terms, condition, all, negation, comparison, sum, product, unit, tree, chain, part, items, text}
use Rattle.rule_grammar.specs.Lists.{Before, Before.Start, Before.Behind, put_term, Nest, Nest.Outside, Nest.Inside, ListState, ListState.WantTerm, ListState.WantDigits, ListState.HaveName, ListState.HaveTerms, Turn, Turn.Stay, Turn.Leave, Turn.Stuck, level, have_leaf, behind_terms, list_step, before, nest, list_so_far}
use Rattle.rule_grammar.specs.Machine.{ChainHead, ChainHead.FirstPart, ChainHead.NextPart, TermsHead, TermsHead.FirstOfHead, TermsHead.NextOfHead, ItemsHead, ItemsHead.FirstShown, ItemsHead.NextShown, put, put_head, put_item}
use Rattle.rule_grammar.specs.Machine.{Stack, Stack.Body, Stack.InRound, Stack.InNot, Stack.InBefore, Stack.InAfter, Where', Where'.InWhere, Where'.InGroup, OrHead, OrHead.FirstAll, OrHead.NextAll, AndHead, AndHead.FirstNegation, AndHead.NextNegation, NotHead, NotHead.NoBang, NotHead.Bang, CompareHead, CompareHead.FirstSum, CompareHead.SecondSum, SumHead, SumHead.FirstProduct, SumHead.NextProduct, ProductHead, ProductHead.FirstUnit, ProductHead.NextUnit}
use Rattle.rule_grammar.specs.Machine.{AtomPlace, OperandPlace, HeadPlace, State, State.Between, State.HeadName, State.WantHeadTerm, State.HeadMinus, State.HeadWord, State.HaveHeadTerms, State.InHead, State.HaveHead, State.WantItem, State.ItemName, State.ItemSlash, State.HaveItems, State.WantPart, State.AtomName, State.InAtom, State.WantOpen, State.WantLimits, State.HavePart, State.HaveRound, State.WantExact, State.WantMost, State.WantNegation, State.WantUnit, State.UnitMinus, State.UnitName, State.InOperand, State.HaveProduct}
use Rattle.rule_grammar.specs.Machine.{depth, where_depth, or_depth, and_depth, not_depth, compare_depth, sum_depth, product_depth, have_unit, over_product, over_sum, over_negation, over_all, over_condition, Step, first_unit, behind, behind_chain, behind_condition, behind_all, behind_negation, behind_comparison, behind_sum, behind_all_products, behind_product, behind_unit, want_unit, reads_nothing, reads_wanted, reads_variable, in_head, in_atom, in_operand, behind_head_terms, step, chain_head, terms_head, items_head, begun, stack, where_head, or_head, and_head, not_head, compare_head, sum_head, product_head, atom_place, operand_place, head_place, so_far}

pub put_reads : (d : ℕ) (h : ChainHead) (p : Part) (rest : List Marked) → chain_head d h (part d p rest) ≡ chain d (put h p) rest
put_reads d FirstPart p rest = refl
put_reads d (NextPart c j) p rest = refl

pub put_head_reads : (h : TermsHead) (a : HeadTerm) (rest : List Marked) → terms_head h (head_term a rest) ≡ head_terms (put_head h a) rest
put_head_reads FirstOfHead a rest = refl
put_head_reads (NextOfHead as') a rest = refl

pub put_item_reads : (h : ItemsHead) (name : List ℕ) (n : ℕ) (rest : List Marked)
    → items_head h (quiet (t.Name name) (quiet t.Slash ((HasArity n, t.Number n) ∷ rest))) ≡ items (put_item h name n) rest
put_item_reads FirstShown name n rest = refl
put_item_reads (NextShown is) name n rest = refl

pub put_term_reads : {W : Type 0} (spell : W → Terminal) (d : ℕ) (b : Before W) (a : Term W) (rest : List Marked)
    → before spell d b (term spell Quiet d a rest) ≡ arguments spell d (put_term b a) rest
put_term_reads spell d Start a rest = refl
put_term_reads spell d (Behind as') a rest = refl

-- In lists of arguments.

abbrev ListKeeps : {W O : Type 0} → (W → Terminal) → ℕ → (O → List Marked → List Marked) → (List Marked → List Marked) → Terminal → List Marked → Turn W O → Type 0
ListKeeps spell base out was x rest (Stay r s) = was ((r, x) ∷ rest) ≡ list_so_far spell base out s rest
ListKeeps spell base out was x rest (Leave o as') = was ((Quiet, x) ∷ rest) ≡ out o (arguments spell base as' (quiet t.Close rest))
ListKeeps spell base out was x rest Stuck = Unit {0}

behind_terms_keep : {W O : Type 0} (spell : W → Terminal) (base : ℕ) (out : O → List Marked → List Marked) (n : Nest W O) (as' : Arguments W) (x : Terminal) (rest : List Marked)
    → ListKeeps spell base out (λ ms. nest spell base out n (arguments spell (level base n) as' ms)) x rest (behind_terms n as' x)
behind_terms_keep spell base out n as' t.Comma rest = refl
behind_terms_keep spell base out (Outside o) as' t.Close rest = refl
behind_terms_keep spell base out (Inside n b name) as' t.Close rest = ap (nest spell base out n) (put_term_reads spell (level base n) b (Compound name as') rest)
behind_terms_keep spell base out n as' x rest = tt

leaf_keeps : {W O : Type 0} (spell : W → Terminal) (base : ℕ) (out : O → List Marked → List Marked) (n : Nest W O) (b : Before W) (x : Terminal) (rest : List Marked) (o : Option W)
    → MatchOption o (Unit {0}) (λ w. x ≡ spell w)
    → ListKeeps spell base out (λ ms. nest spell base out n (before spell (level base n) b ms)) x rest (have_leaf n b o)
leaf_keeps spell base out n b x rest None h = tt
leaf_keeps spell base out n b x rest (Some w) h =
    ap (λ y. nest spell base out n (before spell (level base n) b ((Quiet, y) ∷ rest))) h ∙ ap (nest spell base out n) (put_term_reads spell (level base n) b (Leaf w) rest)

list_step_keeps : {W O : Type 0} (spell : W → Terminal) (reads : Terminal → Option W) (base : ℕ) (out : O → List Marked → List Marked)
    → ((x : Terminal) → MatchOption (reads x) (Unit {0}) (λ w. x ≡ spell w))
    → (s : ListState W O) (x : Terminal) (rest : List Marked) → ListKeeps spell base out (list_so_far spell base out s) x rest (list_step reads base s x)
list_step_keeps spell reads base out h (WantTerm n b) (t.Number k) rest = ap (nest spell base out n) (put_term_reads spell (level base n) b (Lone (Digits k)) rest)
list_step_keeps spell reads base out h (WantTerm n b) t.Minus rest = refl
list_step_keeps spell reads base out h (WantTerm n b) (t.Text text) rest = ap (nest spell base out n) (put_term_reads spell (level base n) b (Lone (Quoted text)) rest)
list_step_keeps spell reads base out h (WantTerm n b) (t.Name name) rest = refl
list_step_keeps spell reads base out h (WantTerm n b) x rest = leaf_keeps spell base out n b x rest (reads x) (h x)
list_step_keeps spell reads base out h (WantDigits n b) (t.Number k) rest = ap (nest spell base out n) (put_term_reads spell (level base n) b (Lone (Minus k)) rest)
list_step_keeps spell reads base out h (WantDigits n b) t.Huge rest = ap (nest spell base out n) (put_term_reads spell (level base n) b (Lone Least) rest)
list_step_keeps spell reads base out h (WantDigits n b) x rest = tt
list_step_keeps spell reads base out h (HaveName n b name) t.Open rest = refl
list_step_keeps spell reads base out h (HaveName n b name) t.Comma rest = ap (nest spell base out n) (put_term_reads spell (level base n) b (Lone (Symbol name)) ((Counts (count_of (put_term b (Lone (Symbol name))) + 1), t.Comma) ∷ rest))
list_step_keeps spell reads base out h (HaveName n b name) x rest =
    list_along spell base out (λ ms. ap (nest spell base out n) (put_term_reads spell (level base n) b (Lone (Symbol name)) ms)) x rest (behind_terms n (put_term b (Lone (Symbol name))) x)
    (behind_terms_keep spell base out n (put_term b (Lone (Symbol name))) x rest)
  where
    list_along : {W O : Type 0} (spell : W → Terminal) (base : ℕ) (out : O → List Marked → List Marked) {was was' : List Marked → List Marked} → ((ms : List Marked) → was ms ≡ was' ms)
        → (x : Terminal) (rest : List Marked) (s : Turn W O) → ListKeeps spell base out was' x rest s → ListKeeps spell base out was x rest s
    list_along spell base out e x rest (Stay r s) h = e ((r, x) ∷ rest) ∙ h
    list_along spell base out e x rest (Leave o as') h = e ((Quiet, x) ∷ rest) ∙ h
    list_along spell base out e x rest Stuck h = tt
list_step_keeps spell reads base out h (HaveTerms n as') x rest = behind_terms_keep spell base out n as' x rest

-- In patterns and conditions.

abbrev pub Keeps : (List Marked → List Marked) → Terminal → List Marked → Step → Type 0
Keeps was x rest s = MatchOption s (Unit {0}) (λ y. was ((y.0, x) ∷ rest) ≡ so_far y.1 rest)

along : {was was' : List Marked → List Marked} → ((ms : List Marked) → was ms ≡ was' ms) → (x : Terminal) (rest : List Marked) (s : Step) → Keeps was' x rest s → Keeps was x rest s
along e x rest None h = tt
along e x rest (Some y) h = e ((y.0, x) ∷ rest) ∙ h

pub have_unit_reads : (h : ProductHead) (u : Unit') (rest : List Marked) → product_head h (unit (product_depth h) u rest) ≡ so_far (have_unit h u) rest
have_unit_reads (FirstUnit s) u rest = refl
have_unit_reads (NextUnit s p op) u rest = refl

over_product_reads : (h : SumHead) (p : Product) (rest : List Marked)
    → sum_head h (product (sum_depth h) p rest) ≡ compare_head (over_product h p).0 (sum (compare_depth (over_product h p).0) (over_product h p).1 rest)
over_product_reads (FirstProduct c) p rest = refl
over_product_reads (NextProduct c s op) p rest = refl

over_sum_reads : (h : CompareHead) (s : Sum) (rest : List Marked)
    → compare_head h (sum (compare_depth h) s rest) ≡ not_head (over_sum h s).0 (comparison (not_depth (over_sum h s).0) (over_sum h s).1 rest)
over_sum_reads (FirstSum n) s rest = refl
over_sum_reads (SecondSum n l cmp) s rest = refl

over_negation_reads : (h : NotHead) (n : Negation) (rest : List Marked)
    → not_head h (negation (not_depth h) n rest) ≡ and_head (over_negation h n).0 (negation (and_depth (over_negation h n).0) (over_negation h n).1 rest)
over_negation_reads (NoBang a) n rest = refl
over_negation_reads (Bang h) n rest = over_negation_reads h (Negated n) rest

over_all_reads : (h : AndHead) (n : Negation) (rest : List Marked)
    → and_head h (negation (and_depth h) n rest) ≡ or_head (over_all h n).0 (all (or_depth (over_all h n).0) (over_all h n).1 rest)
over_all_reads (FirstNegation o) n rest = refl
over_all_reads (NextNegation o a) n rest = refl

over_condition_reads : (h : OrHead) (a : All) (rest : List Marked)
    → or_head h (all (or_depth h) a rest) ≡ where_head (over_condition h a).0 (condition (where_depth (over_condition h a).0) (over_condition h a).1 rest)
over_condition_reads (FirstAll w) a rest = refl
over_condition_reads (NextAll w c) a rest = refl

behind_keeps : (k : Stack) (p : Tree) (x : Terminal) (rest : List Marked) → Keeps (λ ms. stack k (tree (depth k) p ms)) x rest (behind k p x)
behind_keeps k p t.Where rest = refl
behind_keeps (Body ss h) p t.End rest = refl
behind_keeps (InRound h k) p t.Close rest = refl
behind_keeps (InNot h k) p t.Close rest = refl
behind_keeps (InBefore h i k) p t.Comma rest = refl
behind_keeps (InAfter h i b k) p t.Square rest = ap (stack k) (put_reads (depth k) h (Without i b p) rest)
behind_keeps k p x rest = tt

behind_chain_keeps : (k : Stack) (c : Chain) (x : Terminal) (rest : List Marked) → Keeps (λ ms. stack k (chain (depth k) c ms)) x rest (behind_chain k c x)
behind_chain_keeps k c (t.Op op) rest = refl
behind_chain_keeps k c t.Or rest = refl
behind_chain_keeps k c x rest = behind_keeps k (Plain c) x rest

behind_condition_keeps : (w : Where') (c : Condition) (x : Terminal) (rest : List Marked) → Keeps (λ ms. where_head w (condition (where_depth w) c ms)) x rest (behind_condition w c x)
behind_condition_keeps w c t.Either rest = refl
behind_condition_keeps (InWhere p k) c x rest = behind_keeps k (Filtered p c) x rest
behind_condition_keeps (InGroup h) c t.Close rest = have_unit_reads h (Grouped c) rest
behind_condition_keeps (InGroup h) c x rest = tt

behind_all_keeps : (o : OrHead) (a : All) (x : Terminal) (rest : List Marked) → Keeps (λ ms. or_head o (all (or_depth o) a ms)) x rest (behind_all o a x)
behind_all_keeps o a t.Both rest = refl
behind_all_keeps o a x rest = along (over_condition_reads o a) x rest (behind_condition (over_condition o a).0 (over_condition o a).1 x) (behind_condition_keeps (over_condition o a).0 (over_condition o a).1 x rest)

behind_negation_keeps : (h : AndHead) (n : Negation) (x : Terminal) (rest : List Marked) → Keeps (λ ms. and_head h (negation (and_depth h) n ms)) x rest (behind_negation h n x)
behind_negation_keeps h n x rest = along (over_all_reads h n) x rest (behind_all (over_all h n).0 (over_all h n).1 x) (behind_all_keeps (over_all h n).0 (over_all h n).1 x rest)

behind_comparison_keeps : (h : NotHead) (c : Comparison) (x : Terminal) (rest : List Marked) → Keeps (λ ms. not_head h (comparison (not_depth h) c ms)) x rest (behind_comparison h c x)
behind_comparison_keeps h c x rest =
    along (over_negation_reads h (Compared c)) x rest (behind_negation (over_negation h (Compared c)).0 (over_negation h (Compared c)).1 x) (behind_negation_keeps (over_negation h (Compared c)).0 (over_negation h (Compared c)).1 x rest)

behind_sum_keeps : (h : CompareHead) (s : Sum) (x : Terminal) (rest : List Marked) → Keeps (λ ms. compare_head h (sum (compare_depth h) s ms)) x rest (behind_sum h s x)
behind_sum_keeps (FirstSum n) s (t.Compare cmp) rest = refl
behind_sum_keeps h s x rest = along (over_sum_reads h s) x rest (behind_comparison (over_sum h s).0 (over_sum h s).1 x) (behind_comparison_keeps (over_sum h s).0 (over_sum h s).1 x rest)

behind_all_products_keeps : (h : CompareHead × Sum) (x : Terminal) (rest : List Marked) → Keeps (λ ms. compare_head h.0 (sum (compare_depth h.0) h.1 ms)) x rest (behind_all_products h x)
behind_all_products_keeps (c, s) t.Plus rest = refl
behind_all_products_keeps (c, s) t.Minus rest = refl
behind_all_products_keeps (c, s) x rest = behind_sum_keeps c s x rest

behind_product_keeps : (h : SumHead) (p : Product) (x : Terminal) (rest : List Marked) → Keeps (λ ms. sum_head h (product (sum_depth h) p ms)) x rest (behind_product h p x)
behind_product_keeps h p t.Star rest = refl
behind_product_keeps h p t.Slash rest = refl
behind_product_keeps h p t.Percent rest = refl
behind_product_keeps h p x rest = along (over_product_reads h p) x rest (behind_all_products (over_product h p) x) (behind_all_products_keeps (over_product h p) x rest)

behind_unit_keeps : (h : ProductHead) (u : Unit') (x : Terminal) (rest : List Marked) → Keeps (λ ms. product_head h (unit (product_depth h) u ms)) x rest (behind_unit (have_unit h u) x)
behind_unit_keeps (FirstUnit s) u x rest = behind_product_keeps s (OneUnit u) x rest
behind_unit_keeps (NextUnit s p op) u x rest = behind_product_keeps s (MoreUnit p op u) x rest

want_unit_keeps : (h : ProductHead) (x : Terminal) (rest : List Marked) → Keeps (product_head h) x rest (want_unit h x)
want_unit_keeps h (t.Var name) rest = have_unit_reads h (Value (Leaf name)) rest
want_unit_keeps h (t.Number n) rest = have_unit_reads h (Value (Lone (Digits n))) rest
want_unit_keeps h t.Minus rest = refl
want_unit_keeps h (t.Text text) rest = have_unit_reads h (Value (Lone (Quoted text))) rest
want_unit_keeps h (t.Name name) rest = refl
want_unit_keeps h t.Open rest = refl
want_unit_keeps h x rest = tt

in_head_keeps : (was : List Marked → List Marked) (x : Terminal) (rest : List Marked) (s : Turn ⊥ HeadPlace) → ListKeeps never 2 head_place was x rest s → Keeps was x rest (in_head s)
in_head_keeps was x rest (Stay r s) h = h
in_head_keeps was x rest (Leave o as') h = h ∙ ap (λ ms. begun o.0 (t.Name o.1) (quiet t.Open ms)) (put_head_reads o.2 (Fixed (Compound o.3 as')) rest)
in_head_keeps was x rest Stuck h = tt

in_atom_keeps : (was : List Marked → List Marked) (x : Terminal) (rest : List Marked) (s : Turn Wanted AtomPlace) → ListKeeps wanted 1 atom_place was x rest s → Keeps was x rest (in_atom s)
in_atom_keeps was x rest (Stay r s) h = h
in_atom_keeps was x rest (Leave o as') h = h ∙ ap (stack o.1) (put_reads (depth o.1) o.0 (Atom o.2 as') rest)
in_atom_keeps was x rest Stuck h = tt

in_operand_keeps : (was : List Marked → List Marked) (x : Terminal) (rest : List Marked) (s : Turn (List ℕ) OperandPlace) → ListKeeps t.Var 2 operand_place was x rest s → Keeps was x rest (in_operand s)
in_operand_keeps was x rest (Stay r s) h = h
in_operand_keeps was x rest (Leave o as') h = h ∙ have_unit_reads o.0 (Value (Compound o.1 as')) rest
in_operand_keeps was x rest Stuck h = tt

nothing_read : (x : Terminal) → MatchOption (reads_nothing x) (Unit {0}) (λ w. x ≡ never w)
nothing_read x = tt

wanted_read : (x : Terminal) → MatchOption (reads_wanted x) (Unit {0}) (λ w. x ≡ wanted w)
wanted_read (t.Var name) = refl
wanted_read t.Wild = refl
wanted_read x = tt

variable_read : (x : Terminal) → MatchOption (reads_variable x) (Unit {0}) (λ w. x ≡ t.Var w)
variable_read (t.Var name) = refl
variable_read x = tt

behind_head_terms_keep : (ss : Statements) (name : List ℕ) (as' : HeadTerms) (x : Terminal) (rest : List Marked)
    → Keeps (λ ms. begun ss (t.Name name) (quiet t.Open (head_terms as' ms))) x rest (behind_head_terms ss name as' x)
behind_head_terms_keep ss name as' t.Comma rest = refl
behind_head_terms_keep ss name as' t.Close rest = refl
behind_head_terms_keep ss name as' x rest = tt

head_word_keeps : (ss : Statements) (name : List ℕ) (h : TermsHead) (a : HeadTerm) (x : Terminal) (rest : List Marked)
    → Keeps (λ ms. begun ss (t.Name name) (quiet t.Open (terms_head h (head_term a ms)))) x rest (behind_head_terms ss name (put_head h a) x)
head_word_keeps ss name h a x rest =
    along (λ ms. ap (λ ns. begun ss (t.Name name) (quiet t.Open ns)) (put_head_reads h a ms)) x rest (behind_head_terms ss name (put_head h a) x) (behind_head_terms_keep ss name (put_head h a) x rest)

head_term_keeps : (ss : Statements) (name : List ℕ) (h : TermsHead) (a : HeadTerm) (rest : List Marked)
    → begun ss (t.Name name) (quiet t.Open (terms_head h (head_term a rest))) ≡ begun ss (t.Name name) (quiet t.Open (head_terms (put_head h a) rest))
head_term_keeps ss name h a rest = ap (λ ms. begun ss (t.Name name) (quiet t.Open ms)) (put_head_reads h a rest)

atom_name_keeps : (h : ChainHead) (k : Stack) (p : Part) (x : Terminal) (rest : List Marked)
    → Keeps (λ ms. stack k (chain_head (depth k) h (part (depth k) p ms))) x rest (behind_chain k (put h p) x)
atom_name_keeps h k p x rest = along (λ ms. ap (stack k) (put_reads (depth k) h p ms)) x rest (behind_chain k (put h p) x) (behind_chain_keeps k (put h p) x rest)

pub step_keeps : (s : State) (x : Terminal) (rest : List Marked) → Keeps (so_far s) x rest (step s x)
step_keeps (Between ss) (t.Name name) rest = refl
step_keeps (Between ss) t.Show rest = refl
step_keeps (Between ss) x rest = tt
step_keeps (HeadName ss name) t.Open rest = refl
step_keeps (HeadName ss name) t.Arrow rest = refl
step_keeps (HeadName ss name) x rest = tt
step_keeps (WantHeadTerm ss name h) (t.Var v) rest = head_term_keeps ss name h (Leading v) rest
step_keeps (WantHeadTerm ss name h) (t.Number n) rest = head_term_keeps ss name h (Fixed (Lone (Digits n))) rest
step_keeps (WantHeadTerm ss name h) t.Minus rest = refl
step_keeps (WantHeadTerm ss name h) (t.Text text) rest = head_term_keeps ss name h (Fixed (Lone (Quoted text))) rest
step_keeps (WantHeadTerm ss name h) (t.Name w) rest = refl
step_keeps (WantHeadTerm ss name h) x rest = tt
step_keeps (HeadMinus ss name h) (t.Number n) rest = head_term_keeps ss name h (Fixed (Lone (Minus n))) rest
step_keeps (HeadMinus ss name h) t.Huge rest = head_term_keeps ss name h (Fixed (Lone Least)) rest
step_keeps (HeadMinus ss name h) x rest = tt
step_keeps (HeadWord ss name h w) t.Open rest = refl
step_keeps (HeadWord ss name h w) x rest = head_word_keeps ss name h (Fixed (Lone (Symbol w))) x rest
step_keeps (HaveHeadTerms ss name as') x rest = behind_head_terms_keep ss name as' x rest
step_keeps (InHead s) x rest = in_head_keeps (so_far (InHead s)) x rest (list_step reads_nothing 2 s x) (list_step_keeps never reads_nothing 2 head_place nothing_read s x rest)
step_keeps (HaveHead ss h) t.Arrow rest = refl
step_keeps (HaveHead ss h) x rest = tt
step_keeps (WantItem ss h) (t.Name name) rest = refl
step_keeps (WantItem ss h) x rest = tt
step_keeps (ItemName ss h name) t.Slash rest = refl
step_keeps (ItemName ss h name) x rest = tt
step_keeps (ItemSlash ss h name) (t.Number n) rest = ap (begun ss t.Show) (put_item_reads h name n rest)
step_keeps (ItemSlash ss h name) x rest = tt
step_keeps (HaveItems ss is) t.Comma rest = refl
step_keeps (HaveItems ss is) t.End rest = refl
step_keeps (HaveItems ss is) x rest = tt
step_keeps (WantPart h k) (t.Name name) rest = refl
step_keeps (WantPart h k) t.Not rest = refl
step_keeps (WantPart h k) t.Open rest = refl
step_keeps (WantPart h k) x rest = tt
step_keeps (AtomName h k name) t.Open rest = refl
step_keeps (AtomName h k name) x rest = atom_name_keeps h k (Bare name) x rest
step_keeps (InAtom s) x rest = in_atom_keeps (so_far (InAtom s)) x rest (list_step reads_wanted 1 s x) (list_step_keeps wanted reads_wanted 1 atom_place wanted_read s x rest)
step_keeps (WantOpen h k) t.Open rest = refl
step_keeps (WantOpen h k) x rest = tt
step_keeps (WantLimits h i k) t.Limits rest = refl
step_keeps (WantLimits h i k) x rest = tt
step_keeps (HavePart c k) x rest = behind_chain_keeps k c x rest
step_keeps (HaveRound h r k) t.Length rest = refl
step_keeps (HaveRound h r k) t.Within rest = refl
step_keeps (HaveRound h r k) x rest = atom_name_keeps h k (Rounded r) x rest
step_keeps (WantExact h r k) (t.Number q) rest = refl
step_keeps (WantExact h r k) x rest = tt
step_keeps (WantMost h r k) (t.Number q) rest = refl
step_keeps (WantMost h r k) x rest = tt
step_keeps (WantNegation n) t.Bang rest = refl
step_keeps (WantNegation n) x rest = want_unit_keeps (first_unit (FirstSum n)) x rest
step_keeps (WantUnit h) x rest = want_unit_keeps h x rest
step_keeps (UnitMinus h) (t.Number n) rest = have_unit_reads h (Value (Lone (Minus n))) rest
step_keeps (UnitMinus h) t.Huge rest = have_unit_reads h (Value (Lone Least)) rest
step_keeps (UnitMinus h) x rest = tt
step_keeps (UnitName h name) t.Open rest = refl
step_keeps (UnitName h name) x rest = behind_unit_keeps h (Value (Lone (Symbol name))) x rest
step_keeps (InOperand s) x rest = in_operand_keeps (so_far (InOperand s)) x rest (list_step reads_variable 2 s x) (list_step_keeps t.Var reads_variable 2 operand_place variable_read s x rest)
step_keeps (HaveProduct h p) x rest = behind_product_keeps h p x rest
