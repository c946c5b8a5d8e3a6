-- The machine reads each text of the grammar.
use Rattle.std.proofs.Common.{◌≡◌, ℕ, ◌+◌, List, [], ◌∷◌, Option, Some, option_and_then, refl, ap, ◌∙◌}
use Rattle.rule_lexer.specs.declared.terminals.Terminal.{Terminal}
use Rattle.rule_lexer.specs.declared.terminals.Terminal.TheVariants as t
use Rattle.rule_grammar.specs.Trees.{Literal, Literal.Digits, Literal.Minus, Literal.Least, Literal.Symbol, Literal.Quoted, Term, Term.Leaf, Term.Lone, Term.Compound, Arguments, Arguments.First, Arguments.Next}
use Rattle.rule_grammar.specs.Trees.{Wanted, Wanted.Variable, Wanted.Anything, HeadTerm, HeadTerm.Leading, HeadTerm.Fixed, HeadTerms, HeadTerms.FirstTerm, HeadTerms.NextTerm, Heading, Heading.Plainly, Heading.Applied}
use Rattle.rule_grammar.specs.Trees.{Adding, Adding.Added, Adding.Taken, Scaling, Scaling.Times, Scaling.Over, Scaling.Modulo, Joint, Joint.Joined, Joint.Otherwise}
use Rattle.rule_grammar.specs.Trees.{Condition, Condition.OneAll, Condition.MoreAll, All, All.OneNegation, All.MoreNegation, Negation, Negation.Negated, Negation.Compared, Comparison, Comparison.OneSum, Comparison.TwoSums, Sum, Sum.OneProduct, Sum.MoreProduct, Product, Product.OneUnit, Product.MoreUnit, Unit', Unit'.Value, Unit'.Grouped}
use Rattle.rule_grammar.specs.Trees.{Tree, Tree.Plain, Tree.Filtered, Chain, Chain.One, Chain.More, Part, Part.Bare, Part.Atom, Part.Without, Part.Rounded, Round, Round.Bracketed, Round.Exactly, Round.AtMost}
use Rattle.rule_grammar.specs.Trees.{Items, Items.OneItem, Items.MoreItem, Statement, Statement.Clause, Statement.Shown, Statements, Statements.Empty, Statements.Then}
use Rattle.rule_grammar.specs.Marks.{Role, Marked}
use Rattle.rule_grammar.specs.Marks.{Role.Quiet, Role.Single, Role.Binary, Role.Nests, Role.Deepens, Role.Counts, Role.Lists, Role.Lasts, Role.HasArity}
use Rattle.rule_grammar.specs.Tokens.{quiet, binary, a_part, literal, count_of, term, arguments, wanted, never, head_term, count_of_terms, head_terms, heading, adding, scaling, joint, condition, all, negation, comparison, sum, product, unit, tree, chain, part, round, items, statement, number_of, statements, text, bare}
use Rattle.rule_grammar.specs.Lists.{Before, Before.Start, Before.Behind, put_term, Nest, Nest.Outside, Nest.Inside, ListState, ListState.WantTerm, ListState.WantDigits, ListState.HaveName, ListState.HaveTerms, Turn, Turn.Stay, level, have, behind_terms, list_step}
use Rattle.rule_grammar.specs.Machine.{ChainHead, ChainHead.FirstPart, ChainHead.NextPart, TermsHead, TermsHead.FirstOfHead, TermsHead.NextOfHead, ItemsHead.FirstShown, put, put_head}
use Rattle.rule_grammar.specs.Machine.{Stack, Stack.Body, Stack.InRound, Stack.InNot, Stack.InBefore, Stack.InAfter, Where', Where'.InWhere, Where'.InGroup, OrHead, OrHead.FirstAll, OrHead.NextAll, AndHead.FirstNegation, AndHead.NextNegation, NotHead, NotHead.NoBang, NotHead.Bang, CompareHead, CompareHead.FirstSum, CompareHead.SecondSum, SumHead, SumHead.FirstProduct, SumHead.NextProduct, ProductHead, ProductHead.FirstUnit, ProductHead.NextUnit}
use Rattle.rule_grammar.specs.Machine.{AtomPlace, OperandPlace, HeadPlace, State, State.Between, State.WantHeadTerm, State.HeadWord, State.InHead, State.WantItem, State.HaveItems, State.WantPart, State.AtomName, State.InAtom, State.HaveRound, State.WantNegation, State.WantUnit, State.UnitName, State.InOperand}
use Rattle.rule_grammar.specs.Machine.{have_unit, over_product, over_sum, over_negation, over_condition, Step, to, first_all, first_unit, behind, behind_chain, behind_condition, behind_all, behind_negation, behind_comparison, behind_all_products, behind_product, behind_unit, reads_nothing, reads_wanted, reads_variable, in_head, in_atom, in_operand, behind_head_terms, step}

-- a run without limits
abbrev pub walk : List Terminal → State → Option State
walk [] s = Some s
walk (x ∷ xs) s = option_and_then (λ y. walk xs y.1) (step s x)

abbrev pub go : List Terminal → Step → Option State
go xs o = option_and_then (λ y. walk xs y.1) o

abbrev pub walks : List Marked → State → Option State
walks ms s = walk (bare ms) s

abbrev pub goes : List Marked → Step → Option State
goes ms s = go (bare ms) s

-- Lists of arguments: a place says how the machine reads one.

pub record Place (W O : Type 0) : Type 0 where
  pub spell : W → Terminal
  pub reads : Terminal → Option W
  pub base : ℕ
  pub state : ListState W O → State
  pub turn : Turn W O → Step
  pub steps : (s : ListState W O) (x : Terminal) → step (state s) x ≡ turn (list_step reads base s x)
  pub stays : (r : Role) (s : ListState W O) → turn (Stay r s) ≡ to r (state s)
  pub leaf : (n : Nest W O) (b : Before W) (w : W) → list_step reads base (WantTerm n b) (spell w) ≡ have n b (Leaf w)

-- what may stand behind a term of a list
abbrev pub FollowsTerm : Terminal → Type 0
FollowsTerm t.Comma = Unit {0}
FollowsTerm t.Close = Unit {0}
FollowsTerm x = ⊥

list_on : {W O : Type 0} (p : Place W O) (s s' : ListState W O) (r : Role) (x : Terminal) (ms : List Marked) → list_step p.reads p.base s x ≡ Stay r s' → goes ms (step (p.state s) x) ≡ walks ms (p.state s')
list_on p s s' r x ms e = ap (goes ms) (p.steps s x ∙ ap p.turn e ∙ p.stays r s')

have_on : {W O : Type 0} (p : Place W O) (n : Nest W O) (as' : Arguments W) (x : Terminal) (ms : List Marked) → goes ms (step (p.state (HaveTerms n as')) x) ≡ goes ms (p.turn (behind_terms n as' x))
have_on p n as' x ms = ap (goes ms) (p.steps (HaveTerms n as') x)

name_on : {W O : Type 0} (p : Place W O) (n : Nest W O) (b : Before W) (name : List ℕ) (x : Terminal) (ms : List Marked) → FollowsTerm x
    → goes ms (step (p.state (HaveName n b name)) x) ≡ goes ms (p.turn (behind_terms n (put_term b (Lone (Symbol name))) x))
name_on p n b name t.Comma ms h = ap (goes ms) (p.steps (HaveName n b name) t.Comma)
name_on p n b name t.Close ms h = ap (goes ms) (p.steps (HaveName n b name) t.Close)
name_on p n b name x ms h = absurd h

walk_literal : {W O : Type 0} (p : Place W O) (l : Literal) (n : Nest W O) (b : Before W) (q r : Role) (x : Terminal) (ms : List Marked) → FollowsTerm x
    → walks (literal q l ((r, x) ∷ ms)) (p.state (WantTerm n b)) ≡ goes ms (p.turn (behind_terms n (put_term b (Lone l)) x))
walk_literal p (Digits k) n b q r x ms h = list_on p (WantTerm n b) (HaveTerms n (put_term b (Lone (Digits k)))) Quiet (t.Number k) ((r, x) ∷ ms) refl ∙ have_on p n _ x ms
walk_literal p (Minus k) n b q r x ms h =
    list_on p (WantTerm n b) (WantDigits n b) Quiet t.Minus ((Quiet, t.Number k) ∷ (r, x) ∷ ms) refl
    ∙ list_on p (WantDigits n b) (HaveTerms n (put_term b (Lone (Minus k)))) Quiet (t.Number k) ((r, x) ∷ ms) refl ∙ have_on p n _ x ms
walk_literal p Least n b q r x ms h =
    list_on p (WantTerm n b) (WantDigits n b) Quiet t.Minus ((Quiet, t.Huge) ∷ (r, x) ∷ ms) refl
    ∙ list_on p (WantDigits n b) (HaveTerms n (put_term b (Lone Least))) Quiet t.Huge ((r, x) ∷ ms) refl ∙ have_on p n _ x ms
walk_literal p (Symbol name) n b q r x ms h = list_on p (WantTerm n b) (HaveName n b name) Quiet (t.Name name) ((r, x) ∷ ms) refl ∙ name_on p n b name x ms h
walk_literal p (Quoted text) n b q r x ms h = list_on p (WantTerm n b) (HaveTerms n (put_term b (Lone (Quoted text)))) Quiet (t.Text text) ((r, x) ∷ ms) refl ∙ have_on p n _ x ms

mutual
  walk_term : {W O : Type 0} (p : Place W O) (a : Term W) (d : ℕ) (n : Nest W O) (b : Before W) (q r : Role) (x : Terminal) (ms : List Marked) → FollowsTerm x
      → walks (term p.spell q d a ((r, x) ∷ ms)) (p.state (WantTerm n b)) ≡ goes ms (p.turn (behind_terms n (put_term b a) x))
  walk_term p (Leaf w) d n b q r x ms h =
      list_on p (WantTerm n b) (HaveTerms n (put_term b (Leaf w))) Quiet (p.spell w) ((r, x) ∷ ms) (p.leaf n b w) ∙ have_on p n _ x ms
  walk_term p (Lone l) d n b q r x ms h = walk_literal p l n b q r x ms h
  walk_term p (Compound name as') d n b q r x ms h =
      let inside : List Marked = arguments p.spell (d + 1) as' ((Quiet, t.Close) ∷ (r, x) ∷ ms) in
      list_on p (WantTerm n b) (HaveName n b name) Quiet (t.Name name) ((Deepens (d + 1), t.Open) ∷ inside) refl
      ∙ list_on p (HaveName n b name) (WantTerm (Inside n b name) Start) (Deepens (level p.base n + 1)) t.Open inside refl
      ∙ walk_arguments p as' (d + 1) (Inside n b name) Quiet t.Close ((r, x) ∷ ms) tt
      ∙ ap (goes ((r, x) ∷ ms)) (p.stays Quiet (HaveTerms n (put_term b (Compound name as'))))
      ∙ have_on p n (put_term b (Compound name as')) x ms

  walk_arguments : {W O : Type 0} (p : Place W O) (as' : Arguments W) (d : ℕ) (n : Nest W O) (r : Role) (x : Terminal) (ms : List Marked) → FollowsTerm x
      → walks (arguments p.spell d as' ((r, x) ∷ ms)) (p.state (WantTerm n Start)) ≡ goes ms (p.turn (behind_terms n as' x))
  walk_arguments p (First a) d n r x ms h = walk_term p a d n Start Quiet r x ms h
  walk_arguments p (Next as' a) d n r x ms h =
      walk_arguments p as' d n (Counts (count_of as' + 1)) t.Comma (term p.spell Quiet d a ((r, x) ∷ ms)) tt
      ∙ ap (goes (term p.spell Quiet d a ((r, x) ∷ ms))) (p.stays (Counts (count_of as' + 1)) (WantTerm n (Behind as')))
      ∙ walk_term p a d n (Behind as') Quiet r x ms h

abbrev pub head_terms_place : Place ⊥ HeadPlace
head_terms_place = record { spell = never; reads = reads_nothing; base = 2; state = InHead; turn = in_head; steps = λ s x. refl; stays = λ r s. refl; leaf = λ n b w. absurd w }

pub wanted_leaf : {O : Type 0} (n : Nest Wanted O) (b : Before Wanted) (w : Wanted) → list_step reads_wanted 1 (WantTerm n b) (wanted w) ≡ have n b (Leaf w)
wanted_leaf n b (Variable name) = refl
wanted_leaf n b Anything = refl

abbrev pub atoms_place : Place Wanted AtomPlace
atoms_place = record { spell = wanted; reads = reads_wanted; base = 1; state = InAtom; turn = in_atom; steps = λ s x. refl; stays = λ r s. refl; leaf = wanted_leaf }

abbrev pub operands_place : Place (List ℕ) OperandPlace
operands_place = record { spell = t.Var; reads = reads_variable; base = 2; state = InOperand; turn = in_operand; steps = λ s x. refl; stays = λ r s. refl; leaf = λ n b w. refl }

-- What may stand behind each level of a pattern and of a condition.

abbrev pub FollowsTree : Terminal → Type 0
FollowsTree t.Where = Unit {0}
FollowsTree t.End = Unit {0}
FollowsTree t.Close = Unit {0}
FollowsTree t.Comma = Unit {0}
FollowsTree t.Square = Unit {0}
FollowsTree x = ⊥

abbrev pub FollowsPart : Terminal → Type 0
FollowsPart (t.Op op) = Unit {0}
FollowsPart t.Or = Unit {0}
FollowsPart x = FollowsTree x

abbrev pub FollowsCondition : Terminal → Type 0
FollowsCondition t.Either = Unit {0}
FollowsCondition x = FollowsTree x

abbrev pub FollowsAll : Terminal → Type 0
FollowsAll t.Both = Unit {0}
FollowsAll x = FollowsCondition x

abbrev pub FollowsSum : Terminal → Type 0
FollowsSum (t.Compare cmp) = Unit {0}
FollowsSum t.Plus = Unit {0}
FollowsSum t.Minus = Unit {0}
FollowsSum x = FollowsAll x

abbrev pub FollowsUnit : Terminal → Type 0
FollowsUnit t.Star = Unit {0}
FollowsUnit t.Slash = Unit {0}
FollowsUnit t.Percent = Unit {0}
FollowsUnit x = FollowsSum x

tree_follows_part : (x : Terminal) → FollowsTree x → FollowsPart x
tree_follows_part (t.Op op) h = tt
tree_follows_part t.Or h = tt
tree_follows_part x h = h

tree_follows_condition : (x : Terminal) → FollowsTree x → FollowsCondition x
tree_follows_condition t.Either h = tt
tree_follows_condition x h = h

condition_follows_all : (x : Terminal) → FollowsCondition x → FollowsAll x
condition_follows_all t.Both h = tt
condition_follows_all x h = h

all_follows_sum : (x : Terminal) → FollowsAll x → FollowsSum x
all_follows_sum (t.Compare cmp) h = tt
all_follows_sum t.Plus h = tt
all_follows_sum t.Minus h = tt
all_follows_sum x h = h

sum_follows_unit : (x : Terminal) → FollowsSum x → FollowsUnit x
sum_follows_unit t.Star h = tt
sum_follows_unit t.Slash h = tt
sum_follows_unit t.Percent h = tt
sum_follows_unit x h = h

joint_follows : (j : Joint) → FollowsPart (joint j)
joint_follows (Joined op) = tt
joint_follows Otherwise = tt

adding_follows : (op : Adding) → FollowsSum (adding op)
adding_follows Added = tt
adding_follows Taken = tt

scaling_follows : (op : Scaling) → FollowsUnit (scaling op)
scaling_follows Times = tt
scaling_follows Over = tt
scaling_follows Modulo = tt

-- Where a token is none of a level's own, the level is over.

chain_over : (k : Stack) (c : Chain) (x : Terminal) → FollowsTree x → behind_chain k c x ≡ behind k (Plain c) x
chain_over k c (t.Op op) h = absurd h
chain_over k c t.Or h = absurd h
chain_over k c x h = refl

where_over : (p : Tree) (k : Stack) (c : Condition) (x : Terminal) → FollowsTree x → behind_condition (InWhere p k) c x ≡ behind k (Filtered p c) x
where_over p k c t.Either h = absurd h
where_over p k c x h = refl

all_over : (o : OrHead) (a : All) (x : Terminal) → FollowsCondition x → behind_all o a x ≡ behind_condition (over_condition o a).0 (over_condition o a).1 x
all_over o a t.Both h = absurd h
all_over o a x h = refl

sum_over : (c : CompareHead) (s : Sum) (x : Terminal) → FollowsAll x → behind_all_products (c, s) x ≡ behind_comparison (over_sum c s).0 (over_sum c s).1 x
sum_over (FirstSum n) s (t.Compare cmp) h = absurd h
sum_over c s t.Plus h = absurd h
sum_over c s t.Minus h = absurd h
sum_over c s x h = refl

product_over : (h : SumHead) (p : Product) (x : Terminal) → FollowsSum x → behind_product h p x ≡ behind_all_products (over_product h p) x
product_over h p t.Star e = absurd e
product_over h p t.Slash e = absurd e
product_over h p t.Percent e = absurd e
product_over h p x e = refl

joint_on : (k : Stack) (c : Chain) (j : Joint) → behind_chain k c (joint j) ≡ to Binary (WantPart (NextPart c j) k)
joint_on k c (Joined op) = refl
joint_on k c Otherwise = refl

adding_on : (c : CompareHead) (s : Sum) (op : Adding) → behind_all_products (c, s) (adding op) ≡ to Binary (WantUnit (FirstUnit (NextProduct c s op)))
adding_on c s Added = refl
adding_on c s Taken = refl

scaling_on : (h : SumHead) (p : Product) (op : Scaling) → behind_product h p (scaling op) ≡ to Binary (WantUnit (NextUnit h p op))
scaling_on h p Times = refl
scaling_on h p Over = refl
scaling_on h p Modulo = refl

unit_on : (h : ProductHead) (u : Unit') (x : Terminal) (ms : List Marked) → goes ms (step (have_unit h u) x) ≡ goes ms (behind_unit (have_unit h u) x)
unit_on (FirstUnit s) u x ms = refl
unit_on (NextUnit s p op) u x ms = refl

name_unit_on : (h : ProductHead) (name : List ℕ) (x : Terminal) (ms : List Marked) → FollowsUnit x → goes ms (step (UnitName h name) x) ≡ goes ms (behind_unit (have_unit h (Value (Lone (Symbol name)))) x)
name_unit_on h name t.Open ms e = absurd e
name_unit_on h name x ms e = refl

walk_value : (l : Literal) (h : ProductHead) (r q : Role) (x : Terminal) (ms : List Marked) → FollowsUnit x
    → walks (literal q l ((r, x) ∷ ms)) (WantUnit h) ≡ goes ms (behind_unit (have_unit h (Value (Lone l))) x)
walk_value (Digits n) h r q x ms e = unit_on h (Value (Lone (Digits n))) x ms
walk_value (Minus n) h r q x ms e = unit_on h (Value (Lone (Minus n))) x ms
walk_value Least h r q x ms e = unit_on h (Value (Lone Least)) x ms
walk_value (Symbol name) h r q x ms e = name_unit_on h name x ms e
walk_value (Quoted text) h r q x ms e = unit_on h (Value (Lone (Quoted text))) x ms

-- A sum begins as an operand does: what wants a negation wants it too.

begins_unit : (u : Unit') (d : ℕ) (n : NotHead) (ms : List Marked) → walks (unit d u ms) (WantNegation n) ≡ walks (unit d u ms) (WantUnit (first_unit (FirstSum n)))
begins_unit (Value (Leaf v)) d n ms = refl
begins_unit (Value (Lone (Digits k))) d n ms = refl
begins_unit (Value (Lone (Minus k))) d n ms = refl
begins_unit (Value (Lone Least)) d n ms = refl
begins_unit (Value (Lone (Symbol name))) d n ms = refl
begins_unit (Value (Lone (Quoted text))) d n ms = refl
begins_unit (Value (Compound name as')) d n ms = refl
begins_unit (Grouped c) d n ms = refl

begins_product : (p : Product) (d : ℕ) (n : NotHead) (ms : List Marked) → walks (product d p ms) (WantNegation n) ≡ walks (product d p ms) (WantUnit (first_unit (FirstSum n)))
begins_product (OneUnit u) d n ms = begins_unit u d n ms
begins_product (MoreUnit p op u) d n ms = begins_product p d n (binary (scaling op) (unit d u ms))

begins_sum : (s : Sum) (d : ℕ) (n : NotHead) (ms : List Marked) → walks (sum d s ms) (WantNegation n) ≡ walks (sum d s ms) (WantUnit (first_unit (FirstSum n)))
begins_sum (OneProduct p) d n ms = begins_product p d n ms
begins_sum (MoreProduct s op p) d n ms = begins_sum s d n (binary (adding op) (product d p ms))

mutual
  walk_condition : (c : Condition) (d : ℕ) (w : Where') (r : Role) (x : Terminal) (ms : List Marked) → FollowsCondition x
      → walks (condition d c ((r, x) ∷ ms)) (WantNegation (first_all w)) ≡ goes ms (behind_condition w c x)
  walk_condition (OneAll a) d w r x ms h = walk_all a d (FirstAll w) r x ms (condition_follows_all x h) ∙ ap (goes ms) (all_over (FirstAll w) a x h)
  walk_condition (MoreAll c a) d w r x ms h =
      walk_condition c d w Binary t.Either (all d a ((r, x) ∷ ms)) tt
      ∙ walk_all a d (NextAll w c) r x ms (condition_follows_all x h) ∙ ap (goes ms) (all_over (NextAll w c) a x h)

  walk_all : (a : All) (d : ℕ) (o : OrHead) (r : Role) (x : Terminal) (ms : List Marked) → FollowsAll x
      → walks (all d a ((r, x) ∷ ms)) (WantNegation (NoBang (FirstNegation o))) ≡ goes ms (behind_all o a x)
  walk_all (OneNegation n) d o r x ms h = walk_negation n d (NoBang (FirstNegation o)) r x ms h
  walk_all (MoreNegation a n) d o r x ms h = walk_all a d o Binary t.Both (negation d n ((r, x) ∷ ms)) tt ∙ walk_negation n d (NoBang (NextNegation o a)) r x ms h

  walk_negation : (n : Negation) (d : ℕ) (h : NotHead) (r : Role) (x : Terminal) (ms : List Marked) → FollowsAll x
      → walks (negation d n ((r, x) ∷ ms)) (WantNegation h) ≡ goes ms (behind_negation (over_negation h n).0 (over_negation h n).1 x)
  walk_negation (Negated n) d h r x ms e = walk_negation n d (Bang h) r x ms e
  walk_negation (Compared c) d h r x ms e = walk_comparison c d h r x ms e

  walk_comparison : (c : Comparison) (d : ℕ) (n : NotHead) (r : Role) (x : Terminal) (ms : List Marked) → FollowsAll x
      → walks (comparison d c ((r, x) ∷ ms)) (WantNegation n) ≡ goes ms (behind_comparison n c x)
  walk_comparison (OneSum s) d n r x ms h =
      begins_sum s d n ((r, x) ∷ ms) ∙ walk_sum s d (FirstSum n) r x ms (all_follows_sum x h) ∙ ap (goes ms) (sum_over (FirstSum n) s x h)
  walk_comparison (TwoSums l cmp s) d n r x ms h =
      begins_sum l d n (binary (t.Compare cmp) (sum d s ((r, x) ∷ ms)))
      ∙ walk_sum l d (FirstSum n) Binary (t.Compare cmp) (sum d s ((r, x) ∷ ms)) tt
      ∙ walk_sum s d (SecondSum n l cmp) r x ms (all_follows_sum x h) ∙ ap (goes ms) (sum_over (SecondSum n l cmp) s x h)

  walk_sum : (s : Sum) (d : ℕ) (c : CompareHead) (r : Role) (x : Terminal) (ms : List Marked) → FollowsSum x
      → walks (sum d s ((r, x) ∷ ms)) (WantUnit (first_unit c)) ≡ goes ms (behind_all_products (c, s) x)
  walk_sum (OneProduct p) d c r x ms h = walk_product p d (FirstProduct c) r x ms (sum_follows_unit x h) ∙ ap (goes ms) (product_over (FirstProduct c) p x h)
  walk_sum (MoreProduct s op p) d c r x ms h =
      walk_sum s d c Binary (adding op) (product d p ((r, x) ∷ ms)) (adding_follows op)
      ∙ ap (goes (product d p ((r, x) ∷ ms))) (adding_on c s op)
      ∙ walk_product p d (NextProduct c s op) r x ms (sum_follows_unit x h) ∙ ap (goes ms) (product_over (NextProduct c s op) p x h)

  walk_product : (p : Product) (d : ℕ) (h : SumHead) (r : Role) (x : Terminal) (ms : List Marked) → FollowsUnit x
      → walks (product d p ((r, x) ∷ ms)) (WantUnit (FirstUnit h)) ≡ goes ms (behind_product h p x)
  walk_product (OneUnit u) d h r x ms e = walk_unit u d (FirstUnit h) r x ms e
  walk_product (MoreUnit p op u) d h r x ms e =
      walk_product p d h Binary (scaling op) (unit d u ((r, x) ∷ ms)) (scaling_follows op)
      ∙ ap (goes (unit d u ((r, x) ∷ ms))) (scaling_on h p op)
      ∙ walk_unit u d (NextUnit h p op) r x ms e

  walk_unit : (u : Unit') (d : ℕ) (h : ProductHead) (r : Role) (x : Terminal) (ms : List Marked) → FollowsUnit x
      → walks (unit d u ((r, x) ∷ ms)) (WantUnit h) ≡ goes ms (behind_unit (have_unit h u) x)
  walk_unit (Value (Leaf v)) d h r x ms e = unit_on h (Value (Leaf v)) x ms
  walk_unit (Value (Lone l)) d h r x ms e = walk_value l h r Single x ms e
  walk_unit (Value (Compound name as')) d h r x ms e =
      walk_arguments operands_place as' 2 (Outside (h, name)) Quiet t.Close ((r, x) ∷ ms) tt ∙ unit_on h (Value (Compound name as')) x ms
  walk_unit (Grouped c) d h r x ms e = walk_condition c (d + 1) (InGroup h) Quiet t.Close ((r, x) ∷ ms) tt ∙ unit_on h (Grouped c) x ms

-- Patterns.

bare_on : (h : ChainHead) (k : Stack) (name : List ℕ) (x : Terminal) (ms : List Marked) → FollowsPart x → goes ms (step (AtomName h k name) x) ≡ goes ms (behind_chain k (put h (Bare name)) x)
bare_on h k name t.Open ms e = absurd e
bare_on h k name x ms e = refl

round_on : (h : ChainHead) (k : Stack) (p : Round) (x : Terminal) (ms : List Marked) → FollowsPart x → goes ms (step (HaveRound h p k) x) ≡ goes ms (behind_chain k (put h (Rounded p)) x)
round_on h k p t.Length ms e = absurd e
round_on h k p t.Within ms e = absurd e
round_on h k p x ms e = refl

mutual
  walk_tree : (p : Tree) (d : ℕ) (k : Stack) (r : Role) (x : Terminal) (ms : List Marked) → FollowsTree x
      → walks (tree d p ((r, x) ∷ ms)) (WantPart FirstPart k) ≡ goes ms (behind k p x)
  walk_tree (Plain c) d k r x ms h = walk_chain c d k r x ms (tree_follows_part x h) ∙ ap (goes ms) (chain_over k c x h)
  walk_tree (Filtered p c) d k r x ms h =
      walk_tree p d k Binary t.Where (condition d c ((r, x) ∷ ms)) tt
      ∙ walk_condition c d (InWhere p k) r x ms (tree_follows_condition x h) ∙ ap (goes ms) (where_over p k c x h)

  walk_chain : (c : Chain) (d : ℕ) (k : Stack) (r : Role) (x : Terminal) (ms : List Marked) → FollowsPart x
      → walks (chain d c ((r, x) ∷ ms)) (WantPart FirstPart k) ≡ goes ms (behind_chain k c x)
  walk_chain (One p) d k r x ms h = walk_part p d FirstPart k r x ms h
  walk_chain (More c j p) d k r x ms h =
      walk_chain c d k Binary (joint j) (part d p ((r, x) ∷ ms)) (joint_follows j)
      ∙ ap (goes (part d p ((r, x) ∷ ms))) (joint_on k c j)
      ∙ walk_part p d (NextPart c j) k r x ms h

  walk_part : (p : Part) (d : ℕ) (h : ChainHead) (k : Stack) (r : Role) (x : Terminal) (ms : List Marked) → FollowsPart x
      → walks (part d p ((r, x) ∷ ms)) (WantPart h k) ≡ goes ms (behind_chain k (put h p) x)
  walk_part (Bare name) d h k r x ms e = bare_on h k name x ms e
  walk_part (Atom name as') d h k r x ms e = walk_arguments atoms_place as' 1 (Outside (h, k, name)) Quiet t.Close ((r, x) ∷ ms) tt
  walk_part (Without i b a) d h k r x ms e =
      walk_tree i (d + 1) (InNot h k) Quiet t.Close ((Nests (d + 1), t.Limits) ∷ tree (d + 1) b (quiet t.Comma (tree (d + 1) a (quiet t.Square ((r, x) ∷ ms))))) tt
      ∙ walk_tree b (d + 1) (InBefore h i k) Quiet t.Comma (tree (d + 1) a (quiet t.Square ((r, x) ∷ ms))) tt
      ∙ walk_tree a (d + 1) (InAfter h i b k) Quiet t.Square ((r, x) ∷ ms) tt
  walk_part (Rounded p) d h k r x ms e = walk_round p d h k ((r, x) ∷ ms) ∙ round_on h k p x ms e

  walk_round : (p : Round) (d : ℕ) (h : ChainHead) (k : Stack) (ms : List Marked) → walks (round d p ms) (WantPart h k) ≡ walks ms (HaveRound h p k)
  walk_round (Bracketed p) d h k ms = walk_tree p (d + 1) (InRound h k) Quiet t.Close ms tt
  walk_round (Exactly p q) d h k ms = walk_round p d h k (a_part t.Length ((Lasts q, t.Number q) ∷ ms))
  walk_round (AtMost p q) d h k ms = walk_round p d h k (binary t.Within ((Lasts q, t.Number q) ∷ ms))

-- Heads, shown names, statements.

word_on : (ss : Statements) (name : List ℕ) (h : TermsHead) (w : List ℕ) (x : Terminal) (ms : List Marked) → FollowsTerm x
    → goes ms (step (HeadWord ss name h w) x) ≡ goes ms (behind_head_terms ss name (put_head h (Fixed (Lone (Symbol w)))) x)
word_on ss name h w t.Open ms e = absurd e
word_on ss name h w x ms e = refl

walk_head_term : (a : HeadTerm) (ss : Statements) (name : List ℕ) (h : TermsHead) (r : Role) (x : Terminal) (ms : List Marked) → FollowsTerm x
    → walks (head_term a ((r, x) ∷ ms)) (WantHeadTerm ss name h) ≡ goes ms (behind_head_terms ss name (put_head h a) x)
walk_head_term (Leading v) ss name h r x ms e = refl
walk_head_term (Fixed (Leaf w)) ss name h r x ms e = absurd w
walk_head_term (Fixed (Lone (Digits n))) ss name h r x ms e = refl
walk_head_term (Fixed (Lone (Minus n))) ss name h r x ms e = refl
walk_head_term (Fixed (Lone Least)) ss name h r x ms e = refl
walk_head_term (Fixed (Lone (Symbol w))) ss name h r x ms e = word_on ss name h w x ms e
walk_head_term (Fixed (Lone (Quoted text))) ss name h r x ms e = refl
walk_head_term (Fixed (Compound w as')) ss name h r x ms e = walk_arguments head_terms_place as' 2 (Outside (ss, name, h, w)) Quiet t.Close ((r, x) ∷ ms) tt

walk_head_terms : (as' : HeadTerms) (ss : Statements) (name : List ℕ) (r : Role) (x : Terminal) (ms : List Marked) → FollowsTerm x
    → walks (head_terms as' ((r, x) ∷ ms)) (WantHeadTerm ss name FirstOfHead) ≡ goes ms (behind_head_terms ss name as' x)
walk_head_terms (FirstTerm a) ss name r x ms e = walk_head_term a ss name FirstOfHead r x ms e
walk_head_terms (NextTerm as' a) ss name r x ms e =
    walk_head_terms as' ss name (Counts (count_of_terms as' + 1)) t.Comma (head_term a ((r, x) ∷ ms)) tt ∙ walk_head_term a ss name (NextOfHead as') r x ms e

walk_heading : (h : Heading) (n : ℕ) (ss : Statements) (ms : List Marked) → walks (heading n h (quiet t.Arrow ms)) (Between ss) ≡ walks ms (WantPart FirstPart (Body ss h))
walk_heading (Plainly name) n ss ms = refl
walk_heading (Applied name as') n ss ms = walk_head_terms as' ss name Quiet t.Close (quiet t.Arrow ms) tt

walk_items : (is : Items) (ss : Statements) (ms : List Marked) → walks (items is ms) (WantItem ss FirstShown) ≡ walks ms (HaveItems ss is)
walk_items (OneItem name n) ss ms = refl
walk_items (MoreItem is name n) ss ms = walk_items is ss ((Lists, t.Comma) ∷ quiet (t.Name name) (quiet t.Slash ((HasArity n, t.Number n) ∷ ms)))

walk_statement : (s : Statement) (n : ℕ) (ss : Statements) (ms : List Marked) → walks (statement n s ms) (Between ss) ≡ walks ms (Between (Then ss s))
walk_statement (Clause h p) n ss ms = walk_heading h n ss (tree 0 p (quiet t.End ms)) ∙ walk_tree p 0 (Body ss h) Quiet t.End ms tt
walk_statement (Shown is) n ss ms = walk_items is ss (quiet t.End ms)

walk_statements : (ss : Statements) (ms : List Marked) → walks (statements ss ms) (Between Empty) ≡ walks ms (Between ss)
walk_statements Empty ms = refl
walk_statements (Then ss s) ms = walk_statements ss (statement (number_of ss + 1) s ms) ∙ walk_statement s (number_of ss + 1) ss ms

pub text_walks : (ss : Statements) → walks (text ss) (Between Empty) ≡ Some (Between ss)
text_walks ss = walk_statements ss []
