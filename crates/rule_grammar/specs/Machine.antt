-- A machine that reads a text token by token. A state is what has been read, held as trees.
use Rattle.std.specs.Prelude.{ℕ, ◌+◌, List, [], ◌∷◌, Option, Some, None, Result, Ok, Err, length}
use Rattle.rule_ast.specs.declared.conditions.Cmp.{Cmp}
use Rattle.rule_lexer.specs.declared.terminals.Terminal.{Terminal}
use Rattle.rule_lexer.specs.declared.terminals.Terminal.TheVariants as t
use Rattle.rule_grammar.specs.declared.faults.Which.{Which}
use Rattle.rule_grammar.specs.declared.faults.Fault.{Fault}
use Rattle.rule_grammar.specs.declared.faults.Fault.TheVariants.{Syntax, Limit}
use Rattle.rule_grammar.specs.Trees.{Literal.Digits, Literal.Minus, Literal.Least, Literal.Symbol, Literal.Quoted, Term.Leaf, Term.Lone, Term.Compound}
use Rattle.rule_grammar.specs.Trees.{Wanted, Wanted.Variable, Wanted.Anything, HeadTerm, HeadTerm.Leading, HeadTerm.Fixed, HeadTerms, HeadTerms.FirstTerm, HeadTerms.NextTerm, Heading, Heading.Plainly, Heading.Applied}
use Rattle.rule_grammar.specs.Trees.{Adding, Adding.Added, Adding.Taken, Scaling, Scaling.Times, Scaling.Over, Scaling.Modulo, Joint, Joint.Joined, Joint.Otherwise}
use Rattle.rule_grammar.specs.Trees.{Condition, Condition.OneAll, Condition.MoreAll, All, All.OneNegation, All.MoreNegation, Negation, Negation.Negated, Negation.Compared, Comparison, Comparison.OneSum, Comparison.TwoSums, Sum, Sum.OneProduct, Sum.MoreProduct, Product, Product.OneUnit, Product.MoreUnit, Unit', Unit'.Value, Unit'.Grouped}
use Rattle.rule_grammar.specs.Trees.{Tree, Tree.Plain, Tree.Filtered, Chain, Chain.One, Chain.More, Part, Part.Bare, Part.Atom, Part.Without, Part.Rounded, Round, Round.Bracketed, Round.Exactly, Round.AtMost}
use Rattle.rule_grammar.specs.Trees.{Items, Items.OneItem, Items.MoreItem, Statement.Clause, Statement.Shown, Statements, Statements.Then}
use Rattle.rule_grammar.specs.Marks.{Role, Marked, Counted, count, passed}
use Rattle.rule_grammar.specs.Marks.{Role.Quiet, Role.Starts, Role.Single, Role.Binary, Role.Nests, Role.Deepens, Role.Counts, Role.Lists, Role.Lasts, Role.HasArity}
use Rattle.rule_grammar.specs.Tokens.{quiet, binary, a_part, wanted, never, count_of_terms, head_terms, heading, adding, scaling, joint, condition, all, sum, product, tree, chain, round, items, number_of, statements}
use Rattle.rule_grammar.specs.Lists.{Before.Start, Nest.Outside, ListState, ListState.WantTerm, Turn, Turn.Stay, Turn.Leave, Turn.Stuck, list_step, list_so_far}

-- what stands before a part of a chain, a term of a head, a shown name
pub data ChainHead : Type 0 where
  FirstPart : ChainHead
  NextPart : Chain → Joint → ChainHead

pub data TermsHead : Type 0 where
  FirstOfHead : TermsHead
  NextOfHead : HeadTerms → TermsHead

pub data ItemsHead : Type 0 where
  FirstShown : ItemsHead
  NextShown : Items → ItemsHead

abbrev pub put : ChainHead → Part → Chain
put FirstPart p = One p
put (NextPart c j) p = More c j p

abbrev pub put_head : TermsHead → HeadTerm → HeadTerms
put_head FirstOfHead a = FirstTerm a
put_head (NextOfHead as') a = NextTerm as' a

abbrev pub put_item : ItemsHead → List ℕ → ℕ → Items
put_item FirstShown name n = OneItem name n
put_item (NextShown is) name n = MoreItem is name n

-- the brackets that are open in a rule's body, the innermost first
pub data Stack : Type 0 where
  Body : Statements → Heading → Stack
  InRound : ChainHead → Stack → Stack
  InNot : ChainHead → Stack → Stack
  InBefore : ChainHead → Tree → Stack → Stack
  InAfter : ChainHead → Tree → Tree → Stack → Stack

-- what stands before each kind of operand in a condition
mutual
  pub data Where' : Type 0 where
    InWhere : Tree → Stack → Where'
    InGroup : ProductHead → Where'

  pub data OrHead : Type 0 where
    FirstAll : Where' → OrHead
    NextAll : Where' → Condition → OrHead

  pub data AndHead : Type 0 where
    FirstNegation : OrHead → AndHead
    NextNegation : OrHead → All → AndHead

  pub data NotHead : Type 0 where
    NoBang : AndHead → NotHead
    Bang : NotHead → NotHead

  pub data CompareHead : Type 0 where
    FirstSum : NotHead → CompareHead
    SecondSum : NotHead → Sum → Cmp → CompareHead

  pub data SumHead : Type 0 where
    FirstProduct : CompareHead → SumHead
    NextProduct : CompareHead → Sum → Adding → SumHead

  pub data ProductHead : Type 0 where
    FirstUnit : SumHead → ProductHead
    NextUnit : SumHead → Product → Scaling → ProductHead

-- what the outermost list of arguments stands in: an atom, an operand, a term of a head
abbrev pub AtomPlace : Type 0
AtomPlace = ChainHead × Stack × List ℕ

abbrev pub OperandPlace : Type 0
OperandPlace = ProductHead × List ℕ

abbrev pub HeadPlace : Type 0
HeadPlace = Statements × List ℕ × TermsHead × List ℕ

pub data State : Type 0 where
  Between : Statements → State
  HeadName : Statements → List ℕ → State
  WantHeadTerm : Statements → List ℕ → TermsHead → State
  HeadMinus : Statements → List ℕ → TermsHead → State
  HeadWord : Statements → List ℕ → TermsHead → List ℕ → State
  HaveHeadTerms : Statements → List ℕ → HeadTerms → State
  InHead : ListState ⊥ HeadPlace → State
  HaveHead : Statements → Heading → State
  WantItem : Statements → ItemsHead → State
  ItemName : Statements → ItemsHead → List ℕ → State
  ItemSlash : Statements → ItemsHead → List ℕ → State
  HaveItems : Statements → Items → State
  WantPart : ChainHead → Stack → State
  AtomName : ChainHead → Stack → List ℕ → State
  InAtom : ListState Wanted AtomPlace → State
  WantOpen : ChainHead → Stack → State
  WantLimits : ChainHead → Tree → Stack → State
  HavePart : Chain → Stack → State
  HaveRound : ChainHead → Round → Stack → State
  WantExact : ChainHead → Round → Stack → State
  WantMost : ChainHead → Round → Stack → State
  WantNegation : NotHead → State
  WantUnit : ProductHead → State
  UnitMinus : ProductHead → State
  UnitName : ProductHead → List ℕ → State
  InOperand : ListState (List ℕ) OperandPlace → State
  HaveProduct : SumHead → Product → State

-- how many brackets are open
abbrev pub depth : Stack → ℕ
depth (Body ss h) = 0
depth (InRound h k) = depth k + 1
depth (InNot h k) = depth k + 1
depth (InBefore h i k) = depth k + 1
depth (InAfter h i b k) = depth k + 1

abbrev mutual
  pub where_depth : Where' → ℕ
  where_depth (InWhere p k) = depth k
  where_depth (InGroup h) = product_depth h + 1

  pub or_depth : OrHead → ℕ
  or_depth (FirstAll w) = where_depth w
  or_depth (NextAll w c) = where_depth w

  pub and_depth : AndHead → ℕ
  and_depth (FirstNegation o) = or_depth o
  and_depth (NextNegation o a) = or_depth o

  pub not_depth : NotHead → ℕ
  not_depth (NoBang a) = and_depth a
  not_depth (Bang n) = not_depth n

  pub compare_depth : CompareHead → ℕ
  compare_depth (FirstSum n) = not_depth n
  compare_depth (SecondSum n s cmp) = not_depth n

  pub sum_depth : SumHead → ℕ
  sum_depth (FirstProduct c) = compare_depth c
  sum_depth (NextProduct c s op) = compare_depth c

  pub product_depth : ProductHead → ℕ
  product_depth (FirstUnit s) = sum_depth s
  product_depth (NextUnit s p op) = sum_depth s

-- what a condition's parts are once an operand is over: for each level what stands before it, and it
abbrev pub have_unit : ProductHead → Unit' → State
have_unit (FirstUnit s) u = HaveProduct s (OneUnit u)
have_unit (NextUnit s p op) u = HaveProduct s (MoreUnit p op u)

abbrev pub over_product : SumHead → Product → CompareHead × Sum
over_product (FirstProduct c) p = (c, OneProduct p)
over_product (NextProduct c s op) p = (c, MoreProduct s op p)

abbrev pub over_sum : CompareHead → Sum → NotHead × Comparison
over_sum (FirstSum n) s = (n, OneSum s)
over_sum (SecondSum n l cmp) s = (n, TwoSums l cmp s)

abbrev pub over_negation : NotHead → Negation → AndHead × Negation
over_negation (NoBang a) n = (a, n)
over_negation (Bang h) n = over_negation h (Negated n)

abbrev pub over_all : AndHead → Negation → OrHead × All
over_all (FirstNegation o) n = (o, OneNegation n)
over_all (NextNegation o a) n = (o, MoreNegation a n)

abbrev pub over_condition : OrHead → All → Where' × Condition
over_condition (FirstAll w) a = (w, OneAll a)
over_condition (NextAll w c) a = (w, MoreAll c a)

abbrev pub Step : Type 0
Step = Option (Role × State)

abbrev pub to : Role → State → Step
to r s = Some (r, s)

-- the start of a condition, of a sum behind a comparison
abbrev pub first_all : Where' → NotHead
first_all w = NoBang (FirstNegation (FirstAll w))

abbrev pub first_unit : CompareHead → ProductHead
first_unit c = FirstUnit (FirstProduct c)

-- a token behind a pattern, under the open brackets
abbrev pub behind : Stack → Tree → Terminal → Step
behind k p t.Where = to Binary (WantNegation (first_all (InWhere p k)))
behind (Body ss h) p t.End = to Quiet (Between (Then ss (Clause h p)))
behind (InRound h k) p t.Close = to Quiet (HaveRound h (Bracketed p) k)
behind (InNot h k) p t.Close = to Quiet (WantLimits h p k)
behind (InBefore h i k) p t.Comma = to Quiet (WantPart FirstPart (InAfter h i p k))
behind (InAfter h i b k) p t.Square = to Quiet (HavePart (put h (Without i b p)) k)
behind k p x = None

-- a token behind a chain
abbrev pub behind_chain : Stack → Chain → Terminal → Step
behind_chain k c (t.Op op) = to Binary (WantPart (NextPart c (Joined op)) k)
behind_chain k c t.Or = to Binary (WantPart (NextPart c Otherwise) k)
behind_chain k c x = behind k (Plain c) x

-- a token behind each level of a condition
abbrev pub behind_condition : Where' → Condition → Terminal → Step
behind_condition w c t.Either = to Binary (WantNegation (NoBang (FirstNegation (NextAll w c))))
behind_condition (InWhere p k) c x = behind k (Filtered p c) x
behind_condition (InGroup h) c t.Close = to Quiet (have_unit h (Grouped c))
behind_condition (InGroup h) c x = None

abbrev pub behind_all : OrHead → All → Terminal → Step
behind_all o a t.Both = to Binary (WantNegation (NoBang (NextNegation o a)))
behind_all o a x = behind_condition (over_condition o a).0 (over_condition o a).1 x

abbrev pub behind_negation : AndHead → Negation → Terminal → Step
behind_negation h n x = behind_all (over_all h n).0 (over_all h n).1 x

abbrev pub behind_comparison : NotHead → Comparison → Terminal → Step
behind_comparison h c x = behind_negation (over_negation h (Compared c)).0 (over_negation h (Compared c)).1 x

abbrev pub behind_sum : CompareHead → Sum → Terminal → Step
behind_sum (FirstSum n) s (t.Compare cmp) = to Binary (WantUnit (first_unit (SecondSum n s cmp)))
behind_sum c s x = behind_comparison (over_sum c s).0 (over_sum c s).1 x

abbrev pub behind_all_products : CompareHead × Sum → Terminal → Step
behind_all_products (c, s) t.Plus = to Binary (WantUnit (FirstUnit (NextProduct c s Added)))
behind_all_products (c, s) t.Minus = to Binary (WantUnit (FirstUnit (NextProduct c s Taken)))
behind_all_products (c, s) x = behind_sum c s x

abbrev pub behind_product : SumHead → Product → Terminal → Step
behind_product h p t.Star = to Binary (WantUnit (NextUnit h p Times))
behind_product h p t.Slash = to Binary (WantUnit (NextUnit h p Over))
behind_product h p t.Percent = to Binary (WantUnit (NextUnit h p Modulo))
behind_product h p x = behind_all_products (over_product h p) x

abbrev pub behind_unit : State → Terminal → Step
behind_unit (HaveProduct h p) x = behind_product h p x
behind_unit s x = None

abbrev pub want_unit : ProductHead → Terminal → Step
want_unit h (t.Var name) = to Single (have_unit h (Value (Leaf name)))
want_unit h (t.Number n) = to Single (have_unit h (Value (Lone (Digits n))))
want_unit h t.Minus = to Single (UnitMinus h)
want_unit h (t.Text text) = to Single (have_unit h (Value (Lone (Quoted text))))
want_unit h (t.Name name) = to Single (UnitName h name)
want_unit h t.Open = to (Nests (product_depth h + 1)) (WantNegation (first_all (InGroup h)))
want_unit h x = None

-- what may stand for a term
abbrev pub reads_nothing : Terminal → Option ⊥
reads_nothing x = None

abbrev pub reads_wanted : Terminal → Option Wanted
reads_wanted (t.Var name) = Some (Variable name)
reads_wanted t.Wild = Some Anything
reads_wanted x = None

abbrev pub reads_variable : Terminal → Option (List ℕ)
reads_variable (t.Var name) = Some name
reads_variable x = None

-- lists of arguments in each of their places
abbrev pub in_head : Turn ⊥ HeadPlace → Step
in_head (Stay r s) = to r (InHead s)
in_head (Leave o as') = to Quiet (HaveHeadTerms o.0 o.1 (put_head o.2 (Fixed (Compound o.3 as'))))
in_head Stuck = None

abbrev pub in_atom : Turn Wanted AtomPlace → Step
in_atom (Stay r s) = to r (InAtom s)
in_atom (Leave o as') = to Quiet (HavePart (put o.0 (Atom o.2 as')) o.1)
in_atom Stuck = None

abbrev pub in_operand : Turn (List ℕ) OperandPlace → Step
in_operand (Stay r s) = to r (InOperand s)
in_operand (Leave o as') = to Quiet (have_unit o.0 (Value (Compound o.1 as')))
in_operand Stuck = None

abbrev pub have_head_term : Statements → List ℕ → TermsHead → HeadTerm → Step
have_head_term ss name h a = to Quiet (HaveHeadTerms ss name (put_head h a))

abbrev pub behind_head_terms : Statements → List ℕ → HeadTerms → Terminal → Step
behind_head_terms ss name as' t.Comma = to (Counts (count_of_terms as' + 1)) (WantHeadTerm ss name (NextOfHead as'))
behind_head_terms ss name as' t.Close = to Quiet (HaveHead ss (Applied name as'))
behind_head_terms ss name as' x = None

abbrev pub step : State → Terminal → Step
step (Between ss) (t.Name name) = to (Starts (number_of ss + 1)) (HeadName ss name)
step (Between ss) t.Show = to (Starts (number_of ss + 1)) (WantItem ss FirstShown)
step (Between ss) x = None
step (HeadName ss name) t.Open = to Quiet (WantHeadTerm ss name FirstOfHead)
step (HeadName ss name) t.Arrow = to Quiet (WantPart FirstPart (Body ss (Plainly name)))
step (HeadName ss name) x = None
step (WantHeadTerm ss name h) (t.Var v) = have_head_term ss name h (Leading v)
step (WantHeadTerm ss name h) (t.Number n) = have_head_term ss name h (Fixed (Lone (Digits n)))
step (WantHeadTerm ss name h) t.Minus = to Quiet (HeadMinus ss name h)
step (WantHeadTerm ss name h) (t.Text text) = have_head_term ss name h (Fixed (Lone (Quoted text)))
step (WantHeadTerm ss name h) (t.Name w) = to Quiet (HeadWord ss name h w)
step (WantHeadTerm ss name h) x = None
step (HeadMinus ss name h) (t.Number n) = have_head_term ss name h (Fixed (Lone (Minus n)))
step (HeadMinus ss name h) t.Huge = have_head_term ss name h (Fixed (Lone Least))
step (HeadMinus ss name h) x = None
step (HeadWord ss name h w) t.Open = to (Deepens 2) (InHead (WantTerm (Outside (ss, name, h, w)) Start))
step (HeadWord ss name h w) x = behind_head_terms ss name (put_head h (Fixed (Lone (Symbol w)))) x
step (HaveHeadTerms ss name as') x = behind_head_terms ss name as' x
step (InHead s) x = in_head (list_step reads_nothing 2 s x)
step (HaveHead ss h) t.Arrow = to Quiet (WantPart FirstPart (Body ss h))
step (HaveHead ss h) x = None
step (WantItem ss h) (t.Name name) = to Quiet (ItemName ss h name)
step (WantItem ss h) x = None
step (ItemName ss h name) t.Slash = to Quiet (ItemSlash ss h name)
step (ItemName ss h name) x = None
step (ItemSlash ss h name) (t.Number n) = to (HasArity n) (HaveItems ss (put_item h name n))
step (ItemSlash ss h name) x = None
step (HaveItems ss is) t.Comma = to Lists (WantItem ss (NextShown is))
step (HaveItems ss is) t.End = to Quiet (Between (Then ss (Shown is)))
step (HaveItems ss is) x = None
step (WantPart h k) (t.Name name) = to Single (AtomName h k name)
step (WantPart h k) t.Not = to Single (WantOpen h k)
step (WantPart h k) t.Open = to (Nests (depth k + 1)) (WantPart FirstPart (InRound h k))
step (WantPart h k) x = None
step (AtomName h k name) t.Open = to Quiet (InAtom (WantTerm (Outside (h, k, name)) Start))
step (AtomName h k name) x = behind_chain k (put h (Bare name)) x
step (InAtom s) x = in_atom (list_step reads_wanted 1 s x)
step (WantOpen h k) t.Open = to (Nests (depth k + 1)) (WantPart FirstPart (InNot h k))
step (WantOpen h k) x = None
step (WantLimits h i k) t.Limits = to (Nests (depth k + 1)) (WantPart FirstPart (InBefore h i k))
step (WantLimits h i k) x = None
step (HavePart c k) x = behind_chain k c x
step (HaveRound h r k) t.Length = to Single (WantExact h r k)
step (HaveRound h r k) t.Within = to Binary (WantMost h r k)
step (HaveRound h r k) x = behind_chain k (put h (Rounded r)) x
step (WantExact h r k) (t.Number q) = to (Lasts q) (HaveRound h (Exactly r q) k)
step (WantExact h r k) x = None
step (WantMost h r k) (t.Number q) = to (Lasts q) (HaveRound h (AtMost r q) k)
step (WantMost h r k) x = None
step (WantNegation n) t.Bang = to Single (WantNegation (Bang n))
step (WantNegation n) x = want_unit (first_unit (FirstSum n)) x
step (WantUnit h) x = want_unit h x
step (UnitMinus h) (t.Number n) = to Quiet (have_unit h (Value (Lone (Minus n))))
step (UnitMinus h) t.Huge = to Quiet (have_unit h (Value (Lone Least)))
step (UnitMinus h) x = None
step (UnitName h name) t.Open = to (Deepens 2) (InOperand (WantTerm (Outside (h, name)) Start))
step (UnitName h name) x = behind_unit (have_unit h (Value (Lone (Symbol name)))) x
step (InOperand s) x = in_operand (list_step reads_variable 2 s x)
step (HaveProduct h p) x = behind_product h p x

abbrev pub ended : State → Result Statements Fault
ended (Between ss) = Ok ss
ended s = Err (Syntax 0)

-- on from what a step gave, by a given run of the tokens after it
abbrev pub unless_passed : Result Statements Fault → List Terminal → Option Which → Result Statements Fault
unless_passed r here None = r
unless_passed r here (Some which) = Err (Limit which (length here))

abbrev pub onward : (Counted → State → Result Statements Fault) → List Terminal → Counted → Terminal → Step → Result Statements Fault
onward go here g x None = Err (Syntax (length here))
onward go here g x (Some y) = unless_passed (go (count g (y.0, x)) y.1) here (passed (count g (y.0, x)) y.0)

abbrev pub run : List Terminal → Counted → State → Result Statements Fault
run [] g s = ended s
run (x ∷ xs) g s = onward (run xs) (x ∷ xs) g x (step s x)

-- all that was read up to a state, and then rest
abbrev pub chain_head : ℕ → ChainHead → List Marked → List Marked
chain_head d FirstPart rest = rest
chain_head d (NextPart c j) rest = chain d c (binary (joint j) rest)

abbrev pub terms_head : TermsHead → List Marked → List Marked
terms_head FirstOfHead rest = rest
terms_head (NextOfHead as') rest = head_terms as' ((Counts (count_of_terms as' + 1), t.Comma) ∷ rest)

abbrev pub items_head : ItemsHead → List Marked → List Marked
items_head FirstShown rest = rest
items_head (NextShown is) rest = items is ((Lists, t.Comma) ∷ rest)

abbrev pub begun : Statements → Terminal → List Marked → List Marked
begun ss x rest = statements ss ((Starts (number_of ss + 1), x) ∷ rest)

abbrev pub stack : Stack → List Marked → List Marked
stack (Body ss h) rest = statements ss (heading (number_of ss + 1) h (quiet t.Arrow rest))
stack (InRound h k) rest = stack k (chain_head (depth k) h ((Nests (depth k + 1), t.Open) ∷ rest))
stack (InNot h k) rest = stack k (chain_head (depth k) h (a_part t.Not ((Nests (depth k + 1), t.Open) ∷ rest)))
stack (InBefore h i k) rest =
    stack k (chain_head (depth k) h (a_part t.Not ((Nests (depth k + 1), t.Open)
    ∷ tree (depth k + 1) i (quiet t.Close ((Nests (depth k + 1), t.Limits) ∷ rest)))))
stack (InAfter h i b k) rest =
    stack k (chain_head (depth k) h (a_part t.Not ((Nests (depth k + 1), t.Open)
    ∷ tree (depth k + 1) i (quiet t.Close ((Nests (depth k + 1), t.Limits)
    ∷ tree (depth k + 1) b (quiet t.Comma rest))))))

abbrev mutual
  pub where_head : Where' → List Marked → List Marked
  where_head (InWhere p k) rest = stack k (tree (depth k) p (binary t.Where rest))
  where_head (InGroup h) rest = product_head h ((Nests (product_depth h + 1), t.Open) ∷ rest)

  pub or_head : OrHead → List Marked → List Marked
  or_head (FirstAll w) rest = where_head w rest
  or_head (NextAll w c) rest = where_head w (condition (where_depth w) c (binary t.Either rest))

  pub and_head : AndHead → List Marked → List Marked
  and_head (FirstNegation o) rest = or_head o rest
  and_head (NextNegation o a) rest = or_head o (all (or_depth o) a (binary t.Both rest))

  pub not_head : NotHead → List Marked → List Marked
  not_head (NoBang a) rest = and_head a rest
  not_head (Bang n) rest = not_head n (a_part t.Bang rest)

  pub compare_head : CompareHead → List Marked → List Marked
  compare_head (FirstSum n) rest = not_head n rest
  compare_head (SecondSum n s cmp) rest = not_head n (sum (not_depth n) s (binary (t.Compare cmp) rest))

  pub sum_head : SumHead → List Marked → List Marked
  sum_head (FirstProduct c) rest = compare_head c rest
  sum_head (NextProduct c s op) rest = compare_head c (sum (compare_depth c) s (binary (adding op) rest))

  pub product_head : ProductHead → List Marked → List Marked
  product_head (FirstUnit s) rest = sum_head s rest
  product_head (NextUnit s p op) rest = sum_head s (product (sum_depth s) p (binary (scaling op) rest))

abbrev pub atom_place : AtomPlace → List Marked → List Marked
atom_place o rest = stack o.1 (chain_head (depth o.1) o.0 (a_part (t.Name o.2) (quiet t.Open rest)))

abbrev pub operand_place : OperandPlace → List Marked → List Marked
operand_place o rest = product_head o.0 (a_part (t.Name o.1) ((Deepens 2, t.Open) ∷ rest))

abbrev pub head_place : HeadPlace → List Marked → List Marked
head_place o rest = begun o.0 (t.Name o.1) (quiet t.Open (terms_head o.2 (quiet (t.Name o.3) ((Deepens 2, t.Open) ∷ rest))))

abbrev pub so_far : State → List Marked → List Marked
so_far (Between ss) rest = statements ss rest
so_far (HeadName ss name) rest = begun ss (t.Name name) rest
so_far (WantHeadTerm ss name h) rest = begun ss (t.Name name) (quiet t.Open (terms_head h rest))
so_far (HeadMinus ss name h) rest = begun ss (t.Name name) (quiet t.Open (terms_head h (quiet t.Minus rest)))
so_far (HeadWord ss name h w) rest = begun ss (t.Name name) (quiet t.Open (terms_head h (quiet (t.Name w) rest)))
so_far (HaveHeadTerms ss name as') rest = begun ss (t.Name name) (quiet t.Open (head_terms as' rest))
so_far (InHead s) rest = list_so_far never 2 head_place s rest
so_far (HaveHead ss h) rest = statements ss (heading (number_of ss + 1) h rest)
so_far (WantItem ss h) rest = begun ss t.Show (items_head h rest)
so_far (ItemName ss h name) rest = begun ss t.Show (items_head h (quiet (t.Name name) rest))
so_far (ItemSlash ss h name) rest = begun ss t.Show (items_head h (quiet (t.Name name) (quiet t.Slash rest)))
so_far (HaveItems ss is) rest = begun ss t.Show (items is rest)
so_far (WantPart h k) rest = stack k (chain_head (depth k) h rest)
so_far (AtomName h k name) rest = stack k (chain_head (depth k) h (a_part (t.Name name) rest))
so_far (InAtom s) rest = list_so_far wanted 1 atom_place s rest
so_far (WantOpen h k) rest = stack k (chain_head (depth k) h (a_part t.Not rest))
so_far (WantLimits h i k) rest =
    stack k (chain_head (depth k) h (a_part t.Not ((Nests (depth k + 1), t.Open) ∷ tree (depth k + 1) i (quiet t.Close rest))))
so_far (HavePart c k) rest = stack k (chain (depth k) c rest)
so_far (HaveRound h r k) rest = stack k (chain_head (depth k) h (round (depth k) r rest))
so_far (WantExact h r k) rest = stack k (chain_head (depth k) h (round (depth k) r (a_part t.Length rest)))
so_far (WantMost h r k) rest = stack k (chain_head (depth k) h (round (depth k) r (binary t.Within rest)))
so_far (WantNegation n) rest = not_head n rest
so_far (WantUnit h) rest = product_head h rest
so_far (UnitMinus h) rest = product_head h (a_part t.Minus rest)
so_far (UnitName h name) rest = product_head h (a_part (t.Name name) rest)
so_far (InOperand s) rest = list_so_far t.Var 2 operand_place s rest
so_far (HaveProduct h p) rest = sum_head h (product (sum_depth h) p rest)
