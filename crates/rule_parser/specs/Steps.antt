-- What a function that reads tokens gives, under every context in which they can stand.
use Rattle.std.specs.Prelude.{◌≡◌, ℕ, ◌+◌, ◌<◌, ◌≤◌, Bool, true, false, List, [], ◌∷◌, ◌++◌, length, map, Option, Some, None, Result, Ok, Err}
use Rattle.std.specs.Prelude.{Box}
use Rattle.std.specs.Borrow.{Bor}
use Rattle.event_model.specs.declared.terms.TheConstants.{MOST_ARGUMENTS, MOST_SLOTS}
use Rattle.rule_ast.specs.declared.limits.TheConstants.{MOST_TICKS}
use Rattle.rule_grammar.specs.declared.limits.TheConstants.{MOST_PARTS}
use Rattle.rule_ast.specs.declared.patterns.Pattern.{Pattern}
use Rattle.event_model.specs.declared.atoms.PatAtom.{PatAtom}
use Rattle.event_model.specs.declared.atoms.NameArity.{NameArity}
use Rattle.rule_ast.specs.declared.statements.Statement as declared
use Rattle.rule_ast.specs.declared.statements.Rule.{Rule}
use Rattle.rule_ast.specs.Trees.{PlainPattern, PlainStatement, Clause, Show}
use Rattle.rule_ast.specs.Plain.{plain_pattern, plain_rule, plain_statement}
use Rattle.std.specs.declared.vec.Vec.{Vec}
use Rattle.event_model.specs.declared.terms.Pat.{Pat}
use Rattle.rule_lexer.specs.declared.terminals.Terminal.{Terminal}
use Rattle.rule_lexer.specs.declared.terminals.Terminal.TheVariants as t
use Rattle.rule_grammar.specs.declared.faults.Which.TheVariants as which
use Rattle.rule_grammar.specs.declared.faults.Fault.{Fault}
use Rattle.rule_grammar.specs.declared.faults.Fault.TheVariants as fault
use Rattle.rule_grammar.specs.Trees.{Literal, Literal.Digits, Literal.Minus, Literal.Least, Literal.Symbol, Literal.Quoted, Term, Arguments, Wanted, HeadTerm, HeadTerms, Heading, Condition, All, Negation, Comparison, Sum, Product, Unit', Tree, Chain, Part, Round, Items, Statement, Statements, Statements.Empty, Statements.Then}
use Rattle.rule_grammar.specs.Marks.{Marked, Counted, nothing_counted, count, count_all, passed, with_name}
use Rattle.rule_grammar.specs.Marks.{Role.Quiet, Role.Binary}
use Rattle.rule_grammar.specs.Values.{variable, wanted_value, never_value, literal_value, term_value, arguments_value, head_terms_value, heading_value, items_value, statement_value, text_value}
use Rattle.rule_grammar.specs.Tokens.{never, wanted, term, arguments, head_term, head_terms, heading, number_of, condition, all, negation, comparison, sum, product, unit, tree, chain, part, round}
use Rattle.rule_grammar.specs.Lists.{Before, Before.Start, Nest, ListState, ListState.WantTerm, Turn, level, behind_terms, put_term}
use Rattle.rule_grammar.specs.Machine.{ChainHead, ChainHead.FirstPart, TermsHead, TermsHead.FirstOfHead, ItemsHead, ItemsHead.FirstShown, Stack, Stack.Body, Where', OrHead, AndHead.FirstNegation, NotHead, NotHead.NoBang, CompareHead, SumHead, ProductHead, ProductHead.FirstUnit, CompareHead.FirstSum, AtomPlace, OperandPlace, HeadPlace, State, State.InHead, State.InAtom, State.InOperand, State.WantPart, State.HaveRound, State.WantNegation, State.WantUnit, State.WantHeadTerm, State.Between, State.HeadName, State.WantItem, State.HaveItems}
use Rattle.rule_grammar.specs.Machine.{Step, to, put, put_head, depth, where_depth, or_depth, not_depth, compare_depth, sum_depth, product_depth, have_unit, over_negation, first_all, first_unit, behind, behind_chain, behind_condition, behind_all, behind_negation, behind_comparison, behind_all_products, behind_product, behind_unit, behind_head_terms, reads_nothing, reads_wanted, reads_variable, in_head, in_atom, in_operand, step, onward, run}
use Rattle.rule_parser.specs.declared.faults.Stop.{Stop}
use Rattle.rule_parser.specs.declared.faults.Stop.TheVariants as stop
use Rattle.rule_parser.specs.declared.ledger.Ledger.{Ledger}
use Rattle.rule_parser.specs.declared.terms.Kind.{Kind}
use Rattle.rule_parser.specs.declared.terms.Kind.TheVariants.{Ground, Operand, Argument}

-- what a ledger has counted
abbrev pub counted : Ledger → Counted
counted l = record { parts = l.parts; names = l.names.keys }

-- no limit of a rule is passed
pub record Fine (g : Counted) : Type 0 where
  pub parts : g.parts ≤ MOST_PARTS
  pub names : length g.names ≤ MOST_SLOTS

abbrev pub with_variable : Counted → List ℕ → Counted
with_variable g name = record { parts = g.parts; names = with_name g.names name }

abbrev pub with_part : Counted → Counted
with_part g = record { parts = g.parts + 1; names = g.names }

-- names at the end of a list
pub record Extends (xs ys : List (List ℕ)) : Type 0 where
  pub more : List (List ℕ)
  pub same : ys ≡ xs ++ more

-- a run stops with this fault, unless memory ran out
abbrev pub Fails : Stop → Result Statements Fault → Type 0
Fails stop.Memory r = Unit {0}
Fails (stop.Fault f) r = r ≡ Err f

-- on with the tokens that are left, where the first is met by `b`
abbrev pub resume : (Terminal → Step) → List Terminal → Counted → Result Statements Fault
resume b [] g = Err (fault.Syntax 0)
resume b (x ∷ xs) g = onward (run xs) (x ∷ xs) g x (b x)

-- a kind of tree: its tokens, the contexts in which one can stand, how deep inside of brackets they are, the state that wants
-- one, and how a token behind it is met
pub record Level (C T : Type 0) : Type 0 where
  pub tokens : ℕ → T → List Marked → List Marked
  pub depth : C → ℕ
  pub state : C → State
  pub behind : C → T → Terminal → Step

-- under every context at a depth the machine goes on with ts as it goes on behind the tree with rest
abbrev pub Runs : {C T : Type 0} → Level C T → List Terminal → ℕ → Counted → T → Counted → List Terminal → Type 0
Runs {C} L ts d g tree g' rest = (c : C) → L.depth c ≡ d → run ts g (L.state c) ≡ resume (L.behind c tree) rest g'

-- a tree with this value was read, and rest is left; names of variables came to the counted ones at their end
pub record Read {C T V : Type 0} (L : Level C T) (value : List (List ℕ) → T → V) (ts : List Terminal) (d : ℕ)
    (g g' : Counted) (v : V) (rest : List Terminal) : Type 0 where
  pub tree : T
  pub says : (names : List (List ℕ)) → Extends g'.names names → value names tree ≡ v
  pub grows : Extends g.names g'.names
  pub fine : Fine g'
  pub shorter : length rest < length ts
  pub counts : (more : List Marked) → count_all g (L.tokens d tree more) ≡ count_all g' more
  pub runs : Runs L ts d g tree g' rest

-- it is read, and the bracket behind it
pub record Closed {C T V : Type 0} (L : Level C T) (value : List (List ℕ) → T → V) (ts : List Terminal) (d : ℕ)
    (g g' : Counted) (v : V) (rest : List Terminal) : Type 0 where
  pub closed : List Terminal
  pub close : closed ≡ t.Close ∷ rest
  pub read : Read L value ts d g g' v closed

-- it is read, or the machine stops with this fault under every context
abbrev pub Answer : {C T V R : Type 0} → Level C T → (List (List ℕ) → T → V) → (R → V) → List Terminal → ℕ → Counted → Counted
    → Result (R × Bor (List Terminal)) Stop → Type 0
Answer L value plain ts d g g' (Ok x) = Read L value ts d g g' (plain x.0) x.1.now
Answer {C} L value plain ts d g g' (Err e) = (c : C) → L.depth c ≡ d → Fails e (run ts g (L.state c))

-- the same, where besides some token doesn't stand behind what was read
abbrev pub AnswerTo : {C T V R : Type 0} → Level C T → (List (List ℕ) → T → V) → (R → V) → (List Terminal → Type 0) → List Terminal → ℕ
    → Counted → Counted → Result (R × Bor (List Terminal)) Stop → Type 0
AnswerTo L value plain Over ts d g g' (Ok x) = Read L value ts d g g' (plain x.0) x.1.now × Over x.1.now
AnswerTo {C} L value plain Over ts d g g' (Err e) = (c : C) → L.depth c ≡ d → Fails e (run ts g (L.state c))

abbrev pub same : {A : Type 0} → A → A
same a = a

-- a token leads from behind a tree to where another one is wanted
pub record Link {C T C' T' : Type 0} (L : Level C T) (E : Level C' T') (x : Terminal) : Type 0 where
  pub next : C → T → C'
  pub goes : (c : C) (tree : T) → L.behind c tree x ≡ to Binary (E.state (next c tree))
  pub deep : (c : C) (tree : T) → E.depth (next c tree) ≡ L.depth c

-- Lists of arguments, by what may stand for a term: nothing, a variable, a variable or `_`.

abbrev pub Leaves : Kind → Type 0
Leaves Ground = ⊥
Leaves Operand = List ℕ
Leaves Argument = Wanted

abbrev pub Place : Kind → Type 0
Place Ground = HeadPlace
Place Operand = OperandPlace
Place Argument = AtomPlace

abbrev pub base : Kind → ℕ
base Ground = 2
base Operand = 2
base Argument = 1

abbrev pub leaf_read : (k : Kind) → Terminal → Option (Leaves k)
leaf_read Ground x = reads_nothing x
leaf_read Operand x = reads_variable x
leaf_read Argument x = reads_wanted x

abbrev pub in_list : (k : Kind) → ListState (Leaves k) (Place k) → State
in_list Ground s = InHead s
in_list Operand s = InOperand s
in_list Argument s = InAtom s

abbrev pub turn_of : (k : Kind) → Turn (Leaves k) (Place k) → Step
turn_of Ground s = in_head s
turn_of Operand s = in_operand s
turn_of Argument s = in_atom s

abbrev pub leaf_value : (k : Kind) → List (List ℕ) → Leaves k → Pat
leaf_value Ground names w = never_value w
leaf_value Operand names w = variable names w
leaf_value Argument names w = wanted_value names w

abbrev pub leaf_terminal : (k : Kind) → Leaves k → Terminal
leaf_terminal Ground w = never w
leaf_terminal Operand w = t.Var w
leaf_terminal Argument w = wanted w

abbrev pub term_of : (k : Kind) → List (List ℕ) → Term (Leaves k) → Pat
term_of k names a = term_value (leaf_value k names) a

abbrev pub terms_of : (k : Kind) → List (List ℕ) → Arguments (Leaves k) → List Pat
terms_of k names as' = arguments_value (leaf_value k names) as'

abbrev pub Within : Kind → Type 0
Within k = Nest (Leaves k) (Place k) × Before (Leaves k)

abbrev pub term_level : (k : Kind) → Level (Within k) (Term (Leaves k))
term_level k = record {
  tokens = λ d a more. term (leaf_terminal k) Quiet d a more;
  depth = λ c. level (base k) c.0;
  state = λ c. in_list k (WantTerm c.0 c.1);
  behind = λ c a x. turn_of k (behind_terms c.0 (put_term c.1 a) x);
}

-- arguments without the bracket that closes their list
abbrev pub terms_level : (k : Kind) → Level (Nest (Leaves k) (Place k)) (Arguments (Leaves k))
terms_level k = record {
  tokens = λ d as' more. arguments (leaf_terminal k) d as' more;
  depth = λ n. level (base k) n;
  state = λ n. in_list k (WantTerm n Start);
  behind = λ n as' x. turn_of k (behind_terms n as' x);
}

-- arguments were read, and the bracket behind them
abbrev pub ListRead : (k : Kind) → List Terminal → ℕ → Counted → Counted → List Pat → List Terminal → Type 0
ListRead k ts d g g' vs rest = Closed (terms_level k) (terms_of k) ts d g g' vs rest

abbrev pub ListAnswer : {Z : Type 0} (k : Kind) → List Terminal → ℕ → Counted → Counted
    → Result (Vec Pat Z × Bor (List Terminal)) Stop → Type 0
ListAnswer k ts d g g' (Ok x) = ListRead k ts d g g' x.0.items x.1.now
ListAnswer k ts d g g' (Err e) = (n : Nest (Leaves k) (Place k)) → level (base k) n ≡ d → Fails e (run ts g (in_list k (WantTerm n Start)))

-- Terms of one word but for a name.

abbrev pub word_tokens : Literal → List Terminal → List Terminal
word_tokens (Digits n) rest = t.Number n ∷ rest
word_tokens (Minus n) rest = t.Minus ∷ t.Number n ∷ rest
word_tokens Least rest = t.Minus ∷ t.Huge ∷ rest
word_tokens (Symbol name) rest = t.Name name ∷ rest
word_tokens (Quoted text) rest = t.Text text ∷ rest

abbrev pub IsNoSymbol : Literal → Type 0
IsNoSymbol (Symbol name) = ⊥
IsNoSymbol l = Unit {0}

abbrev pub LacksWord : List Terminal → Type 0
LacksWord (t.Number n ∷ xs) = ⊥
LacksWord (t.Minus ∷ xs) = ⊥
LacksWord (t.Text text ∷ xs) = ⊥
LacksWord xs = Unit {0}

abbrev pub LacksDigits : List Terminal → Type 0
LacksDigits (t.Number n ∷ xs) = ⊥
LacksDigits (t.Huge ∷ xs) = ⊥
LacksDigits xs = Unit {0}

pub record WordRead (ts : List Terminal) (v : Pat) (rest : List Terminal) : Type 0 where
  pub literal : Literal
  pub no_symbol : IsNoSymbol literal
  pub tokens : ts ≡ word_tokens literal rest
  pub says : literal_value literal ≡ v

pub record WordFails (ts : List Terminal) (f : Fault) : Type 0 where
  pub rest : List Terminal
  pub tokens : ts ≡ t.Minus ∷ rest
  pub lacks : LacksDigits rest
  pub place : f ≡ fault.Syntax (length rest)

abbrev pub WordAnswer : List Terminal → Result (Option (Pat × Bor (List Terminal))) Stop → Type 0
WordAnswer ts (Ok (Some x)) = WordRead ts x.0 x.1.now
WordAnswer ts (Ok None) = LacksWord ts
WordAnswer ts (Err stop.Memory) = Unit {0}
WordAnswer ts (Err (stop.Fault f)) = WordFails ts f

abbrev pub NegativeAnswer : List Terminal → Result (Pat × Bor (List Terminal)) Stop → Type 0
NegativeAnswer ts (Ok x) = WordRead (t.Minus ∷ ts) x.0 x.1.now
NegativeAnswer ts (Err stop.Memory) = Unit {0}
NegativeAnswer ts (Err (stop.Fault f)) = (f ≡ fault.Syntax (length ts)) × LacksDigits ts

-- What stands for a term and is none.

pub record LeafRead (k : Kind) (x : Terminal) (g g' : Counted) (v : Pat) : Type 0 where
  pub leaf : Leaves k
  pub reads : leaf_read k x ≡ Some leaf
  pub says : (names : List (List ℕ)) → Extends g'.names names → leaf_value k names leaf ≡ v
  pub grows : Extends g.names g'.names
  pub counts : count g (Quiet, x) ≡ g'
  pub fine : Fine g'

pub record LeafFails (ts : List Terminal) (k : Kind) (x : Terminal) (g : Counted) (f : Fault) : Type 0 where
  pub leaf : Leaves k
  pub reads : leaf_read k x ≡ Some leaf
  pub place : f ≡ fault.Limit which.Variables (length ts)
  pub passes : passed (count g (Quiet, x)) Quiet ≡ Some which.Variables

abbrev pub LeafAnswer : List Terminal → Terminal → Kind → Counted → Counted → Result (Option Pat) Stop → Type 0
LeafAnswer ts x k g g' (Ok (Some v)) = LeafRead k x g g' v
LeafAnswer ts x k g g' (Ok None) = leaf_read k x ≡ None
LeafAnswer ts x k g g' (Err stop.Memory) = Unit {0}
LeafAnswer ts x k g g' (Err (stop.Fault f)) = LeafFails ts k x g f

-- Variables.

abbrev pub SlotStops : List Terminal → Counted → List ℕ → Stop → Type 0
SlotStops ts g name stop.Memory = Unit {0}
SlotStops ts g name (stop.Fault f) = (f ≡ fault.Limit which.Variables (length ts)) × (MOST_SLOTS < length (with_name g.names name))

-- Conditions.

abbrev pub begins_word : Terminal → Bool
begins_word (t.Number n) = true
begins_word (t.Text text) = true
begins_word t.Minus = true
begins_word x = false

abbrev pub unit_level : Level ProductHead Unit'
unit_level = record { tokens = unit; depth = product_depth; state = WantUnit; behind = λ h u x. behind_unit (have_unit h u) x }

abbrev pub product_level : Level SumHead Product
product_level = record { tokens = product; depth = sum_depth; state = λ h. WantUnit (FirstUnit h); behind = behind_product }

abbrev pub sum_level : Level CompareHead Sum
sum_level = record {
  tokens = sum;
  depth = compare_depth;
  state = λ c. WantUnit (first_unit c);
  behind = λ c s x. behind_all_products (c, s) x;
}

abbrev pub comparison_level : Level NotHead Comparison
comparison_level = record {
  tokens = comparison;
  depth = not_depth;
  state = λ n. WantUnit (first_unit (FirstSum n));
  behind = behind_comparison;
}

abbrev pub negation_level : Level NotHead Negation
negation_level = record {
  tokens = negation;
  depth = not_depth;
  state = WantNegation;
  behind = λ h n x. behind_negation (over_negation h n).0 (over_negation h n).1 x;
}

abbrev pub all_level : Level OrHead All
all_level = record { tokens = all; depth = or_depth; state = λ o. WantNegation (NoBang (FirstNegation o)); behind = behind_all }

abbrev pub condition_level : Level Where' Condition
condition_level = record { tokens = condition; depth = where_depth; state = λ w. WantNegation (first_all w); behind = behind_condition }

-- Patterns.

abbrev pub boxed_pattern : {Z : Type 0} → Box Pattern Z → PlainPattern
boxed_pattern b = plain_pattern b.value

abbrev pub PartPlace : Type 0
PartPlace = ChainHead × Stack

abbrev pub part_level : Level PartPlace Part
part_level = record {
  tokens = part;
  depth = λ c. depth c.1;
  state = λ c. WantPart c.0 c.1;
  behind = λ c p x. behind_chain c.1 (put c.0 p) x;
}

abbrev pub round_level : Level PartPlace Round
round_level = record {
  tokens = round;
  depth = λ c. depth c.1;
  state = λ c. WantPart c.0 c.1;
  behind = λ c r x. step (HaveRound c.0 r c.1) x;
}

abbrev pub chain_level : Level Stack Chain
chain_level = record { tokens = chain; depth = depth; state = WantPart FirstPart; behind = behind_chain }

abbrev pub tree_level : Level Stack Tree
tree_level = record { tokens = tree; depth = depth; state = WantPart FirstPart; behind = behind }

-- Lengths.

abbrev pub LacksNumber : List Terminal → Type 0
LacksNumber (t.Number n ∷ xs) = ⊥
LacksNumber xs = Unit {0}

pub record LengthRead (ts : List Terminal) (q : ℕ) (rest : List Terminal) : Type 0 where
  pub tokens : ts ≡ t.Number q ∷ rest
  pub within : q ≤ MOST_TICKS

pub record TooLong (ts : List Terminal) : Type 0 where
  pub q : ℕ
  pub rest : List Terminal
  pub tokens : ts ≡ t.Number q ∷ rest
  pub over : MOST_TICKS < q

abbrev pub LengthFails : List Terminal → Fault → Type 0
LengthFails ts (fault.Syntax left) = (left ≡ length ts) × LacksNumber ts
LengthFails ts (fault.Limit w left) = (w ≡ which.Length) × (left ≡ length ts) × TooLong ts

abbrev pub LengthAnswer : List Terminal → Result (ℕ × Bor (List Terminal)) Stop → Type 0
LengthAnswer ts (Ok x) = LengthRead ts x.0 x.1.now
LengthAnswer ts (Err stop.Memory) = ⊥
LengthAnswer ts (Err (stop.Fault f)) = LengthFails ts f

-- Terms of heads.

abbrev pub HeadTermPlace : Type 0
HeadTermPlace = Statements × List ℕ × TermsHead

abbrev pub head_term_level : Level HeadTermPlace HeadTerm
head_term_level = record {
  tokens = λ d a more. head_term a more;
  depth = λ c. 0;
  state = λ c. WantHeadTerm c.0 c.1 c.2;
  behind = λ c a x. behind_head_terms c.0 c.1 (put_head c.2 a) x;
}

abbrev pub head_terms_level : Level (Statements × List ℕ) HeadTerms
head_terms_level = record {
  tokens = λ d as' more. head_terms as' more;
  depth = λ c. 0;
  state = λ c. WantHeadTerm c.0 c.1 FirstOfHead;
  behind = λ c as' x. behind_head_terms c.0 c.1 as' x;
}

-- terms of a head were read, and the bracket behind them
abbrev pub HeadListRead : List Terminal → Counted → Counted → List Pat → List Terminal → Type 0
HeadListRead ts g g' vs rest = Closed head_terms_level head_terms_value ts 0 g g' vs rest

abbrev pub HeadListAnswer : {Z : Type 0} → List Terminal → Counted → Counted → Result (Vec Pat Z × Bor (List Terminal)) Stop → Type 0
HeadListAnswer ts g g' (Ok x) = HeadListRead ts g g' x.0.items x.1.now
HeadListAnswer ts g g' (Err e) = (c : Statements × List ℕ) → Fails e (run ts g (WantHeadTerm c.0 c.1 FirstOfHead))

-- A head was read behind its name, and the arrow behind it.
pub record HeadRead (name : List ℕ) (ts : List Terminal) (g : Counted) (v : PatAtom) (rest : List Terminal) : Type 0 where
  pub head : Heading
  pub says : (names : List (List ℕ)) → Extends g.names names → heading_value names head ≡ v
  pub fine : Fine g
  pub shorter : length rest < length ts
  pub counts : (g0 : Counted) (n : ℕ) (more : List Marked) → count_all g0 (heading n head ((Quiet, t.Arrow) ∷ more)) ≡ count_all g more
  pub runs : (ss : Statements) → run ts nothing_counted (HeadName ss name) ≡ run rest g (WantPart FirstPart (Body ss head))

abbrev pub HeadAnswer : List ℕ → List Terminal → Counted → Result (PatAtom × Bor (List Terminal)) Stop → Type 0
HeadAnswer name ts g (Ok x) = HeadRead name ts g x.0 x.1.now
HeadAnswer name ts g (Err e) = (ss : Statements) → Fails e (run ts nothing_counted (HeadName ss name))

-- A statement was read, from some state behind its first token on.
pub record StatementRead (state : Statements → State) (ts : List Terminal) (v : PlainStatement) (rest : List Terminal) : Type 0 where
  pub statement : Statement
  pub after : Counted
  pub says : statement_value statement ≡ v
  pub shorter : length rest < length ts
  pub runs : (ss : Statements) → run ts nothing_counted (state ss) ≡ run rest after (Between (Then ss statement))

abbrev pub StatementAnswer : {R : Type 0} → (R → PlainStatement) → (Statements → State) → List Terminal
    → Result (R × Bor (List Terminal)) Stop → Type 0
StatementAnswer plain state ts (Ok x) = StatementRead state ts (plain x.0) x.1.now
StatementAnswer plain state ts (Err e) = (ss : Statements) → Fails e (run ts nothing_counted (state ss))

abbrev pub clause_of : Rule → PlainStatement
clause_of r = Clause (plain_rule r)

abbrev pub show_of : {Z : Type 0} → Vec NameArity Z → PlainStatement
show_of names = Show names.items

abbrev pub named_state : List ℕ → Statements → State
named_state name ss = HeadName ss name

abbrev pub shown_state : Statements → State
shown_state ss = WantItem ss FirstShown

-- A shown name was read.
pub record ItemRead (ts : List Terminal) (v : NameArity) (rest : List Terminal) : Type 0 where
  pub few : v.arity ≤ MOST_ARGUMENTS
  pub tokens : ts ≡ t.Name v.name ∷ t.Slash ∷ t.Number v.arity ∷ rest

abbrev pub ItemAnswer : List Terminal → Result (NameArity × Bor (List Terminal)) Stop → Type 0
ItemAnswer ts (Ok x) = ItemRead ts x.0 x.1.now
ItemAnswer ts (Err e) = (ss : Statements) (h : ItemsHead) → Fails e (run ts nothing_counted (WantItem ss h))

pub record ItemsRead (ts : List Terminal) (vs : List NameArity) (rest : List Terminal) : Type 0 where
  pub items : Items
  pub says : items_value items ≡ vs
  pub shorter : length rest < length ts
  pub runs : (ss : Statements) → run ts nothing_counted (WantItem ss FirstShown) ≡ run rest nothing_counted (HaveItems ss items)

-- The statement that stands first, behind so many.
pub record NextRead (ts : List Terminal) (n : ℕ) (v : PlainStatement) (rest : List Terminal) : Type 0 where
  pub statement : Statement
  pub after : Counted
  pub says : statement_value statement ≡ v
  pub shorter : length rest < length ts
  pub runs : (ss : Statements) (g : Counted) → number_of ss ≡ n → run ts g (Between ss) ≡ run rest after (Between (Then ss statement))

abbrev pub NextAnswer : List Terminal → ℕ → Result (declared.Statement × Bor (List Terminal)) Stop → Type 0
NextAnswer ts n (Ok x) = NextRead ts n (plain_statement x.0) x.1.now
NextAnswer ts n (Err e) = (ss : Statements) (g : Counted) → number_of ss ≡ n → Fails e (run ts g (Between ss))

-- the statements so far, and the tokens that are left
pub record FileRead (ts : List Terminal) (vs : List declared.Statement) (rest : List Terminal) : Type 0 where
  pub tree : Statements
  pub after : Counted
  pub says : text_value tree ≡ map plain_statement vs
  pub many : number_of tree ≡ length vs
  pub runs : run ts nothing_counted (Between Empty) ≡ run rest after (Between tree)

pub record WholeRead (ts : List Terminal) (vs : List declared.Statement) : Type 0 where
  pub tree : Statements
  pub says : text_value tree ≡ map plain_statement vs
  pub runs : run ts nothing_counted (Between Empty) ≡ Ok tree

abbrev pub WholeAnswer : {Z : Type 0} → List Terminal → Result (Vec declared.Statement Z) Stop → Type 0
WholeAnswer ts (Ok v) = WholeRead ts v.items
WholeAnswer ts (Err e) = Fails e (run ts nothing_counted (Between Empty))
