-- What writing tokens appends to a text.
use Rattle.std.specs.Prelude.{ℕ, ◌≡◌, Bool, true, false, None, List, [], ◌∷◌, ◌++◌, map}
use Rattle.std.specs.List.{fold}
use Rattle.event_model.specs.Bytes.{space}
use Rattle.event_model.specs.declared.terms.Pat.{Pat}
use Rattle.rule_lexer.specs.declared.terminals.Terminal.{Terminal}
use Rattle.event_model.specs.declared.atoms.NameArity.{NameArity}
use Rattle.rule_ast.specs.declared.conditions.Calc.{Calc}
use Rattle.rule_ast.specs.declared.conditions.Calc.TheVariants.{Add, Sub, Mul, Div, Rem}
use Rattle.rule_lexer.specs.declared.terminals.Terminal.TheVariants.{Var, Name, Number, Slash, Plus, Minus, Star, Percent}
use Rattle.rule_lexer.specs.Writing.{spelling}
use Rattle.rule_grammar.specs.Trees.{Term, Term.Leaf, Arguments, Arguments.First, Arguments.Next, Wanted, Wanted.Variable, Wanted.Anything, HeadTerm, HeadTerms, HeadTerms.FirstTerm, HeadTerms.NextTerm}
use Rattle.rule_grammar.specs.Marks.{Marked, Role.Quiet, Role.HasArity}
use Rattle.rule_grammar.specs.Tokens.{quiet, term, arguments, wanted, never, head_terms, items}
use Rattle.rule_writer.specs.declared.terms.Place.{Place}
use Rattle.rule_writer.specs.declared.terms.Place.TheVariants.{Argument, Operand, Ground}
use Rattle.rule_writer.specs.declared.conditions.ConditionLevel.{ConditionLevel}
use Rattle.rule_writer.specs.declared.conditions.ConditionLevel.TheVariants as level
use Rattle.rule_writer.specs.declared.patterns.PatternLevel.{PatternLevel}
use Rattle.rule_writer.specs.declared.patterns.PatternLevel.TheVariants as pattern
use Rattle.rule_writer.specs.Forms.{head_term_form, and_item, shown_form, term_form, name_at, zero_term, compound_form, arguments_form}
use Rattle.rule_writer.specs.Canonical.{bytes_of}

-- the tokens, in front of any others
pub record Appends (old new : List ℕ) (tokens : List Marked → List Marked) : Type 0 where
  pub bytes : (rest : List Marked) → new ++ bytes_of rest ≡ old ++ bytes_of (tokens rest)

-- what may stand for a term at a place, and what slots and `_` become there
abbrev pub LeafOf : Place → Type 0
LeafOf Argument = Wanted
LeafOf Operand = List ℕ
LeafOf Ground = ⊥

abbrev pub spell_at : (place : Place) → LeafOf place → Terminal
spell_at Argument = wanted
spell_at Operand = λ name. Var name
spell_at Ground = never

abbrev pub slot_form_at : (place : Place) → List (List ℕ) → ℕ → Term (LeafOf place)
slot_form_at Argument names slot = Leaf (Variable (name_at names slot))
slot_form_at Operand names slot = Leaf (name_at names slot)
slot_form_at Ground names slot = zero_term

abbrev pub any_form_at : (place : Place) → Term (LeafOf place)
any_form_at Argument = Leaf Anything
any_form_at Operand = zero_term
any_form_at Ground = zero_term

abbrev pub form_at : (place : Place) → List (List ℕ) → Pat → Term (LeafOf place)
form_at place names p = term_form (slot_form_at place names) (any_form_at place) p

-- the tokens of a term at a place
abbrev pub term_tokens : (place : Place) → ℕ → Term (LeafOf place) → List Marked → List Marked
term_tokens place d a rest = term (spell_at place) Quiet d a rest

-- a name and its arguments
abbrev pub compound_at : (place : Place) → List (List ℕ) → List ℕ → List Pat → Term (LeafOf place)
compound_at place names name args = compound_form name (arguments_form (map (form_at place names) args))

-- arguments behind the first one
abbrev pub more_arguments : {W : Type 0} → Term W → List (Term W) → Arguments W
more_arguments first others = fold Next (First first) others

-- the tokens of arguments, at their depth
abbrev pub all_arguments : (place : Place) → List (List ℕ) → List Pat → ℕ → List Marked → List Marked
all_arguments place names [] d rest = rest
all_arguments place names (first ∷ others) d rest =
    arguments (spell_at place) d (more_arguments (form_at place names first) (map (form_at place names) others)) rest

-- head terms behind the first one
abbrev pub more_head_terms : HeadTerm → List HeadTerm → HeadTerms
more_head_terms first others = fold NextTerm (FirstTerm first) others

abbrev pub all_head_terms : List (List ℕ) → List Pat → List Marked → List Marked
all_head_terms names [] rest = rest
all_head_terms names (first ∷ others) rest =
    head_terms (more_head_terms (head_term_form names first) (map (head_term_form names) others)) rest

-- bytes, where they are wanted
abbrev pub when : Bool → List ℕ → List ℕ
when true bytes = bytes
when false bytes = []

-- a token with a blank on each side
abbrev pub between : Terminal → List ℕ
between x = space ∷ (spelling x ++ space ∷ [])

-- how tightly a condition binds at each level, and a pattern
abbrev pub condition_rank : ConditionLevel → ℕ
condition_rank level.Condition = 0
condition_rank level.All = 1
condition_rank level.Negation = 2
condition_rank level.Comparison = 3
condition_rank level.Sum = 4
condition_rank level.Product = 5
condition_rank level.Unit = 6

abbrev pub pattern_rank : PatternLevel → ℕ
pattern_rank pattern.Tree = 0
pattern_rank pattern.Chain = 1
pattern_rank pattern.Part = 2
pattern_rank pattern.Round = 3

abbrev pub calc_rank : Calc → ℕ
calc_rank Add = 4
calc_rank Sub = 4
calc_rank Mul = 5
calc_rank Div = 5
calc_rank Rem = 5

abbrev pub calc_token : Calc → Terminal
calc_token Add = Plus
calc_token Sub = Minus
calc_token Mul = Star
calc_token Div = Slash
calc_token Rem = Percent

-- a shown name, and several
abbrev pub item_tokens : NameArity → List Marked → List Marked
item_tokens n rest = quiet (Name n.name) (quiet Slash ((HasArity n.arity, Number n.arity) ∷ rest))

abbrev pub all_items : List NameArity → List Marked → List Marked
all_items names rest = items (shown_form (fold and_item None names)) rest
