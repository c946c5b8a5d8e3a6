-- The names of rules: those that head rules, those that stand in bodies, and those that are shown.
use Rattle.std.specs.Prelude.{ℕ, ◌≡◌, ◌+◌, Bool, true, false, cond, List, [], ◌∷◌, ◌++◌, length, map}
use Rattle.ordered_lists.specs.Canon.{canon, has}
use Rattle.event_model.specs.EventOrder.{name_cmp}
use Rattle.event_model.specs.declared.atoms.PatAtom.{PatAtom}
use Rattle.event_model.specs.declared.atoms.NameArity.{NameArity}
use Rattle.rule_ast.specs.Trees.{PlainPattern, Atom, Both, Either, Where, Exact, Within, Not, PlainRule, PlainStatement, Clause, Show}
use Rattle.rule_ast.specs.Shown.{shown_names}
use Rattle.rule_check.specs.Sound.{rules_of}

-- the name that an atom is of
abbrev pub name_of_atom : PatAtom → NameArity
name_of_atom a = record { name = a.name; arity = length a.args }

abbrev pub head_name : PlainRule → NameArity
head_name r = name_of_atom r.head

-- the names of a pattern's atoms
abbrev pub body_names : PlainPattern → List NameArity
body_names (Atom a) = name_of_atom a ∷ []
body_names (Both op l r) = body_names l ++ body_names r
body_names (Either l r) = body_names l ++ body_names r
body_names (Where p c) = body_names p
body_names (Exact p q) = body_names p
body_names (Within p q) = body_names p
body_names (Not i b a) = body_names i ++ (body_names b ++ body_names a)

-- the names that head rules
abbrev pub head_names : List PlainRule → List NameArity
head_names rules = map head_name rules

abbrev pub has_show : List PlainStatement → Bool
has_show [] = false
has_show (Clause r ∷ statements) = has_show statements
has_show (Show names ∷ statements) = true

-- the names whose rows are given out, in order and each once: those that are shown, or all that head rules where nothing is
abbrev pub outputs : List PlainStatement → List NameArity
outputs statements = canon name_cmp (cond (has_show statements) (shown_names statements) (head_names (rules_of statements)))

-- the numbers of the shown names that head no rule, where the first has this number
abbrev pub unknown_shows : ℕ → List NameArity → List NameArity → List ℕ
unknown_shows number heads [] = []
unknown_shows number heads (n ∷ names) = cond (has name_cmp n heads) [] (number ∷ []) ++ unknown_shows (number + 1) heads names

-- each shown name heads a rule
abbrev pub AreShownKnown : List PlainStatement → Type 0
AreShownKnown statements =
    (n : NameArity) → has name_cmp n (shown_names statements) ≡ true
    → has name_cmp n (head_names (rules_of statements)) ≡ true
