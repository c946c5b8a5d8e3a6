-- How the needed names are found: sets of names that grow.
use Rattle.std.specs.Prelude.{◌≡◌, ◌≤◌, ◌||◌, List, [], ◌∷◌, ◌++◌}
use Rattle.std.specs.List.{flat_map}
use Rattle.ordered_lists.specs.Lists.{Each}
use Rattle.ordered_lists.specs.Canon.{has}
use Rattle.event_model.specs.EventOrder.{name_cmp}
use Rattle.event_model.specs.declared.atoms.NameArity.{NameArity}
use Rattle.event_model.specs.declared.terms.TheConstants.{MOST_ARGUMENTS}
use Rattle.rule_ast.specs.Trees.{PlainPattern, Atom, Both, Either, Where, Exact, Within, Not, PlainRule}
use Rattle.rule_check.specs.Names.{name_of_atom, body_names}

-- `new` is `old` with more names behind it: those of `more` that `old` lacks
pub record IsGrown (old more new : List NameArity) : Type 0 where
  pub kept : (rest : List NameArity) × (new ≡ old ++ rest)
  pub names : (m : NameArity) → has name_cmp m new ≡ (has name_cmp m old || has name_cmp m more)

-- the name of an atom; another pattern has none of its own
abbrev pub own_names : PlainPattern → List NameArity
own_names (Atom a) = name_of_atom a ∷ []
own_names (Both op l r) = []
own_names (Either l r) = []
own_names (Where p c) = []
own_names (Exact p q) = []
own_names (Within p q) = []
own_names (Not i b a) = []

-- the patterns of which a pattern is made
abbrev pub parts_of : PlainPattern → List PlainPattern
parts_of (Atom a) = []
parts_of (Both op l r) = l ∷ (r ∷ [])
parts_of (Either l r) = l ∷ (r ∷ [])
parts_of (Where p c) = p ∷ []
parts_of (Exact p q) = p ∷ []
parts_of (Within p q) = p ∷ []
parts_of (Not i b a) = i ∷ (b ∷ (a ∷ []))

-- the names in the bodies of rules
abbrev pub bodies_names : List PlainRule → List NameArity
bodies_names rules = flat_map (λ r. body_names r.body) rules

-- names with few arguments
abbrev pub AreShort : List NameArity → Type 0
AreShort names = Each (λ n. n.arity ≤ MOST_ARGUMENTS) names
