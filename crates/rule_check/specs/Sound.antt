-- When a file of rules is sound, by a plain statement for each fault.
use Rattle.std.specs.Prelude.{ℕ, ◌≡◌, true, List, [], ◌∷◌, ◌++◌}
use Rattle.rule_ast.specs.Trees.{PlainPattern, Atom, Both, Either, Where, Exact, Within, Not, PlainRule, PlainStatement, Clause, Show}
use Rattle.rule_ast.specs.Vars.{atom_vars, vars, is_in}
use Rattle.rule_check.specs.Offenders.{cond_vars}

-- the rules of a file, in its order
abbrev pub rules_of : List PlainStatement → List PlainRule
rules_of [] = []
rules_of (Clause r ∷ statements) = r ∷ rules_of statements
rules_of (Show names ∷ statements) = rules_of statements

-- each variable of the one list is in the other
abbrev pub AreAmong : List ℕ → List ℕ → Type 0
AreAmong slots others = (s : ℕ) → is_in s slots ≡ true → is_in s others ≡ true

-- each variable of the head is one of the body
abbrev pub IsHeadBound : PlainRule → Type 0
IsHeadBound r = AreAmong (atom_vars r.head) (vars r.body)

-- each variable of a condition is one of its WHERE's own pattern
abbrev pub AreWheresBound : PlainPattern → Type 0
AreWheresBound (Atom a) = Unit {0}
AreWheresBound (Both op l r) = AreWheresBound l × AreWheresBound r
AreWheresBound (Either l r) = AreWheresBound l × AreWheresBound r
AreWheresBound (Where p c) = AreWheresBound p × AreAmong (cond_vars c) (vars p)
AreWheresBound (Exact p q) = AreWheresBound p
AreWheresBound (Within p q) = AreWheresBound p
AreWheresBound (Not i b a) = AreWheresBound i × AreWheresBound b × AreWheresBound a

-- the two sides of an OR have the same variables
abbrev pub AreOrsAlike : PlainPattern → Type 0
AreOrsAlike (Atom a) = Unit {0}
AreOrsAlike (Both op l r) = AreOrsAlike l × AreOrsAlike r
AreOrsAlike (Either l r) = AreOrsAlike l × AreOrsAlike r × AreAmong (vars l) (vars r) × AreAmong (vars r) (vars l)
AreOrsAlike (Where p c) = AreOrsAlike p
AreOrsAlike (Exact p q) = AreOrsAlike p
AreOrsAlike (Within p q) = AreOrsAlike p
AreOrsAlike (Not i b a) = AreOrsAlike i × AreOrsAlike b × AreOrsAlike a

-- each variable of a negated pattern is one of its start and end patterns
abbrev pub AreNotsBound : PlainPattern → Type 0
AreNotsBound (Atom a) = Unit {0}
AreNotsBound (Both op l r) = AreNotsBound l × AreNotsBound r
AreNotsBound (Either l r) = AreNotsBound l × AreNotsBound r
AreNotsBound (Where p c) = AreNotsBound p
AreNotsBound (Exact p q) = AreNotsBound p
AreNotsBound (Within p q) = AreNotsBound p
AreNotsBound (Not i b a) = AreNotsBound i × AreNotsBound b × AreNotsBound a × AreAmong (vars i) (vars b ++ vars a)

-- what a rule alone must keep
pub record IsSafe (r : PlainRule) : Type 0 where
  pub head_bound : IsHeadBound r
  pub wheres_bound : AreWheresBound r.body
  pub ors_alike : AreOrsAlike r.body
  pub nots_bound : AreNotsBound r.body

-- each rule of these keeps it
abbrev pub AreSafe : List PlainRule → Type 0
AreSafe [] = Unit {0}
AreSafe (r ∷ rules) = IsSafe r × AreSafe rules
