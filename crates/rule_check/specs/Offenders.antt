-- Which variables of a rule stand where they may not, as occurrences in the order of the text.
use Rattle.std.specs.Prelude.{ℕ, Bool, true, not, ◌&&◌, ◌||◌, Option, Some, None, List, [], ◌∷◌, ◌++◌}
use Rattle.std.specs.List.{filter}
use Rattle.rule_ast.specs.Trees.{PlainCond, Value, Calculate, Compare, AndAlso, OrElse, Negate, PlainPattern, Atom, Both, Either, Where, Exact, Within, Not, PlainRule}
use Rattle.rule_ast.specs.Vars.{slots_of, atom_vars, vars, is_in}

abbrev pub first : {A : Type 0} → List A → Option A
first [] = None
first (x ∷ xs) = Some x

-- whether the variable is one of these
abbrev pub among : List ℕ → ℕ → Bool
among slots slot = is_in slot slots

-- those that may not stand there
abbrev pub outside : (ℕ → Bool) → List ℕ → List ℕ
outside may slots = filter (λ slot. not (may slot)) slots

-- the variables of a condition
abbrev pub cond_vars : PlainCond → List ℕ
cond_vars (Value p) = slots_of p
cond_vars (Calculate calc l r) = cond_vars l ++ cond_vars r
cond_vars (Compare cmp l r) = cond_vars l ++ cond_vars r
cond_vars (AndAlso l r) = cond_vars l ++ cond_vars r
cond_vars (OrElse l r) = cond_vars l ++ cond_vars r
cond_vars (Negate c) = cond_vars c

-- variables of the head that the body doesn't have
abbrev pub head_offenders : PlainRule → List ℕ
head_offenders r = outside (among (vars r.body)) (atom_vars r.head)

-- variables of a condition that the pattern of its WHERE doesn't have
abbrev pub where_offenders : PlainPattern → List ℕ
where_offenders (Atom a) = []
where_offenders (Both op l r) = where_offenders l ++ where_offenders r
where_offenders (Either l r) = where_offenders l ++ where_offenders r
where_offenders (Where p c) = where_offenders p ++ outside (among (vars p)) (cond_vars c)
where_offenders (Exact p q) = where_offenders p
where_offenders (Within p q) = where_offenders p
where_offenders (Not i b a) = where_offenders i ++ (where_offenders b ++ where_offenders a)

-- variables of one side of an OR that the other doesn't have. `may` holds for the variables that the other side of each OR
-- round the pattern has; an OR doesn't read what a NOT negates
abbrev pub or_offenders : (ℕ → Bool) → PlainPattern → List ℕ
or_offenders may (Atom a) = outside may (atom_vars a)
or_offenders may (Both op l r) = or_offenders may l ++ or_offenders may r
or_offenders may (Either l r) = or_offenders (λ s. may s && is_in s (vars r)) l ++ or_offenders (λ s. may s && is_in s (vars l)) r
or_offenders may (Where p c) = or_offenders may p
or_offenders may (Exact p q) = or_offenders may p
or_offenders may (Within p q) = or_offenders may p
or_offenders may (Not i b a) = or_offenders (λ s. true) i ++ (or_offenders may b ++ or_offenders may a)

-- variables of a negated pattern that its start and end patterns don't have. `may` holds for the variables that the start and end
-- patterns of the NOT round the pattern have; it doesn't read what another NOT negates
abbrev pub not_offenders : (ℕ → Bool) → PlainPattern → List ℕ
not_offenders may (Atom a) = outside may (atom_vars a)
not_offenders may (Both op l r) = not_offenders may l ++ not_offenders may r
not_offenders may (Either l r) = not_offenders may l ++ not_offenders may r
not_offenders may (Where p c) = not_offenders may p
not_offenders may (Exact p q) = not_offenders may p
not_offenders may (Within p q) = not_offenders may p
not_offenders may (Not i b a) = not_offenders (λ s. is_in s (vars b) || is_in s (vars a)) i ++ (not_offenders may b ++ not_offenders may a)
