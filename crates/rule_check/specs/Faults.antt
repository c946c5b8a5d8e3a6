-- The faults of a file of rules, in the order of testing.
use Rattle.std.specs.Prelude.{ℕ, ◌≡◌, ◌+◌, true, get_or, ◌⊎◌, Result, Ok, Err, Some, List, [], ◌∷◌, ◌++◌, map}
use Rattle.rule_ast.specs.Trees.{PlainRule}
use Rattle.rule_check.specs.Offenders.{first, head_offenders, where_offenders, or_offenders, not_offenders}
use Rattle.rule_check.specs.declared.faults.CheckFault.{CheckFault}
use Rattle.rule_check.specs.declared.faults.CheckFault.TheVariants.{HeadUnbound, WhereUnbound, OrVariables, NotVariables, Memory}

-- what the variable of a slot is called
abbrev pub name_of : PlainRule → ℕ → List ℕ
name_of r slot = get_or r.vars slot []

-- the faults of one rule's variables
abbrev pub rule_faults : ℕ → PlainRule → List CheckFault
rule_faults number r =
    map (λ s. HeadUnbound number (name_of r s)) (head_offenders r)
    ++ (map (λ s. WhereUnbound number (name_of r s)) (where_offenders r.body)
    ++ (map (λ s. OrVariables number (name_of r s)) (or_offenders (λ s. true) r.body)
    ++ map (λ s. NotVariables number (name_of r s)) (not_offenders (λ s. true) r.body)))

-- the faults of the variables of these rules, the first of which has this number
abbrev pub variable_faults : ℕ → List PlainRule → List CheckFault
variable_faults number [] = []
variable_faults number (r ∷ rules) = rule_faults number r ++ variable_faults (number + 1) rules

-- what a test answers that gives the first of these faults, or passes where there is none
abbrev pub IsVerdict : {A : Type 0} → Result A CheckFault → List CheckFault → Type 0
IsVerdict (Ok x) faults = faults ≡ []
IsVerdict (Err f) faults = (f ≡ Memory) ⊎ (first faults ≡ Some f)
