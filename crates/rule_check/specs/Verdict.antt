-- When rules are sound, which fault they are refused with, and what is kept of sound rules.
use Rattle.std.specs.Prelude.{ℕ, ◌≡◌, ◌⊎◌, Some, List, [], ◌++◌, length, map}
use Rattle.event_model.specs.declared.atoms.NameArity.{NameArity}
use Rattle.rule_ast.specs.Shaped.{IsShaped}
use Rattle.rule_ast.specs.Trees.{PlainRule, PlainStatement}
use Rattle.rule_check.specs.Offenders.{first}
use Rattle.rule_check.specs.Sound.{rules_of, AreSafe}
use Rattle.rule_ast.specs.Shown.{shown_names}
use Rattle.rule_check.specs.Names.{head_names, outputs, unknown_shows, AreShownKnown}
use Rattle.rule_check.specs.Cycles.{AreAcyclic, IsFirstCycle, IsRanking, rank_of}
use Rattle.rule_check.specs.Numbers.{first_seen, rank_by}
use Rattle.rule_check.specs.Faults.{variable_faults}
use Rattle.rule_check.specs.declared.faults.CheckFault.{CheckFault}
use Rattle.rule_check.specs.declared.faults.CheckFault.TheVariants.{ShowUnknown, Cycle, Memory}

-- none of the six faults applies: each rule is safe, each shown name heads a rule, and no rule is on a cycle
pub record IsSound (statements : List PlainStatement) : Type 0 where
  pub safe : AreSafe (rules_of statements)
  pub shown_known : AreShownKnown statements
  pub acyclic : AreAcyclic (rules_of statements) (rules_of statements)

-- the faults of shown names
abbrev pub show_faults : List PlainStatement → List CheckFault
show_faults statements = map (λ k. ShowUnknown k) (unknown_shows 1 (head_names (rules_of statements)) (shown_names statements))

-- the faults that are tested before cycles, in the order of testing
abbrev pub early_faults : List PlainStatement → List CheckFault
early_faults statements = variable_faults 1 (rules_of statements) ++ show_faults statements

-- the fault names the first rule on a cycle
abbrev pub IsCycleFault : CheckFault → List PlainRule → Type 0
IsCycleFault fault rules = (k : ℕ) × (fault ≡ Cycle k) × IsFirstCycle rules 1 rules k

-- the fault is the first, or memory ran out
abbrev pub IsRefusal : CheckFault → List PlainStatement → Type 0
IsRefusal fault statements =
    (fault ≡ Memory)
    ⊎ ((first (early_faults statements) ≡ Some fault)
    ⊎ ((early_faults statements ≡ []) × IsCycleFault fault (rules_of statements)))

-- these are the ranks of the names that head rules, and no rule is on a cycle
pub record AreNameRanks (rules : List PlainRule) (heads : List NameArity) (ranks : List ℕ) : Type 0 where
  pub are : (n : NameArity) → rank_by heads ranks n ≡ rank_of rules n
  pub sized : length ranks ≡ length heads
  pub ranking : IsRanking rules (rank_of rules)
  pub acyclic : AreAcyclic rules rules

-- what is kept of sound rules: the names that are given out, and those that head rules with their ranks
pub record IsChecked (statements : List PlainStatement) (shown heads : List NameArity) (ranks : List ℕ) : Type 0 where
  pub shaped : IsShaped statements
  pub sound : IsSound statements
  pub shown_is : shown ≡ outputs statements
  pub heads_are : heads ≡ first_seen (head_names (rules_of statements))
  pub ranks_are : AreNameRanks (rules_of statements) heads ranks
