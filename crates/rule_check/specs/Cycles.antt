-- Which names stand on which, the rules on a cycle, and ranks of names.
use Rattle.std.specs.Prelude.{ℕ, ◌≡◌, ◌+◌, ◌≤◌, ◌⊎◌, Bool, true, false, cond, Option, Some, None, zero, suc, length, List, [], ◌∷◌, ◌++◌, map, slice_set}
use Rattle.std.proofs.Common.{arith}
use Rattle.std.specs.List.{flat_map}
use Rattle.std.specs.Ordering.{is_eq}
use Rattle.ordered_lists.specs.Canon.{has}
use Rattle.event_model.specs.declared.atoms.NameArity.{NameArity}
use Rattle.rule_ast.specs.Trees.{PlainRule}
use Rattle.event_model.specs.EventOrder.{name_cmp}
use Rattle.rule_check.specs.Names.{head_name, head_names, body_names}
use Rattle.rule_check.specs.Graphs.{Reaches, greatest, targets}
use Rattle.rule_check.specs.Numbers.{place, places}

-- the names in the bodies of a name's rules
abbrev pub below : List PlainRule → NameArity → List NameArity
below rules n = flat_map (λ r. cond (is_eq (name_cmp n (head_name r))) (body_names r.body) []) rules

abbrev pub stands_on : List PlainRule → NameArity → NameArity → Bool
stands_on rules n m = has name_cmp m (below rules n)

-- the rule's head name is reached from a name of its body through bodies of rules
abbrev pub IsOnCycle : List PlainRule → PlainRule → Type 0
IsOnCycle rules r = (m : NameArity) × (has name_cmp m (body_names r.body) ≡ true) × Reaches (stands_on rules) m (head_name r)

-- none of these is on a cycle of the rules
abbrev pub AreAcyclic : List PlainRule → List PlainRule → Type 0
AreAcyclic rules [] = Unit {0}
AreAcyclic rules (r ∷ rs) = (IsOnCycle rules r → ⊥) × AreAcyclic rules rs

-- of these, the first of which has this number, k is the number of the first that is on a cycle of the rules
abbrev pub IsFirstCycle : List PlainRule → ℕ → List PlainRule → ℕ → Type 0
IsFirstCycle rules number [] k = ⊥
IsFirstCycle rules number (r ∷ rs) k =
    ((k ≡ number) × IsOnCycle rules r)
    ⊎ ((IsOnCycle rules r → ⊥) × IsFirstCycle rules (number + 1) rs k)

-- a name that heads no rule has rank 0, and another one more than the greatest rank in the bodies of its rules
abbrev pub IsRanking : List PlainRule → (NameArity → ℕ) → Type 0
IsRanking rules rank = (n : NameArity) → rank n ≡ cond (has name_cmp n (head_names rules)) (greatest (map rank (below rules n)) + 1) 0

-- ranks that are looked for at most k names deep
abbrev pub rank_within : ℕ → List PlainRule → NameArity → ℕ
rank_within zero rules n = 0
rank_within (suc k) rules n = cond (has name_cmp n (head_names rules)) (greatest (map (rank_within k rules) (below rules n)) + 1) 0

-- the rank of a name, where no rule is on a cycle
unfoldable pub rank_of : List PlainRule → NameArity → ℕ
rank_of rules n = rank_within (length rules) rules n

greatest_most : (f : NameArity → ℕ) (k : ℕ) → ((n : NameArity) → f n ≤ k) → (names : List NameArity) → greatest (map f names) ≤ k
greatest_most f k h [] = omega arith
greatest_most f k h (n ∷ names) = let first = h n in let more = greatest_most f k h names in omega (arith, first, more)

rank_within_most : (rules : List PlainRule) (k : ℕ) (n : NameArity) → rank_within k rules n ≤ k
rank_within_most rules zero n = omega arith
rank_within_most rules (suc k) n =
    at (has name_cmp n (head_names rules)) (greatest_most (rank_within k rules) k (rank_within_most rules k) (below rules n))
  where
    at : (b : Bool) → greatest (map (rank_within k rules) (below rules n)) ≤ k
        → cond b (greatest (map (rank_within k rules) (below rules n)) + 1) 0 ≤ suc k
    at true h = omega (arith, h)
    at false h = omega arith

-- no rank is more than the number of rules
pub rank_most : (rules : List PlainRule) (n : NameArity) → rank_of rules n ≤ length rules
unfolding rank_of
rank_most rules n = rank_within_most rules (length rules) n

-- for each name, the numbers of those that it stands on
abbrev pub graph_of : List NameArity → List PlainRule → List (List ℕ)
graph_of heads rules = map (λ h. places heads (below rules h)) heads

-- the row of the rule's head has the numbers of its body's names behind the old ones
abbrev pub IsRowGrown : List NameArity → PlainRule → (old new : List (List ℕ)) → Type 0
IsRowGrown heads r old new =
    (i : ℕ) → place heads (head_name r) ≡ Some i
    → new ≡ slice_set old i (targets old i ++ places heads (body_names r.body))

-- the number of the first rule on a cycle, or nothing where none is
abbrev pub IsCycleAnswer : Option ℕ → List PlainRule → Type 0
IsCycleAnswer None rules = AreAcyclic rules rules
IsCycleAnswer (Some k) rules = IsFirstCycle rules 1 rules k
