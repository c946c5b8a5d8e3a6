-- One rule more, in loops over rules.
use Rattle.std.proofs.Common.{Bor, ◌≡◌, ℕ, ◌+◌, ◌<◌, ◌^◌, true, Some, List, [], ◌∷◌, ◌++◌, length, get_or, take, drop, ap, sym, ◌∙◌, arith, append_assoc, append-nil, length-append, length-take, ◌⊎◌, inl, inr}
use Rattle.std.specs.List.{list_all}
use Rattle.std.proofs.lemmas.Bool.{and_parts}
use Rattle.std.proofs.lemmas.List.{take_more, take-append-drop, map-append, length-map}
use Rattle.rule_ast.specs.declared.statements.Rule.{Rule}
use Rattle.rule_ast.specs.Trees.{PlainRule}
use Rattle.rule_ast.specs.Plain.{plain_rule}
use Rattle.rule_ast.specs.Shaped.{is_shaped_rule}
use Rattle.rule_check.specs.Offenders.{first}
use Rattle.rule_check.specs.Faults.{rule_faults, variable_faults}
use Rattle.rule_check.specs.Gathered.{rules_at, AreShaped}
use Rattle.rule_check.specs.declared.faults.CheckFault.{CheckFault}
use Rattle.rule_check.specs.declared.faults.CheckFault.TheVariants.{Memory}
use Rattle.rule_check.proofs.Safety.{append_none, none_append}

shaped_among : (before rest : List PlainRule) (r : PlainRule) → list_all is_shaped_rule (before ++ r ∷ rest) ≡ true → is_shaped_rule r ≡ true
shaped_among [] rest r e = (and_parts (is_shaped_rule r) (list_all is_shaped_rule rest) e).0
shaped_among (q ∷ before) rest r e = shaped_among before rest r (and_parts (is_shaped_rule q) (list_all is_shaped_rule (before ++ r ∷ rest)) e).1

module _ (xs : List (Bor Rule)) (i : ℕ) (x : Bor Rule) (h : i < length xs) (is : x ≡ get_or xs i x) where
  pub one_more : rules_at (take (i + 1) xs) ≡ rules_at (take i xs) ++ plain_rule x.now ∷ []
  one_more = ap rules_at (take_more xs i x h) ∙ ap (λ y. rules_at (take i xs ++ y ∷ [])) (sym is) ∙ map-append (λ r. plain_rule r.now) (take i xs) (x ∷ [])

  -- all rules, round one of them
  pub rule_among : rules_at xs ≡ rules_at (take i xs) ++ plain_rule x.now ∷ rules_at (drop (i + 1) xs)
  rule_among =
      ap rules_at (sym (take-append-drop (i + 1) xs)) ∙ map-append (λ r. plain_rule r.now) (take (i + 1) xs) (drop (i + 1) xs)
      ∙ ap (λ l. l ++ rules_at (drop (i + 1) xs)) one_more ∙ append_assoc (rules_at (take i xs)) (plain_rule x.now ∷ []) (rules_at (drop (i + 1) xs))

  pub rule_shaped : AreShaped (rules_at xs) → is_shaped_rule (plain_rule x.now) ≡ true
  rule_shaped s = shaped_among (rules_at (take i xs)) (rules_at (drop (i + 1) xs)) (plain_rule x.now) (ap (list_all is_shaped_rule) (sym rule_among) ∙ s.each)

-- the number of the next rule is one that a number holds
pub few_before : (xs : List (Bor Rule)) (i : ℕ) → i < length xs → AreShaped (rules_at xs) → length (rules_at (take i xs)) + 1 < 2 ^ 32
few_before xs i h s =
    let few = s.few in
    omega (arith, h, few, length-map xs (λ r. plain_rule r.now), length-map (take i xs) (λ r. plain_rule r.now), length-take i xs)

-- ---- faults of variables

pub first_front : {A : Type 0} (xs ys : List A) (x : A) → first xs ≡ Some x → first (xs ++ ys) ≡ Some x
first_front [] ys x e = cc
first_front (y ∷ xs) ys x e = e

-- the first fault of a rule is that of all, where those before it have none
fault_among : (k : ℕ) (before rest : List PlainRule) (r : PlainRule) (f : CheckFault) → variable_faults k before ≡ []
    → first (rule_faults (k + length before) r) ≡ Some f → first (variable_faults k (before ++ r ∷ rest)) ≡ Some f
fault_among k [] rest r f none some = first_front (rule_faults k r) (variable_faults (k + 1) rest) f (ap (λ n. first (rule_faults n r)) (omega arith) ∙ some)
fault_among k (q ∷ before) rest r f none some =
    let parts = append_none (rule_faults k q) (variable_faults (k + 1) before) none in
    ap (λ l. first (l ++ variable_faults (k + 1) (before ++ r ∷ rest))) parts.0
    ∙ fault_among (k + 1) before rest r f parts.1 (ap (λ n. first (rule_faults n r)) (omega arith) ∙ some)

none_more : (k : ℕ) (before : List PlainRule) (r : PlainRule) → variable_faults k before ≡ [] → rule_faults (k + length before) r ≡ [] → variable_faults k (before ++ r ∷ []) ≡ []
none_more k [] r none e = append-nil (rule_faults k r) ∙ ap (λ n. rule_faults n r) (omega arith) ∙ e
none_more k (q ∷ before) r none e =
    let parts = append_none (rule_faults k q) (variable_faults (k + 1) before) none in
    none_append (rule_faults k q) (variable_faults (k + 1) (before ++ r ∷ [])) parts.0
    (none_more (k + 1) before r parts.1 (ap (λ n. rule_faults n r) (omega arith) ∙ e))

-- what holds behind these rules
pub record Clean (rules : List PlainRule) (number : ℕ) : Type 0 where
  pub counted : number ≡ length rules
  pub clean : variable_faults 1 rules ≡ []

pub clean_more : (before all : List PlainRule) (r : PlainRule) (number : ℕ) → all ≡ before ++ r ∷ [] → Clean before number → rule_faults (number + 1) r ≡ [] → Clean all (number + 1)
clean_more before all r number is old none = record {
  counted = ap (λ n. n + 1) old.counted ∙ sym (length-append before (r ∷ [])) ∙ ap length (sym is);
  clean = ap (variable_faults 1) is ∙ none_more 1 before r old.clean (ap (λ n. rule_faults n r) (let c = old.counted in omega (arith, c)) ∙ none);
}

pub verdict_at : (before rest all : List PlainRule) (r : PlainRule) (number : ℕ) (f : CheckFault) → all ≡ before ++ r ∷ rest → Clean before number
    → (f ≡ Memory) ⊎ (first (rule_faults (number + 1) r) ≡ Some f) → (f ≡ Memory) ⊎ (first (variable_faults 1 all) ≡ Some f)
verdict_at before rest all r number f is old (inl m) = inl m
verdict_at before rest all r number f is old (inr some) = inr (
    ap (λ l. first (variable_faults 1 l)) is
    ∙ fault_among 1 before rest r f old.clean (ap (λ n. first (rule_faults n r)) (let c = old.counted in omega (arith, c)) ∙ some))
