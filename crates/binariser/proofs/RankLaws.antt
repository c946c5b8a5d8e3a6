-- A list that is put in order by the ranks of its names is in the order of plans.
use Rattle.std.proofs.Common.{◌≡◌, List, [], ◌∷◌, map, length, refl, sym, ap, ◌∙◌}
use Rattle.std.specs.List.{flat_map}
use Rattle.std.specs.declared.cmp.Ordering.{Ordering}
use Rattle.std.specs.declared.cmp.Ordering.TheVariants.{Less, Equal, Greater}
use Rattle.ordered_lists.specs.Canon.{canon, has, place, placed, canon_same, has-canon}
use Rattle.event_model.specs.EventOrder.{name_cmp}
use Rattle.event_model.specs.declared.atoms.NameArity.{NameArity}
use Rattle.rule_ast.specs.Trees.{PlainRule, PlainStatement}
use Rattle.rule_check.specs.Names.{outputs}
use Rattle.rule_check.specs.Sound.{rules_of}
use Rattle.step_meaning.specs.PlanOf.{needs, by_rank, plan_names}
use Rattle.step_meaning.specs.NamedSteps.{exact_by_rank, has_by_rank}
use Rattle.binariser.specs.Ranks.{ranked_cmp, ranked}

-- a list by its elements' images, where the orders agree
canon-map : {A B : Type 0} (R : A → A → Ordering) (S : B → B → Ordering) (f : A → B) → ((x y : A) → S (f x) (f y) ≡ R x y) → (xs : List A)
    → canon S (map f xs) ≡ map f (canon R xs)
canon-map {A} {B} R S f h [] = refl
canon-map {A} {B} R S f h (x ∷ xs) = ap (place S (f x)) (canon-map R S f h xs) ∙ places (canon R xs)
  where
    places : (ys : List A) → place S (f x) (map f ys) ≡ map f (place R x ys)
    places [] = refl
    places (y ∷ ys) = ap (λ c. placed S c (f x) (f y) (map f ys) (place S (f x) (map f ys))) (h x y) ∙ at (R x y) (places ys)
      where
        at : (c : Ordering) → place S (f x) (map f ys) ≡ map f (place R x ys)
            → placed S c (f x) (f y) (map f ys) (place S (f x) (map f ys)) ≡ map f (placed R c x y ys (place R x ys))
        at Less e = refl
        at Equal e = refl
        at Greater e = ap (λ l. f y ∷ l) e

names_of_ranked : (rules : List PlainRule) (xs : List NameArity) → map (λ p. p.1) (map (ranked rules) xs) ≡ xs
names_of_ranked rules [] = refl
names_of_ranked rules (x ∷ xs) = ap (λ l. x ∷ l) (names_of_ranked rules xs)

pub in_order : (rules : List PlainRule) (xs : List NameArity)
    → map (λ p. p.1) (canon ranked_cmp (map (ranked rules) xs)) ≡ canon (by_rank rules) xs
in_order rules xs =
    ap (map (λ p. p.1)) (canon-map (by_rank rules) ranked_cmp (ranked rules) (λ x y. refl) xs)
    ∙ names_of_ranked rules (canon (by_rank rules) xs)

-- names that are those of the plan are so in order
pub plan_order : (statements : List PlainStatement) (xs : List NameArity)
    → ((m : NameArity) → has name_cmp m xs ≡ has name_cmp m (plan_names statements))
    → canon (by_rank (rules_of statements)) xs ≡ plan_names statements
plan_order statements xs h =
    let rules = rules_of statements in
    let all = flat_map (needs (length rules) rules) (outputs statements) in
    canon_same (exact_by_rank rules) xs all
    (λ q. has_by_rank rules q xs ∙ h q ∙ sym (has_by_rank rules q (plan_names statements)) ∙ has-canon (exact_by_rank rules) q all)
