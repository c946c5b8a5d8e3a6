-- Numbers beside names, and of steps.
use Rattle.std.proofs.Common.{◌≡◌, ◌<◌, ◌≤◌, ◌+◌, ℕ, suc, length, drop, get_or, map, Bool, true, false, cond, Some, unwrap_or, List, [], ◌∷◌, refl, ap, sym, ◌∙◌, arith, if◌then◌else◌}
use Rattle.std.proofs.Math.Seq.{drop-cons}
use Rattle.std.proofs.lemmas.Bool.{true≢false}
use Rattle.std.specs.Map.{lookup}
use Rattle.std.specs.Ordering.{is_eq, eq_by_cmp}
use Rattle.event_model.specs.EventOrder.{name_cmp, same_names}
use Rattle.event_model.specs.declared.atoms.NameArity.{NameArity}
use Rattle.indexmap.specs.IndexMap.{insert_entry}
use Rattle.rule_ast.specs.PlainPlans.{PlainStep, Named, plain_step}
use Rattle.rule_ast.specs.declared.plans.Step.{Step}
use Rattle.pattern_meaning.specs.Depths.{ties_itself}
use Rattle.step_meaning.specs.NamedSteps.{named_is, tests_itself}
use Rattle.step_meaning.specs.PlanOf.{is_named, step_of}
use Rattle.binariser.specs.Making.{AreNarrow, place_in}

pub narrow_insert : (ps : List (NameArity × ℕ)) (n : NameArity) (k : ℕ) → n.arity < 256 → AreNarrow ps
    → AreNarrow (insert_entry (eq_by_cmp name_cmp) ps n k)
narrow_insert [] n k small a = (small, tt)
narrow_insert (p ∷ ps) n k small a = at (is_eq (name_cmp n p.0)) (narrow_insert ps n k small a.1)
  where
    at : (b : Bool) → AreNarrow (insert_entry (eq_by_cmp name_cmp) ps n k)
        → AreNarrow (if b then (p.0, k) ∷ ps else p ∷ insert_entry (eq_by_cmp name_cmp) ps n k)
    at true more = (a.0, a.1)
    at false more = (a.0, more)

-- a name with more arguments has no number
pub too_wide : (ps : List (NameArity × ℕ)) (n : NameArity) → 256 ≤ n.arity → AreNarrow ps → 0 ≡ place_in ps n
too_wide [] n wide a = refl
too_wide (p ∷ ps) n wide a = at (is_eq (name_cmp n p.0)) refl (too_wide ps n wide a.1)
  where
    at : (b : Bool) → is_eq (name_cmp n p.0) ≡ b → 0 ≡ place_in ps n
        → 0 ≡ unwrap_or (cond b (Some p.1) (lookup (eq_by_cmp name_cmp n) ps)) 0
    at true e more =
        let same : n.arity ≡ p.0.arity = ap (λ (m : NameArity). m.arity) (same_names n p.0 e) in
        absurd (omega (arith, wide, same, a.0))
    at false e more = more

-- ---- numbers of steps

same_name : (n m : NameArity) (hs ks : List ℕ) → Named n hs ≡ Named m ks → n ≡ m
same_name n m hs ks e = cc

-- the step of a name is told by the order of names
named_test : (n m : NameArity) (heads : List ℕ) → is_named m (Named n heads) ≡ is_eq (name_cmp n m)
named_test n m heads = at (is_eq (name_cmp n m)) refl (is_named m (Named n heads)) refl
  where
    at : (b : Bool) → is_eq (name_cmp n m) ≡ b → (c : Bool) → is_named m (Named n heads) ≡ c
        → is_named m (Named n heads) ≡ is_eq (name_cmp n m)
    at true e true f = f ∙ sym e
    at false e false f = f ∙ sym e
    at true e false f = absurd (true≢false (sym (tests_itself n heads) ∙ ap (λ k. is_named k (Named n heads)) (same_names n m e) ∙ f))
    at false e true f =
        let is = named_is m (Named n heads) f in
        absurd (true≢false (sym (ties_itself m) ∙ ap (λ k. is_eq (name_cmp k m)) (sym (same_name n m heads is.0 is.1)) ∙ e))

-- the number of a name, where the step of a name comes in front of others
pub named_in_front : (n m : NameArity) (heads : List ℕ) (ss : List PlainStep) (k : ℕ)
    → cond (is_eq (name_cmp n m)) k (suc k + step_of ss m) ≡ k + step_of (Named n heads ∷ ss) m
named_in_front n m heads ss k =
    by (is_eq (name_cmp n m)) ∙ ap (λ b. k + cond b 0 (suc (step_of ss m))) (sym (named_test n m heads))
  where
    by : (b : Bool) → cond b k (suc k + step_of ss m) ≡ k + cond b 0 (suc (step_of ss m))
    by true = omega arith
    by false = omega arith

-- the same where it is the one with the number k of a list, and those behind it have their numbers
pub one_named : (steps : List Step) (k number : ℕ) → number ≡ suc k → k < length steps → (x : Step) → x ≡ get_or steps k x
    → (n : NameArity) (heads : List ℕ) → plain_step x ≡ Named n heads → (place : NameArity → ℕ)
    → ((m : NameArity) → place m ≡ number + step_of (map plain_step (drop number steps)) m) → (m : NameArity)
    → cond (is_eq (name_cmp n m)) k (place m) ≡ k + step_of (map plain_step (drop k steps)) m
one_named steps k number next lt x at n heads is place same m =
    let split : drop k steps ≡ x ∷ drop (suc k) steps = drop-cons steps k x lt ∙ (λ i. sym at i ∷ drop (suc k) steps) in
    ap (cond (is_eq (name_cmp n m)) k) (same m ∙ (λ i. next i + step_of (map plain_step (drop (next i) steps)) m))
    ∙ named_in_front n m heads (map plain_step (drop (suc k) steps)) k
    ∙ ap (λ ss. k + step_of ss m) (sym (ap (map plain_step) split ∙ (λ i. is i ∷ map plain_step (drop (suc k) steps))))
