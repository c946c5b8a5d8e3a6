-- How long the rows of a step can be follows from how long those of its operands can be.
use Rattle.std.specs.Prelude.{ℕ, zero, suc, ◌≡◌, ◌+◌, ◌<◌, refl, Some, List, [], ◌∷◌, ◌++◌, length}
use Rattle.std.proofs.Common.{ap, sym, ◌∙◌, arith, subst, length-append}
use Rattle.std.proofs.lemmas.Option.{none-some, same_Some}
use Rattle.ordered_lists.specs.Lists.{Each}
use Rattle.rule_ast.specs.PlainPlans.{PlainStep, Named, Leaf, Join, Either, Where, Exact, Within, Minus, Head}
use Rattle.step_meaning.specs.StepRows.{step_at}
use Rattle.step_meaning.specs.Operands.{IsLower, AreLower}
use Rattle.horizon_meaning.specs.Lengths.{Length, least, greatest}
use Rattle.horizon_meaning.specs.Caps.{operands, length_at, below_join, below_of, belows, below}
use Rattle.horizon_meaning.specs.Users.{each_lower}

lengths_front : (t : List Length) (x : Length) (i : ℕ) → i < length t → length_at (t ++ x ∷ []) i ≡ length_at t i
lengths_front [] x i h = absurd (omega (arith, h))
lengths_front (y ∷ t) x zero h = refl
lengths_front (y ∷ t) x (suc i) h = lengths_front t x i (omega (arith, h))

lengths_end : (t : List Length) (x : Length) → length_at (t ++ x ∷ []) (length t) ≡ x
lengths_end [] x = refl
lengths_end (y ∷ t) x = lengths_end t x

below_of_same : (at to : ℕ → Length) (s : PlainStep) → Each (λ i. at i ≡ to i) (operands s) → below_of at s ≡ below_of to s
below_of_same at to (Named n heads) a = refl
below_of_same at to (Leaf of p) a = a.0
below_of_same at to (Join op l r) a = λ k. below_join op (a.0 k) (a.1.0 k)
below_of_same at to (Either l r) a = λ k. greatest (a.0 k) (a.1.0 k)
below_of_same at to (Where of c) a = a.0
below_of_same at to (Exact of q) a = ap (least (Some q)) a.0
below_of_same at to (Within of q) a = ap (least (Some q)) a.0
below_of_same at to (Minus j b n f) a = refl
below_of_same at to (Head of head) a = a.0

belows_keep : (ss : List PlainStep) (t : List Length) (i : ℕ) → i < length t → length_at (belows ss t) i ≡ length_at t i
belows_keep [] t i h = refl
belows_keep (s ∷ ss) t i h = let x = below_of (length_at t) s in
    belows_keep ss (t ++ x ∷ []) i (omega (arith, h, length-append t (x ∷ []))) ∙ lengths_front t x i h

belows_own : (ss : List PlainStep) (t : List Length) (i : ℕ) (s : PlainStep) → step_at ss i ≡ Some s → IsLower (length t + i) s
    → length_at (belows ss t) (length t + i) ≡ below_of (length_at (belows ss t)) s
belows_own [] t i s e low = absurd (none-some s e)
belows_own (x ∷ ss) t zero s e low =
    let new = below_of (length_at t) x in
    let here : length t + 0 ≡ length t = omega arith in
    let whole = length_at (belows ss (t ++ new ∷ [])) in
    ap whole here
    ∙ belows_keep ss (t ++ new ∷ []) (length t) (omega (arith, length-append t (new ∷ [])))
    ∙ lengths_end t new
    ∙ ap (below_of (length_at t)) (same_Some x s e)
    ∙ below_of_same (length_at t) whole s (each_lower (λ j. length_at t j ≡ whole j) (length t + 0) s low
    (λ j h. sym (belows_keep ss (t ++ new ∷ []) j (omega (arith, h, length-append t (new ∷ [])))
    ∙ lengths_front t new j (omega (arith, h)))))
belows_own (x ∷ ss) t (suc i) s e low =
    let new = below_of (length_at t) x in
    let there : length (t ++ new ∷ []) + i ≡ length t + suc i = omega (arith, length-append t (new ∷ [])) in
    ap (length_at (belows ss (t ++ new ∷ []))) (sym there)
    ∙ belows_own ss (t ++ new ∷ []) i s e (subst (λ k. IsLower k s) (sym there) low)

pub below_at : (steps : List PlainStep) → AreLower steps → (k : ℕ) (s : PlainStep) → step_at steps k ≡ Some s
    → below steps k ≡ below_of (below steps) s
below_at steps low k s e =
    let none : 0 + k ≡ k = omega arith in
    ap (below steps) (sym none) ∙ belows_own steps [] k s e (subst (λ i. IsLower i s) (sym none) (low k s e))
