-- The cap and the reach of a step are those over all users in the plan: no user stands before the step.
use Rattle.std.specs.Prelude.{ℕ, zero, suc, ◌≡◌, ◌+◌, ◌<◌, ◌≤◌, refl, Bool, true, false, cond, ◌&&◌, Some, List, [], ◌∷◌}
use Rattle.std.proofs.Common.{ap, sym, ◌∙◌, arith, subst}
use Rattle.std.proofs.lemmas.Option.{none-some}
use Rattle.rule_ast.specs.PlainPlans.{PlainStep, PlainPlan}
use Rattle.row_changes.specs.declared.caps.Reach.{Reach}
use Rattle.step_meaning.specs.StepRows.{step_at}
use Rattle.step_meaning.specs.Operands.{AreLower}
use Rattle.horizon_meaning.specs.Lengths.{Length, least, further}
use Rattle.horizon_meaning.specs.Caps.{Hold, above_of, below, cap_of, each_user, hold_at, holds, holds_from, is_among, reach_of, seeks, use_of, uses}
use Rattle.horizon_meaning.specs.Users.{used_lower}

-- the hold of step i over all users among these steps
abbrev pub whole_hold : (shown : List ℕ) (longest : ℕ → Length) → ℕ → List PlainStep → List Hold → Hold
whole_hold shown longest i ss hs = record {
  cap = least (longest i) (above_of (is_among i shown) (use_of each_user i ss hs));
  reach = use_of seeks i ss hs;
}

unused : (test : PlainStep → Bool) (x : PlainStep) (u : Bool) (one more : Reach) → u ≡ false → more ≡ cond (test x && u) one more
unused test x u one more e = at (test x) ∙ sym (ap (λ b. cond (test x && b) one more) e)
  where
    at : (t : Bool) → more ≡ cond (t && false) one more
    at true = refl
    at false = refl

module _ (shown : List ℕ) (longest : ℕ → Length) where
  -- a step before all users has none among those before
  same_hold : (i j : ℕ) (x : PlainStep) (ss : List PlainStep) (h : Hold) (hs : List Hold) → i ≡ j → uses j x ≡ false
      → whole_hold shown longest i ss hs ≡ whole_hold shown longest j (x ∷ ss) (h ∷ hs)
  same_hold i j x ss h hs e u =
      ap (λ k. whole_hold shown longest k ss hs) e
      ∙ (λ k. record {
        cap = least (longest j) (above_of (is_among j shown)
            (unused each_user x (uses j x) (further h.cap (use_of each_user j ss hs)) (use_of each_user j ss hs) u k));
        reach = unused seeks x (uses j x) (further h.cap (use_of seeks j ss hs)) (use_of seeks j ss hs) u k;
      })

  hold_is : (n : ℕ) (ss : List PlainStep) (i : ℕ) (s : PlainStep) → step_at ss i ≡ Some s
      → ((k : ℕ) (x : PlainStep) → step_at ss k ≡ Some x → k ≤ i → uses (n + i) x ≡ false)
      → hold_at (holds_from shown longest n ss) i ≡ whole_hold shown longest (n + i) ss (holds_from shown longest n ss)
  hold_is n [] i s e free = absurd (none-some s e)
  hold_is n (x ∷ ss) zero s e free =
      let z : n ≡ n + 0 = omega arith in
      let first : 0 ≤ 0 = omega arith in
      same_hold n (n + 0) x ss (hold_at (holds_from shown longest n (x ∷ ss)) 0) (holds_from shown longest (n + 1) ss) z
      (free 0 x refl first)
  hold_is n (x ∷ ss) (suc i) s e free =
      let z : n + 1 + i ≡ n + suc i = omega arith in
      let first : 0 ≤ suc i = omega arith in
      hold_is (n + 1) ss i s e
      (λ k y at le. let less : suc k ≤ suc i = omega (arith, le) in subst (λ j. uses j y ≡ false) (sym z) (free (suc k) y at less))
      ∙ same_hold (n + 1 + i) (n + suc i) x ss (hold_at (holds_from shown longest n (x ∷ ss)) 0) (holds_from shown longest (n + 1) ss) z
      (free 0 x refl first)

module _ (plan : PlainPlan) (low : AreLower plan.steps) (i : ℕ) (s : PlainStep) (e : step_at plan.steps i ≡ Some s) where
  no_user : (k : ℕ) (x : PlainStep) → step_at plan.steps k ≡ Some x → k ≤ i → uses (0 + i) x ≡ false
  no_user k x at le = by (uses (0 + i) x) refl
    where
      by : (b : Bool) → uses (0 + i) x ≡ b → uses (0 + i) x ≡ false
      by true u = let lt : 0 + i < k = used_lower k (0 + i) x (low k x at) u in absurd (omega (arith, lt, le))
      by false u = u

  whole : hold_at (holds plan) i ≡ whole_hold plan.shown (below plan.steps) i plan.steps (holds plan)
  whole =
      let z : 0 + i ≡ i = omega arith in
      hold_is plan.shown (below plan.steps) 0 plan.steps i s e no_user
      ∙ ap (λ k. whole_hold plan.shown (below plan.steps) k plan.steps (holds plan)) z

  -- the cap is the lesser of how long the rows can be and of the greatest cap of all users, where the step isn't given out
  pub cap_whole : cap_of plan i
      ≡ least (below plan.steps i) (above_of (is_among i plan.shown) (use_of each_user i plan.steps (holds plan)))
  cap_whole = ap (λ h. h.cap) whole

  -- the reach is the greatest cap of all users that look for partners
  pub reach_whole : reach_of plan i ≡ use_of seeks i plan.steps (holds plan)
  reach_whole = ap (λ h. h.reach) whole
