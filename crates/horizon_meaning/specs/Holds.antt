-- What caps and reaches promise: a step's operands may be as long as the step's cap, and reach as far back.
use Rattle.std.specs.Prelude.{ℕ, zero, suc, ◌≡◌, ◌+◌, ◌<◌, refl, Bool, true, false, cond, ◌&&◌, Some, List, [], ◌∷◌}
use Rattle.std.proofs.Common.{ap, ◌∙◌, arith, subst}
use Rattle.std.proofs.lemmas.Option.{none-some, same_Some}
use Rattle.rule_ast.specs.PlainPlans.{PlainStep, PlainPlan}
use Rattle.row_changes.specs.declared.caps.Reach.{Reach}
use Rattle.row_changes.specs.Kept.{under, within}
use Rattle.step_meaning.specs.StepRows.{step_at}
use Rattle.step_meaning.specs.Operands.{AreLower}
use Rattle.horizon_meaning.specs.Lengths.{Length, further, under_least, within_further, under_needed}
use Rattle.horizon_meaning.specs.Caps.{is_among, uses, seeks, each_user, below, use_of, above_of, hold_of, holds_from, hold_at, cap_of, reach_of}
use Rattle.horizon_meaning.specs.Users.{or_left, or_right, used_lower}

both : (a b : Bool) → a ≡ true → b ≡ true → (a && b) ≡ true
both a b e f = (λ i. e i && b) ∙ f

module _ (shown : List ℕ) (longest : ℕ → Length) where
  -- what is within a user's cap is within the greatest of the caps
  use_serves : (test : PlainStep → Bool) (i n : ℕ) (ss : List PlainStep) (k : ℕ) (s : PlainStep) → step_at ss k ≡ Some s
      → test s ≡ true → uses i s ≡ true → (m : ℕ) → under (hold_at (holds_from shown longest n ss) k).cap m ≡ true
      → within (use_of test i ss (holds_from shown longest n ss)) m ≡ true
  use_serves test i n [] k s e c u m h = absurd (none-some s e)
  use_serves test i n (x ∷ ss) zero s e c u m h =
      let more = use_of test i ss (holds_from shown longest (n + 1) ss) in
      let cap = (hold_of shown longest n ss (holds_from shown longest (n + 1) ss)).cap in
      let is : x ≡ s = same_Some x s e in
      ap (λ b. within (cond b (further cap more) more) m)
      (both (test x) (uses i x) (ap test is ∙ c) (ap (uses i) is ∙ u))
      ∙ within_further cap more m
      ∙ or_left (under cap m) (within more m) h
  use_serves test i n (x ∷ ss) (suc k) s e c u m h = at (test x && uses i x) (use_serves test i (n + 1) ss k s e c u m h)
    where
      at : (b : Bool) → within (use_of test i ss (holds_from shown longest (n + 1) ss)) m ≡ true
          → within (cond b (further (hold_of shown longest n ss (holds_from shown longest (n + 1) ss)).cap
          (use_of test i ss (holds_from shown longest (n + 1) ss))) (use_of test i ss (holds_from shown longest (n + 1) ss))) m ≡ true
      at true g =
          let more = use_of test i ss (holds_from shown longest (n + 1) ss) in
          let cap = (hold_of shown longest n ss (holds_from shown longest (n + 1) ss)).cap in
          within_further cap more m ∙ or_right (under cap m) (within more m) g
      at false g = g

  above_serves : (given_out : Bool) (users : Reach) (m : ℕ) → within users m ≡ true → under (above_of given_out users) m ≡ true
  above_serves true users m w = refl
  above_serves false users m w = under_needed users m w

  -- the cap of an operand
  cap_serves : (n : ℕ) (ss : List PlainStep) (i k : ℕ) (s : PlainStep) → i < k → step_at ss k ≡ Some s → uses (n + i) s ≡ true
      → (m : ℕ) → under (hold_at (holds_from shown longest n ss) k).cap m ≡ true → under (longest (n + i)) m ≡ true
      → under (hold_at (holds_from shown longest n ss) i).cap m ≡ true
  cap_serves n [] i k s d e u m h b = absurd (none-some s e)
  cap_serves n (x ∷ ss) i zero s d e u m h b = absurd (omega (arith, d))
  cap_serves n (x ∷ ss) zero (suc k) s d e u m h b =
      let z : n + 0 ≡ n = omega arith in
      let users = use_of each_user n ss (holds_from shown longest (n + 1) ss) in
      let used = use_serves each_user n (n + 1) ss k s e refl (subst (λ j. uses j s ≡ true) z u) m h in
      under_least (longest n) (above_of (is_among n shown) users) m
      ∙ both (under (longest n) m) (under (above_of (is_among n shown) users) m) (subst (λ j. under (longest j) m ≡ true) z b)
      (above_serves (is_among n shown) users m used)
  cap_serves n (x ∷ ss) (suc i) (suc k) s d e u m h b =
      let z : n + suc i ≡ n + 1 + i = omega arith in
      let lower : i < k = omega (arith, d) in
      cap_serves (n + 1) ss i k s lower e (subst (λ j. uses j s ≡ true) z u) m h (subst (λ j. under (longest j) m ≡ true) z b)

  -- the reach of an operand
  reach_serves : (n : ℕ) (ss : List PlainStep) (i k : ℕ) (s : PlainStep) → i < k → step_at ss k ≡ Some s → uses (n + i) s ≡ true
      → seeks s ≡ true → (m : ℕ) → under (hold_at (holds_from shown longest n ss) k).cap m ≡ true
      → within (hold_at (holds_from shown longest n ss) i).reach m ≡ true
  reach_serves n [] i k s d e u c m h = absurd (none-some s e)
  reach_serves n (x ∷ ss) i zero s d e u c m h = absurd (omega (arith, d))
  reach_serves n (x ∷ ss) zero (suc k) s d e u c m h =
      let z : n + 0 ≡ n = omega arith in
      use_serves seeks n (n + 1) ss k s e c (subst (λ j. uses j s ≡ true) z u) m h
  reach_serves n (x ∷ ss) (suc i) (suc k) s d e u c m h =
      let z : n + suc i ≡ n + 1 + i = omega arith in
      let lower : i < k = omega (arith, d) in
      reach_serves (n + 1) ss i k s lower e (subst (λ j. uses j s ≡ true) z u) c m h

  -- the cap of a step that gives out what it has is how long its rows can be
  shown_serves : (n : ℕ) (ss : List PlainStep) (i : ℕ) (s : PlainStep) → step_at ss i ≡ Some s → is_among (n + i) shown ≡ true
      → (m : ℕ) → under (longest (n + i)) m ≡ true → under (hold_at (holds_from shown longest n ss) i).cap m ≡ true
  shown_serves n [] i s e g m b = absurd (none-some s e)
  shown_serves n (x ∷ ss) zero s e g m b =
      let z : n + 0 ≡ n = omega arith in
      let users = use_of each_user n ss (holds_from shown longest (n + 1) ss) in
      under_least (longest n) (above_of (is_among n shown) users) m
      ∙ both (under (longest n) m) (under (above_of (is_among n shown) users) m) (subst (λ j. under (longest j) m ≡ true) z b)
      (ap (λ t. under (above_of t users) m) (subst (λ j. is_among j shown ≡ true) z g))
  shown_serves n (x ∷ ss) (suc i) s e g m b =
      let z : n + suc i ≡ n + 1 + i = omega arith in
      shown_serves (n + 1) ss i s e (subst (λ j. is_among j shown ≡ true) z g) m (subst (λ j. under (longest j) m ≡ true) z b)

module _ (plan : PlainPlan) (low : AreLower plan.steps) (k : ℕ) (s : PlainStep) (e : step_at plan.steps k ≡ Some s) where
  start_zero : (i : ℕ) → i ≡ 0 + i
  start_zero i = omega arith

  -- a user's cap is no longer than what is needed of the operand
  pub user_cap : (i : ℕ) → uses i s ≡ true → (m : ℕ) → under (cap_of plan k) m ≡ true → under (below plan.steps i) m ≡ true
      → under (cap_of plan i) m ≡ true
  user_cap i u m h b =
      cap_serves plan.shown (below plan.steps) 0 plan.steps i k s (used_lower k i s (low k s e) u) e
      (subst (λ j. uses j s ≡ true) (start_zero i) u) m h (subst (λ j. under (below plan.steps j) m ≡ true) (start_zero i) b)

  -- and no longer than the operand's reach, where the user looks for partners
  pub user_reach : (i : ℕ) → uses i s ≡ true → seeks s ≡ true → (m : ℕ) → under (cap_of plan k) m ≡ true
      → within (reach_of plan i) m ≡ true
  user_reach i u c m h =
      reach_serves plan.shown (below plan.steps) 0 plan.steps i k s (used_lower k i s (low k s e) u) e
      (subst (λ j. uses j s ≡ true) (start_zero i) u) c m h

  -- no row of a step that gives out what it has is above the step's cap
  pub shown_cap : is_among k plan.shown ≡ true → (m : ℕ) → under (below plan.steps k) m ≡ true → under (cap_of plan k) m ≡ true
  shown_cap g m b =
      shown_serves plan.shown (below plan.steps) 0 plan.steps k s e (subst (λ j. is_among j plan.shown ≡ true) (start_zero k) g) m
      (subst (λ j. under (below plan.steps j) m ≡ true) (start_zero k) b)
