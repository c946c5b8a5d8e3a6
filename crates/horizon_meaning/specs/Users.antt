-- The operands of a step one by one; a step's supports depend on the rows of its operands.
use Rattle.std.specs.Prelude.{ℕ, zero, suc, ◌≡◌, ◌<◌, ◌≤◌, ◌==◌, nat_lt, refl, Bool, true, false, ◌||◌, List, [], ◌∷◌, ◌++◌, map}
use Rattle.std.specs.List.{filter, flat_map}
use Rattle.std.proofs.Common.{ap, sym, arith, subst}
use Rattle.std.proofs.lemmas.Bool.{true≢false}
use Rattle.std.proofs.lemmas.Bool.Decides.{nat_tests}
use Rattle.ordered_lists.specs.Lists.{joins, Each}
use Rattle.ordered_lists.specs.Members.{without}
use Rattle.event_model.specs.declared.events.Event.{Event}
use Rattle.event_model.specs.declared.operators.Op.TheVariants.{Seq}
use Rattle.ev_bind.specs.Rows.{row_cmp}
use Rattle.ev_bind.specs.declared.rows.Row.{Row}
use Rattle.rule_ast.specs.PlainPlans.{PlainStep, Named, Leaf, Join, Either, Where, Exact, Within, Minus, Head}
use Rattle.term_eval.specs.Values.{holds}
use Rattle.pattern_meaning.specs.PatternRows.{rows_of, matched, events_of, head_row}
use Rattle.pattern_meaning.specs.RuleRows.{joined, joined_rows, is_long, is_short}
use Rattle.step_meaning.specs.Operands.{IsLower}
use Rattle.step_meaning.specs.StepRows.{supports}
use Rattle.horizon_meaning.specs.Caps.{operands, is_among, uses}

pub or_left : (a b : Bool) → a ≡ true → (a || b) ≡ true
or_left a b e = ap (λ x. x || b) e

pub or_right : (a b : Bool) → b ≡ true → (a || b) ≡ true
or_right true b e = refl
or_right false b e = e

-- ---- each operand

itself : (i : ℕ) → (i == i) ≡ true
itself i = grind (arith, nat_tests)

same_number : (i j : ℕ) → (i == j) ≡ true → i ≡ j
same_number i j e = grind (arith, nat_tests)

module _ (P : ℕ → Type 0) where
  pub each_among : (is : List ℕ) → ((i : ℕ) → is_among i is ≡ true → P i) → Each P is
  each_among [] h = tt
  each_among (x ∷ is) h =
      (h x (or_left (x == x) (is_among x is) (itself x)), each_among is (λ i e. h i (or_right (x == i) (is_among i is) e)))

  pub one_among : (is : List ℕ) → Each P is → (i : ℕ) → is_among i is ≡ true → P i
  one_among [] a i e = absurd (true≢false (sym e))
  one_among (x ∷ is) a i e = at (x == i) refl e (one_among is a.1 i)
    where
      at : (b : Bool) → (x == i) ≡ b → (b || is_among i is) ≡ true → (is_among i is ≡ true → P i) → P i
      at true d e more = subst P (same_number x i d) a.0
      at false d e more = more e

pub lower_operands : (k : ℕ) (s : PlainStep) → IsLower k s → Each (λ i. i < k) (operands s)
lower_operands k (Named n heads) h = h
lower_operands k (Leaf of p) h = (h, tt)
lower_operands k (Join op l r) h = (h.0, (h.1, tt))
lower_operands k (Either l r) h = (h.0, (h.1, tt))
lower_operands k (Where of c) h = (h, tt)
lower_operands k (Exact of q) h = (h, tt)
lower_operands k (Within of q) h = (h, tt)
lower_operands k (Minus j b n f) h = (h.0, (h.1, (h.2, (h.3, tt))))
lower_operands k (Head of head) h = (h, tt)

-- an operand has a lower number
pub used_lower : (k i : ℕ) (s : PlainStep) → IsLower k s → uses i s ≡ true → i < k
used_lower k i s h u = one_among (λ i. i < k) (operands s) (lower_operands k s h) i u

-- what holds of all lower numbers holds of the operands
pub each_lower : (P : ℕ → Type 0) (k : ℕ) (s : PlainStep) → IsLower k s → ((i : ℕ) → i < k → P i) → Each P (operands s)
each_lower P k s low h = each_among P (operands s) (λ i u. h i (used_lower k i s low u))

-- ---- supports

module _ (events : List Event) (at to : ℕ → List Row) where
  heads_same : (hs : List ℕ) → Each (λ i. at i ≡ to i) hs → flat_map at hs ≡ flat_map to hs
  heads_same [] a = refl
  heads_same (h ∷ hs) a = λ k. a.0 k ++ heads_same hs a.1 k

  -- they depend on the rows of the operands
  pub supports_of_operands : (s : PlainStep) → Each (λ i. at i ≡ to i) (operands s) → supports events at s ≡ supports events to s
  supports_of_operands (Named n heads) a = ap (λ l. rows_of (events_of events n) ++ l) (heads_same heads a)
  supports_of_operands (Leaf of p) a = ap (flat_map (matched p)) a.0
  supports_of_operands (Join op l r) a = λ k. joins (joined op) (a.0 k) (a.1.0 k)
  supports_of_operands (Either l r) a = λ k. a.0 k ++ a.1.0 k
  supports_of_operands (Where of c) a = ap (filter (λ r. holds c r.binding)) a.0
  supports_of_operands (Exact of q) a = ap (filter (is_long q)) a.0
  supports_of_operands (Within of q) a = ap (filter (is_short q)) a.0
  supports_of_operands (Minus j b n f) a =
      λ k. without row_cmp (a.0 k) (joined_rows Seq (joined_rows Seq (a.1.0 k) (a.1.1.0 k)) (a.1.1.1.0 k))
  supports_of_operands (Head of head) a = ap (map (head_row head)) a.0

-- ---- numbers

module _ (P : ℕ → Type 0) (h : (k : ℕ) → ((i : ℕ) → i < k → P i) → P k) where
  all_under : (k : ℕ) → (i : ℕ) → i < k → P i
  all_under zero i l = absurd (omega (arith, l))
  all_under (suc k) i l = at (all_under k) (nat_lt i k) refl
    where
      at : ((j : ℕ) → j < k → P j) → (b : Bool) → nat_lt i k ≡ b → P i
      at lower true e = let g : i < k = grind (arith, nat_tests) in lower i g
      at lower false e =
          let m : k ≤ i = grind (arith, nat_tests) in
          let g : k ≡ i = omega (arith, l, m) in
          subst P g (h k lower)

  -- what each number has if all lower ones have it
  pub by_lower : (k : ℕ) → P k
  by_lower k = h k (all_under k)
